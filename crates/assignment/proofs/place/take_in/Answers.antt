use Rattle.std.proofs.Common.{sym, ◌∙◌}
use Rattle.assignment.specs.Progress.{progress}
use Rattle.assignment.specs.Raises.{Slack}
use Rattle.assignment.specs.Searches.{Ended, Covered}
use Rattle.assignment.proofs.Growth.{along}
use Rattle.assignment.proofs.Rises.{raisable, lowerable, ready_rise}
use Rattle.assignment.proofs.Settles.{chained, roomy, sound_settled}
use Rattle.assignment.proofs.Truths.{explored_at}
use Rattle.assignment.proofs.place.take_in.Goals as goal

pub reach-requires : goal.reach-requires
reach-requires c =
    let s = c.begin-search.result in
    along (λ T S. Covered T S (progress s)) (sym c.begin-search.ensures.table) (sym c.begin-search.ensures.state) c.begin-search.ensures.covered

pub settle-requires-clause-chain : goal.settle-requires-clause-chain
settle-requires-clause-chain c =
    let T = c.args.table.now in
    let S = c.loop-end.state in
    let s = c.reach.new.self in
    let b = c.begin-search.ensures in
    let x = explored_at s T S (c.reach.ensures.kept.table ∙ b.table) (c.reach.ensures.kept.state ∙ b.state) in
    chained T S (progress s) c.in-Some.end c.loop-end.invariant.ready x
    (along (λ A B. Ended A B s.reached c.in-Some.end) b.table b.state c.in-Some.ensures.sought)

pub settle-requires-clause-room : goal.settle-requires-clause-room
settle-requires-clause-room c =
    let T = c.args.table.now in
    let S = c.loop-end.state in
    let s = c.reach.new.self in
    let b = c.begin-search.ensures in
    let x = explored_at s T S (c.reach.ensures.kept.table ∙ b.table) (c.reach.ensures.kept.state ∙ b.state) in
    roomy T S (progress s) c.in-Some.end c.loop-end.invariant.ready x
    (along (λ A B. Ended A B s.reached c.in-Some.end) b.table b.state c.in-Some.ensures.sought)

pub returns-in-Some-clause-sound : goal.returns-in-Some-clause-sound
returns-in-Some-clause-sound c =
    let T = c.args.table.now in
    let S = c.loop-end.state in
    let s = c.reach.new.self in
    let b = c.begin-search.ensures in
    let x = explored_at s T S (c.reach.ensures.kept.table ∙ b.table) (c.reach.ensures.kept.state ∙ b.state) in
    sound_settled T S (progress s) c.in-Some.end c.loop-end.invariant.ready x
    (along (λ A B. Ended A B s.reached c.in-Some.end) b.table b.state c.in-Some.ensures.sought) c.settle.new.self c.settle.ensures

pub raise-requires-clause-prices : goal.raise-requires-clause-prices
raise-requires-clause-prices c =
    let T = c.args.table.now in
    let S = c.loop-end.state in
    let s = c.reach.new.self in
    let t = c.reach.ensures.kept.table ∙ c.begin-search.ensures.table in
    let u = c.reach.ensures.kept.state ∙ c.begin-search.ensures.state in
    raisable T S (progress s) c.slack-d.result c.loop-end.invariant.ready (explored_at s T S t u)
    (along (λ A B. Slack A B s.reached c.slack-d.result) t u c.slack-d.ensures.slack)

pub raise-requires-clause-values : goal.raise-requires-clause-values
raise-requires-clause-values c =
    let T = c.args.table.now in
    let S = c.loop-end.state in
    let s = c.reach.new.self in
    let t = c.reach.ensures.kept.table ∙ c.begin-search.ensures.table in
    let u = c.reach.ensures.kept.state ∙ c.begin-search.ensures.state in
    lowerable T S (progress s) c.slack-d.result c.loop-end.invariant.ready (explored_at s T S t u)
    (along (λ A B. Slack A B s.reached c.slack-d.result) t u c.slack-d.ensures.slack)

pub loop-end-preserved : goal.loop-end-preserved
loop-end-preserved c =
    let T = c.args.table.now in
    let S = c.loop-end.state in
    let s = c.reach.new.self in
    let t = c.reach.ensures.kept.table ∙ c.begin-search.ensures.table in
    let u = c.reach.ensures.kept.state ∙ c.begin-search.ensures.state in
    record {
      ready = ready_rise T S (progress s) c.slack-d.result c.loop-end.invariant.ready (explored_at s T S t u)
          (along (λ A B. Slack A B s.reached c.slack-d.result) t u c.slack-d.ensures.slack) c.raise.new.self c.raise.ensures;
      newcomer = c.raise.ensures.newcomer ∙ c.loop-end.invariant.newcomer;
    }
