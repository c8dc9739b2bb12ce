use Rattle.std.proofs.Common.{◌≡◌, ◌+◌, true, false, length, get_or, ap, ◌∙◌, subst, arith, below_more}
use Rattle.std.proofs.lemmas.Bool.{both_ways}
use Rattle.assignment.specs.declared.row.Choice.{Choice}
use Rattle.assignment.specs.declared.row.Row.{Row}
use Rattle.assignment.specs.Rows.{no_choice, choices_in, weight_of}
use Rattle.assignment.specs.Searches.{marked}
use Rattle.assignment.specs.States.{row, choice, value, price}
use Rattle.assignment.proofs.Gaps.{none_priced, none_lacks, choice_lacks, spare_choices}
use Rattle.assignment.proofs.search.Search.row_slack.Goals as goal
use Rattle.assignment.proofs.search.Search.row_slack.Goals.{then-not-self-choice, else-not-self-choice}

pub overflow_sub-self : goal.overflow_sub-self
overflow_sub-self c =
    let s = c.args.self.now in
    omega (arith, ap (λ (r : Row). r.none) c.row-row.ensures, none_priced s.table.now s.state.now c.args.t s.ready c.requires.known)

pub loop-choice-init : goal.loop-choice-init
loop-choice-init c =
    let s = c.args.self.now in
    record {
      some = omega (
        arith,
        c.min-d.ensures,
        ap (λ (r : Row). r.none) c.row-row.ensures,
        c.requires.some,
        none_lacks s.table.now s.state.now c.args.t s.ready c.requires.known s.reached c.requires.closed,
      );
      most = omega arith;
      spare = λ j l. absurd (omega arith);
    }

pub loop-choice-preserved : goal.loop-choice-preserved
loop-choice-preserved c =
    let s = c.args.self.now in
    let T = s.table.now in
    let S = s.state.now in
    let t = c.args.t in
    let i = c.loop-choice.choice-index in
    let v = c.loop-choice.invariant in
    let e = c.list-choice-items.ensures ∙ ap choices_in c.row-row.ensures in
    let here = ap (λ xs. get_or xs i no_choice) e in
    elim c.if-not-self-choice.branch [
      | then-not-self-choice w ↦
          let out : marked s.reached (choice T t i) ≡ false = subst (λ (x : Choice). marked s.reached x.practice.0 ≡ false) here w.if-not-self-choice.true in
          let lacks : weight_of (row T t) i + w.gap.result ≡ value S t + price S (choice T t i) =
          subst (λ (x : Choice). x.weight + w.gap.result ≡ value S t + price S x.practice.0) here w.gap.ensures in
          let more = choice_lacks T S t s.ready c.requires.known s.reached c.requires.closed i (omega (arith, ap length e)) out in
          record {
            some = omega (arith, v.some, w.d-is, w.min-d-then-not-self-choice.ensures, lacks, more);
            most = omega (arith, v.most, w.d-is, w.min-d-then-not-self-choice.ensures);
            spare = below_more _ _ (λ j l o. omega (arith, v.spare j l o, w.d-is, w.min-d-then-not-self-choice.ensures))
                (λ _. omega (arith, w.d-is, w.min-d-then-not-self-choice.ensures, lacks));
          }
      | else-not-self-choice w ↦
          let near : marked s.reached (choice T t i) ≡ true = subst (λ (x : Choice). marked s.reached x.practice.0 ≡ true) here w.if-not-self-choice.false in
          record {
            some = omega (arith, v.some, w.d-is);
            most = omega (arith, v.most, w.d-is);
            spare = below_more _ _ (λ j l o. omega (arith, v.spare j l o, w.d-is)) (λ o. absurd (both_ways _ o near));
          }
    ]

pub returns-clause-spare : goal.returns-clause-spare
returns-clause-spare c =
    let s = c.args.self.now in
    let T = s.table.now in
    let S = s.state.now in
    let v = c.loop-choice.invariant in
    let e = c.list-choice-items.ensures ∙ ap choices_in c.row-row.ensures in
    spare_choices T S c.args.t s.ready c.requires.known s.reached c.loop-choice.d
    (omega (arith, v.most, c.min-d.ensures, ap (λ (r : Row). r.none) c.row-row.ensures, none_priced T S c.args.t s.ready c.requires.known))
    (λ j l. v.spare j (omega (arith, ap length e)))
