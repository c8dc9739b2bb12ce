use Rattle.std.proofs.Common.{◌≡◌, length, take, filter, not, sym, ap, ◌∙◌, rules}
use Rattle.std.specs.Option.{option_map}
use Rattle.rules.specs.Meaning.{list_of}
use Rattle.rules.specs.Questions.{position_in}
use Rattle.layers.specs.Shown.{unclosed}
use Rattle.layers.specs.Kept.{list_without}
use Rattle.layers.proofs.Filtered.{position_left, position_kept}
use Rattle.layers.proofs.closed.ClosedRoll.position.Goals as goal

pub returns-then-is_closed : goal.returns-then-is_closed
returns-then-is_closed g c =
    let s = c.args.self.now in
    let e = g.R.Roll.entries s.below in
    let p = c.args.p.0 in
    position_left (unclosed s.closed) (list_of e c.args.t.0) p (ap not (sym c.if-is_closed.ensures)) ∙ sym (ap (λ l. position_in l p) (list_without s.closed e c.args.t.0))

pub returns : goal.returns
returns g c =
    let s = c.args.self.now in
    let e = g.R.Roll.entries s.below in
    let t = c.args.t.0 in
    let p = c.args.p.0 in
    let test = unclosed s.closed in
    let is : c.map.result ≡ option_map (λ k. length (filter test (take k (list_of e t)))) (position_in (list_of e t) p) = search rules in
    is ∙ position_kept test (list_of e t) p (ap not (sym c.if-is_closed.ensures)) ∙ sym (ap (λ l. position_in l p) (list_without s.closed e t))
