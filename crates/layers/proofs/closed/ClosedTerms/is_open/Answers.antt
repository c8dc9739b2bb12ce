use Rattle.std.proofs.Common.{◌≡◌, false, not, sym, ap, ◌∙◌}
use Rattle.rules.specs.Meaning.{meant, is_open}
use Rattle.layers.specs.Shown.{without_meaning}
use Rattle.layers.proofs.Entered.{open_without}
use Rattle.layers.proofs.closed.ClosedTerms.is_open.Goals as goal

pub returns-then-is_open : goal.returns-then-is_open
returns-then-is_open g c =
    let s = c.args.self.now in
    let m = meant g.R.Roll.entries g.R.Terms.rules s.below in
    ap not c.is_closed.ensures ∙ sym (open_without s.closed m c.args.p.0 ∙ rw (sym c.if-is_open.ensures))

pub returns-else-is_open : goal.returns-else-is_open
returns-else-is_open g c =
    let s = c.args.self.now in
    let m = meant g.R.Roll.entries g.R.Terms.rules s.below in
    let e : is_open (without_meaning s.closed m) c.args.p.0 ≡ false = open_without s.closed m c.args.p.0 ∙ rw (sym c.if-is_open.ensures) in
    c.if-is_open.false ∙ sym e
