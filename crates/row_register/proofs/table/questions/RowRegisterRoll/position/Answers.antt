use Rattle.std.proofs.Common.{◌≡◌, ◌==◌, ℕ, List, Option, sym, ap, ◌∙◌}
use Rattle.std.specs.List.{position}
use Rattle.rules.specs.Questions.{position_in}
use Rattle.rules.proofs.Finding.{found_in}
use Rattle.row_register.proofs.table.questions.RowRegisterRoll.position.Goals as goal

placed : (o : Option ℕ) (xs list : List ℕ) (p : ℕ) → o ≡ position (λ q. q == p) xs → xs ≡ list → o ≡ position_in list p
placed o xs list p h e = h ∙ found_in xs p ∙ ap (λ (ys : List ℕ). position_in ys p) e

pub returns-in_err-k : goal.returns-in_err-k
returns-in_err-k c = c.from_residual.ensures ∙ sym c.in_err-k.was ∙ placed _ _ _ c.args.p.0 c.place_of.ensures c.list.ensures

pub returns : goal.returns
returns c = sym c.in_ok-k.was ∙ placed _ _ _ c.args.p.0 c.place_of.ensures c.list.ensures
