use Rattle.std.proofs.Common.{◌<◌, ◌≤◌, List, ℕ, length, ap, ◌∙◌, arith, rules}
use Rattle.rules.specs.Questions.{position_in}
use Rattle.rules.proofs.Lawfully.{lawful_from}
use Rattle.sheet.specs.Opening.{entries_in}
use Rattle.rules.proofs.Finding.{found_in, found_within}
use Rattle.sheet.proofs.Sheets.{list_short}
use Rattle.sheet.proofs.opening.OpenSheetRoll.position.Goals as goal

pub returns-in_err-k : goal.returns-in_err-k
returns-in_err-k c =
    let p = c.args.p.0 in
    c.from_residual.ensures ∙ c.in_err-k.ensures ∙ found_in c.list.result.now p ∙ ap (λ (xs : List ℕ). position_in xs p) c.list.ensures

pub overflow_cast-result : goal.overflow_cast-result
overflow_cast-result c =
    let s = c.args.self.now in
    let list = c.list.result.now in
    let short : length list ≤ 12 = omega (arith, ap length c.list.ensures, list_short (entries_in s) (lawful_from s.lawful) c.args.t.0) in
    let h : c.in_ok-k.k < 12 = omega (arith, found_within list c.args.p.0 c.in_ok-k.k c.in_ok-k.ensures) in
    search rules

pub returns : goal.returns
returns c =
    let p = c.args.p.0 in
    c.in_ok-k.ensures ∙ found_in c.list.result.now p ∙ ap (λ (xs : List ℕ). position_in xs p) c.list.ensures
