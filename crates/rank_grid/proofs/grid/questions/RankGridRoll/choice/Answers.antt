use Rattle.std.proofs.Common.{ℕ, ◌+◌, ◌==◌, List, length, ap, ◌∙◌, arith}
use Rattle.std.specs.List.{position}
use Rattle.rank_grid.specs.Grid.{grid_meaning}
use Rattle.rules.proofs.Finding.{found_within}
use Rattle.rank_grid.proofs.Running.{choice_by_place, run_wide}
use Rattle.rank_grid.proofs.grid.questions.RankGridRoll.choice.Goals as goal

pub returns-in_err-p : goal.returns-in_err-p
returns-in_err-p c =
    let s = c.args.self.now in
    let k = c.args.k in
    let h = choice_by_place (grid_meaning s).entries s.law c.args.t.0 k c.place_of.result (c.place_of.ensures ∙ ap (λ (xs : List ℕ). position (λ r. r == (k + 1)) xs) c.run.ensures) in
    c.from_residual.ensures ∙ (rw c.in_err-p.was at h)

pub overflow_cast-result : goal.overflow_cast-result
overflow_cast-result c =
    let s = c.args.self.now in
    omega (arith, found_within c.run.result.now (c.args.k + 1) c.in_ok-p.p c.in_ok-p.ensures, ap length c.run.ensures, run_wide (grid_meaning s).entries s.law c.args.t.0, s.law.few_practices)

pub returns : goal.returns
returns c =
    let s = c.args.self.now in
    let k = c.args.k in
    let h = choice_by_place (grid_meaning s).entries s.law c.args.t.0 k c.place_of.result (c.place_of.ensures ∙ ap (λ (xs : List ℕ). position (λ r. r == (k + 1)) xs) c.run.ensures) in
    rw c.in_ok-p.was at h
