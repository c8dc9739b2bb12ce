use Rattle.std.proofs.Common.{List, ℕ, max, unwrap_or, ap, ◌∙◌}
use Rattle.std.specs.List.{reduce}
use Rattle.rank_grid.specs.Grid.{grid_meaning}
use Rattle.rank_grid.proofs.Running.{run_greatest}
use Rattle.rank_grid.proofs.grid.questions.RankGridRoll.list_length.Goals as goal

pub returns : goal.returns
returns c =
    let s = c.args.self.now in
    c.greatest.ensures ∙ ap (λ (xs : List ℕ). unwrap_or (reduce max xs) 0) c.run.ensures ∙ run_greatest (grid_meaning s).entries s.law c.args.t.0
