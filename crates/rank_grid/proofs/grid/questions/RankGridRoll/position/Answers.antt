use Rattle.std.proofs.Common.{ℕ, List, get_or, unwrap_or, ap, ◌∙◌, le_refl}
use Rattle.rank_grid.specs.Grid.{grid_meaning}
use Rattle.rank_grid.proofs.Running.{run_rank, position_by_rank}
use Rattle.rank_grid.proofs.grid.questions.RankGridRoll.position.Goals as goal

pub returns : goal.returns
returns c =
    let s = c.args.self.now in
    let p = c.args.p.0 in
    position_by_rank c.checked_sub.result _ p c.unwrap_or-rank.result c.checked_sub.ensures
    (c.unwrap_or-rank.ensures ∙ ap (λ o. unwrap_or o 0) c.copied.ensures ∙ c.get.ensures.lookup.4 (le_refl p) 0 ∙ ap (λ (xs : List ℕ). get_or xs p 0) c.run.ensures ∙ run_rank (grid_meaning s).entries s.law c.args.t.0 p)
