use Rattle.std.proofs.Common.{◌≡◌, ℕ, ◌<◌, length, get_or, take}
use Rattle.rules.specs.Questions.{numbers}
use Rattle.rank_grid.specs.Ranks.{rank}
use Rattle.rank_grid.proofs.runs.write_ranks.Given as goal

abbrev pub invariant-loop-i : goal.invariant-loop-i
invariant-loop-i l = (p : ℕ) → p < length l.run → get_or l.run p 0 ≡ rank (take l.i (numbers l.list)) p
