-- The weights by which the heaviest placements are the strongest rivals of M.
use Rattle.std.specs.Prelude.{cond}
use Rattle.rules.specs.Meaning.{Entries, list_of}
use Rattle.voting.specs.Placements.{Placement}
use Rattle.voting.specs.Votes.{prefers}
use Rattle.voting.specs.Weights.{Weighing}

-- 2 for a seat that the trainee prefers to the own seat in M, 0 where it is the other way round, else 1
abbrev pub ballot : Entries → Placement → Weighing
ballot e M t s = cond (prefers (list_of e t) s (M t)) 2 (cond (prefers (list_of e t) (M t) s) 0 1)
