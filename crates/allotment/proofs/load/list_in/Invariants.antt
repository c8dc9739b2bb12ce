use Rattle.std.proofs.Common.{◌≡◌, take}
use Rattle.rules.specs.Meaning.{list_of}
use Rattle.allotment.specs.Vectors.{chosen}
use Rattle.allotment.proofs.load.list_in.Given as goal

abbrev pub invariant-loop-k : goal.invariant-loop-k
invariant-loop-k g l = chosen l.list ≡ take l.k (list_of (g.R.Roll.entries l.roll) l.t.0)
