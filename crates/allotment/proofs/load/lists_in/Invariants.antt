use Rattle.std.proofs.Common.{◌≡◌, map, take}
use Rattle.allotment.specs.Vectors.{chosen}
use Rattle.allotment.proofs.load.lists_in.Given as goal

abbrev pub invariant-loop-t : goal.invariant-loop-t
invariant-loop-t g l = map chosen l.lists.items ≡ take l.t (g.R.Roll.entries l.roll).lists
