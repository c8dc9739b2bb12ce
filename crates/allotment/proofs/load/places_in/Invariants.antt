use Rattle.std.proofs.Common.{◌≡◌, take}
use Rattle.allotment.proofs.load.places_in.Given as goal

abbrev pub invariant-loop-p : goal.invariant-loop-p
invariant-loop-p g l = l.places.items ≡ take l.p (g.R.Roll.entries l.roll).places
