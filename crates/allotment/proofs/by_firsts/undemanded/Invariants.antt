use Rattle.std.proofs.Common.{◌≡◌, ℕ, map, take}
use Rattle.allotment.proofs.by_firsts.undemanded.Given as goal

abbrev pub invariant-loop-places : goal.invariant-loop-places
invariant-loop-places l = l.demands.items ≡ map (λ (n : ℕ). record { firsts = 0; places = n }) (take l.places-index l.initial.places)
