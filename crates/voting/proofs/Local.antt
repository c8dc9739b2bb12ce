-- The local description of the unbeaten placements.
use Rattle.std.proofs.Common.{◌≡◌, ℕ, ◌<◌, ◌⊎◌, List, [], ◌∷◌, Some, inl, inr, arith}
use Rattle.rules.specs.Meaning.{Entries, Strict, Lawful, trainees, practices, places_of, list_of}
use Rattle.voting.specs.Placements.{Placement, Feasible}
use Rattle.voting.specs.Votes.{Beats, Unbeaten}
use Rattle.voting.specs.Local.{first_choice, WellFormed, LocalDescription}
use Rattle.voting.proofs.Sufficiency.{well_formed_unbeaten}
use Rattle.voting.proofs.Necessity.{unbeaten_well_formed}
use Rattle.voting.proofs.Search.{rival_or_unbeaten}

first_below : (m : ℕ) (list : List ℕ) (q : ℕ) → Strict m list → first_choice list ≡ Some q → q < m
first_below m [] q s k = let z : ◌≡◌ {A = ℕ} 0 1 = cc in absurd (omega arith)
first_below m (p ∷ ps) q s k = let same : p ≡ q = cc in omega (arith, s.below 0 (omega arith), same)

-- by the law of a roll each first choice has a place
pub first_has_place : (e : Entries) → Lawful e → (t q : ℕ) → t < trainees e → first_choice (list_of e t) ≡ Some q → 0 < places_of e q
first_has_place e law t q l k = omega (arith, (law.places_range q (first_below (practices e) (list_of e t) q (law.lists_strict t l) k)).0)

pub local_description : LocalDescription
local_description e law M f = (needed, λ w. well_formed_unbeaten e M f w, either (rival_or_unbeaten e M f))
  where
    needed : Unbeaten e M → WellFormed e M
    needed un = unbeaten_well_formed e M (first_has_place e law) un

    either : ((N : Placement) × Feasible e N × Beats e N M) ⊎ Unbeaten e M → WellFormed e M ⊎ ((N : Placement) × Feasible e N × Beats e N M)
    either (inl r) = inr r
    either (inr un) = inl (needed un)
