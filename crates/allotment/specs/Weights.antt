-- The weights by which allot and challenge seek.
use Rattle.std.specs.Prelude.{◌≡◌, ℕ, cond, not, ◌&&◌, List, Some, None, nat_lt, slice_index_or}
use Rattle.rules.specs.Meaning.{Entries, places_of, list_of}
use Rattle.voting.specs.Placements.{Seat, sits}
use Rattle.voting.specs.Votes.{prefers}
use Rattle.voting.specs.Local.{first_choice, first_count, earliest}
use Rattle.voting.specs.Weights.{Weighing}
use Rattle.allotment.specs.declared.by_firsts.Demand.{Demand}
use Rattle.allotment.specs.declared.by_firsts.ByFirsts.{ByFirsts}

-- the earliest practice on the list, other than the first choice, whose first count is below its places
abbrev pub fallback_on : (ℕ → ℕ) → (ℕ → ℕ) → List ℕ → Seat
fallback_on counts places list = earliest (λ p. not (sits (first_choice list) p) && nat_lt (counts p) (places p)) list

-- 401 · 402 for the fallback, and 401 more where it is a practice
abbrev pub fallback_weight : Seat → Seat → ℕ
fallback_weight None None = 161202
fallback_weight None (Some p) = 0
fallback_weight (Some q) s = cond (sits s q) 161603 0

-- one more for the first choice; the fallback weighs where the first count exceeds the places; nothing without a list
abbrev pub weight_after : (ℕ → ℕ) → (ℕ → ℕ) → List ℕ → Seat → Seat → ℕ
weight_after counts places list None s = 0
weight_after counts places list (Some p) s =
    cond (sits s p) 161604 (cond (nat_lt (places p) (counts p)) (fallback_weight (fallback_on counts places list) s) 0)

-- what a seat weighs for a trainee with this list, by first counts and places
abbrev pub by_firsts : (ℕ → ℕ) → (ℕ → ℕ) → List ℕ → Seat → ℕ
by_firsts counts places list s = weight_after counts places list (first_choice list) s

abbrev pub allot_weights : Entries → Weighing
allot_weights e t s = by_firsts (first_count e) (places_of e) (list_of e t) s

-- 2 for a seat that is preferred to the own, 0 where it is the other way round, else 1
abbrev pub by_ballot : List ℕ → Seat → Seat → ℕ
by_ballot list own s = cond (prefers list s own) 2 (cond (prefers list own s) 0 1)

abbrev pub no_demand : Demand
no_demand = record { firsts = 0; places = 0 }

-- what is demanded of a practice, and nothing past the last
abbrev pub demand_at : List Demand → ℕ → Demand
demand_at demands p = slice_index_or demands p no_demand

abbrev pub firsts_in : List Demand → ℕ → ℕ
firsts_in demands p = (demand_at demands p).firsts

abbrev pub places_in : List Demand → ℕ → ℕ
places_in demands p = (demand_at demands p).places

-- the weighing holds the first counts and the places of the roll
pub record Holds (e : Entries) (b : ByFirsts) : Type 0 where
  pub firsts : (p : ℕ) → firsts_in b.demands.items p ≡ first_count e p
  pub places : (p : ℕ) → places_in b.demands.items p ≡ places_of e p
