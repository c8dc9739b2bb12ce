-- First choices, fallbacks, and the local description of the unbeaten placements.
use Rattle.std.specs.Prelude.{◌≡◌, ℕ, ◌<◌, ◌≤◌, Bool, cond, not, ◌&&◌, ◌⊎◌, List, [], ◌∷◌, length, Some, None, nat_lt}
use Rattle.rules.specs.Meaning.{Entries, Lawful, trainees, places_of, list_of}
use Rattle.voting.specs.Placements.{Seat, Placement, Feasible, sits, seated_at}
use Rattle.voting.specs.Votes.{Beats, Unbeaten}

-- the head of the list
abbrev pub first_choice : List ℕ → Seat
first_choice [] = None
first_choice (p ∷ ps) = Some p

-- how many trainees have p as their first choice
abbrev pub first_count : Entries → ℕ → ℕ
first_count e p = seated_at (trainees e) (λ t. first_choice (list_of e t)) p

-- the earliest on the list that passes the test
abbrev pub earliest : (ℕ → Bool) → List ℕ → Seat
earliest f [] = None
earliest f (p ∷ ps) = cond (f p) (Some p) (earliest f ps)

-- the earliest practice on the list, other than the first choice, whose first count is below its places
abbrev pub fallback : Entries → ℕ → Seat
fallback e t = earliest (λ p. not (sits (first_choice (list_of e t)) p) && nat_lt (first_count e p) (places_of e p)) (list_of e t)

pub record WellFormed (e : Entries) (M : Placement) : Type 0 where
  -- each trainee with a list has the first choice or the fallback
  pub chosen : (t : ℕ) → t < trainees e → 0 < length (list_of e t) → (M t ≡ first_choice (list_of e t)) ⊎ (M t ≡ fallback e t)
  -- a practice whose first count is at most its places seats all whose first choice it is
  pub given : (p t : ℕ) → t < trainees e → first_count e p ≤ places_of e p → first_choice (list_of e t) ≡ Some p → M t ≡ Some p
  -- any other practice is filled, by trainees whose first choice it is
  pub filled : (p : ℕ) → places_of e p < first_count e p → seated_at (trainees e) M p ≡ places_of e p
  pub only : (p t : ℕ) → t < trainees e → places_of e p < first_count e p → M t ≡ Some p → first_choice (list_of e t) ≡ Some p

-- a feasible placement is unbeaten exactly when it is well-formed; it is well-formed, or a feasible placement that beats it can be named
abbrev pub LocalDescription : Type 0
LocalDescription =
    (e : Entries) → Lawful e → (M : Placement) → Feasible e M →
    (Unbeaten e M → WellFormed e M) × (WellFormed e M → Unbeaten e M) × (WellFormed e M ⊎ ((N : Placement) × Feasible e N × Beats e N M))
