-- The vote: who prefers which placement, majorities, and the placements that no other beats.
use Rattle.std.specs.Prelude.{◌≡◌, ℕ, ◌≤◌, Bool, true, false, List, ℤ, pos, ◌-ℤ◌, ◌≤ℤ◌, Some, None, nat_lt}
use Rattle.rules.specs.Meaning.{Entries, trainees, list_of}
use Rattle.rules.specs.Questions.{position}
use Rattle.voting.specs.Totals.{many}
use Rattle.voting.specs.Placements.{Seat, Placement, Feasible, seated}

-- a practice that stands earlier on the own list, or a practice against no seat
abbrev pub prefers : List ℕ → Seat → Seat → Bool
prefers list None b = false
prefers list (Some p) None = true
prefers list (Some p) (Some q) = nat_lt (position list p) (position list q)

-- how many trainees prefer N to M
abbrev pub votes : Entries → Placement → Placement → ℕ
votes e N M = many (trainees e) (λ t. prefers (list_of e t) (N t) (M t))

-- the majority of N over M: who prefer N, less who prefer M
abbrev pub majority : Entries → Placement → Placement → ℤ
majority e N M = pos (votes e N M) -ℤ pos (votes e M N)

abbrev pub Beats : Entries → Placement → Placement → Type 0
Beats e N M = pos 1 ≤ℤ majority e N M

pub record Unbeaten (e : Entries) (M : Placement) : Type 0 where
  pub feasible : Feasible e M
  pub never : (N : Placement) → Feasible e N → Beats e N M → ⊥

-- unbeaten, and every unbeaten one seats at most as many
pub record Fullest (e : Entries) (M : Placement) : Type 0 where
  pub unbeaten : Unbeaten e M
  pub most : (N : Placement) → Unbeaten e N → seated (trainees e) N ≤ seated (trainees e) M

-- for each feasible placement there is a feasible one that beats it
abbrev pub EachBeaten : Entries → Type 0
EachBeaten e = (M : Placement) → Feasible e M → (N : Placement) × Feasible e N × Beats e N M

-- N is a rival of M with the majority k, and no feasible placement has a greater one over M
pub record Strongest (e : Entries) (M : Placement) (k : ℕ) (N : Placement) : Type 0 where
  pub feasible : Feasible e N
  pub exact : majority e N M ≡ pos k
  pub greatest : (O : Placement) → Feasible e O → majority e O M ≤ℤ pos k
