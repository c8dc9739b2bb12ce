-- What the questions of a roll answer from a list.
use Rattle.std.specs.Prelude.{ℕ, suc, Bool, cond, List, [], ◌∷◌, map, length, Some, None, Option, ◌==◌, nat_lt, slice_index}
use Rattle.rules.specs.declared.words.Practice.{Practice}

-- where p first stands on the list, or the list's length
abbrev pub position : List ℕ → ℕ → ℕ
position [] p = 0
position (x ∷ xs) p = cond (x == p) 0 (suc (position xs p))

-- p stands on the list
abbrev pub listed : List ℕ → ℕ → Bool
listed list p = nat_lt (position list p) (length list)

abbrev pub choice_in : List ℕ → ℕ → Option Practice
choice_in list k = cond (nat_lt k (length list)) (Some (record { 0 = slice_index list k })) None

abbrev pub position_in : List ℕ → ℕ → Option ℕ
position_in list p = cond (listed list p) (Some (position list p)) None

-- practices as numbers
abbrev pub numbers : List Practice → List ℕ
numbers ps = map (λ (p : Practice). p.0) ps
