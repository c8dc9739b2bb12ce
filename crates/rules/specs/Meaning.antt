-- What a roll and a register mean, and the law of a roll.
use Rattle.std.specs.Prelude.{ℕ, ◌<◌, ◌≤◌, Bool, false, cond, List, [], length, ◌≢◌, nat_lt, slice_index, slice_index_or, slice_set}

-- the places of each practice, and the list of each trainee, the most wanted practice first
pub record Entries : Type 0 where
  pub places : List ℕ
  pub lists : List (List ℕ)

abbrev pub trainees : Entries → ℕ
trainees e = length e.lists

abbrev pub practices : Entries → ℕ
practices e = length e.places

-- 0 for a practice that there is not
abbrev pub places_of : Entries → ℕ → ℕ
places_of e p = slice_index e.places p

-- empty for a trainee that there is not
abbrev pub list_of : Entries → ℕ → List ℕ
list_of e t = slice_index_or e.lists t []

-- at most 12 different practices, each below their number
pub record Strict (practices : ℕ) (list : List ℕ) : Type 0 where
  pub short : length list ≤ 12
  pub below : (k : ℕ) → k < length list → slice_index list k < practices
  pub distinct : (j k : ℕ) → j < k → k < length list → slice_index list j ≢ slice_index list k

-- the law of a roll
pub record Lawful (e : Entries) : Type 0 where
  pub few_trainees : trainees e ≤ 400
  pub few_practices : practices e ≤ 100
  pub places_range : (p : ℕ) → p < practices e → (1 ≤ places_of e p) × (places_of e p ≤ 400)
  pub lists_strict : (t : ℕ) → t < trainees e → Strict (practices e) (list_of e t)

-- a roll without trainees or practices
abbrev pub nobody : Entries
nobody = record { places = []; lists = [] }

-- what a register adds: the greatest length of a list that it takes, and which practices are open
pub record Rules : Type 0 where
  pub longest : ℕ
  pub opened : List Bool

pub record Meaning : Type 0 where
  pub entries : Entries
  pub rules : Rules

abbrev pub meant : {R : Type 0} → (R → Entries) → (R → Rules) → R → Meaning
meant entries rules r = record { entries = entries r; rules = rules r }

-- a practice that there is, and that is open
abbrev pub is_open : Meaning → ℕ → Bool
is_open m p = cond (nat_lt p (practices m.entries)) (slice_index_or m.rules.opened p false) false

-- the meaning with one trainee's list replaced, or one practice's places
abbrev pub with_list : Meaning → ℕ → List ℕ → Meaning
with_list m t list = record { entries = record { places = m.entries.places; lists = slice_set m.entries.lists t list }; rules = m.rules }

abbrev pub with_places : Meaning → ℕ → ℕ → Meaning
with_places m p n = record { entries = record { places = slice_set m.entries.places p n; lists = m.entries.lists }; rules = m.rules }
