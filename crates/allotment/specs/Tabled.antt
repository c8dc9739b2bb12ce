-- A table that holds a roll and a weighing.
use Rattle.std.specs.Prelude.{◌≡◌, ℕ, ◌^◌, ◌<◌, ◌≤◌, Bool, true, false, ◌||◌, List, [], length, take, Some, Option, ◌==◌, nat_lt}
use Rattle.std.specs.List.{range_with_len, zip}
use Rattle.arrayvec.specs.ArrayVec.{ArrayVec}
use Rattle.rules.specs.declared.words.Practice.{Practice}
use Rattle.rules.specs.Meaning.{Entries, trainees, list_of}
use Rattle.voting.specs.Placements.{Seat, Placement, Allowed, stored}
use Rattle.voting.specs.Weights.{Weighing}
use Rattle.assignment.specs.declared.row.Choice.{Choice}
use Rattle.assignment.specs.declared.row.Row.{Row}
use Rattle.assignment.specs.declared.table.Table.{Table}
use Rattle.assignment.specs.Rows.{list, weigh, size, weight_of}
use Rattle.assignment.specs.Tables.{entries, weights}
use Rattle.allotment.specs.Vectors.{chosen}

-- a choice of a list, with what a seat there weighs
abbrev pub choice_by : (Seat → ℕ) → Practice → Choice
choice_by w p = record { practice = p; weight = w (Some p.0) }

-- a row with this list, and with these weights of its seats
pub record Weighed (wishes : List ℕ) (w : Seat → ℕ) (r : Row) : Type 0 where
  pub same : list r ≡ wishes
  pub exact : (s : Seat) → Allowed wishes s → weigh r s ≡ w s
  pub modest : (i : ℕ) → i < size r → weight_of r i ≤ 2 ^ 30
  pub least : r.none ≤ 2 ^ 30

-- what the lists say, by a weighing of seats by the own list
abbrev pub by_lists : Entries → (ℕ → List ℕ → Seat → ℕ) → Weighing
by_lists e w t s = w t (list_of e t) s

-- a table with these entries, and with these weights of the allowed seats
pub record Tabled (e : Entries) (w : Weighing) (T : Table) : Type 0 where
  pub same : entries T ≡ e
  pub exact : (t : ℕ) (s : Seat) → t < trainees e → Allowed (list_of e t) s → weights T t s ≡ w t s

-- the same practices, and no trainee
abbrev pub emptied : Entries → Entries
emptied e = record { places = e.places; lists = [] }

-- the table holds the first n lists of the entries, and the weights of their allowed seats
pub record Filled (e : Entries) (w : Weighing) (n : ℕ) (T : Table) : Type 0 where
  pub places : (entries T).places ≡ e.places
  pub lists : (entries T).lists ≡ take n e.lists
  pub exact : (t : ℕ) (s : Seat) → t < n → Allowed (list_of e t) s → weights T t s ≡ w t s

-- each trainee with a list has a seat that weighs something
abbrev pub AllWeigh : Entries → Weighing → Placement → Type 0
AllWeigh e w M = (t : ℕ) → t < trainees e → 0 < length (list_of e t) → 0 < w t (M t)

-- so it is, or here is a trainee with a list whose seat weighs nothing
abbrev pub WhetherAllWeigh : Entries → Weighing → Placement → Bool → Type 0
WhetherAllWeigh e w M true = AllWeigh e w M
WhetherAllWeigh e w M false = (t : ℕ) × (t < trainees e) × (0 < length (list_of e t)) × (w t (M t) ≡ 0)

-- each list, the seat beside it and the trainee's number
abbrev pub Beside : Type 0
Beside = (ArrayVec Practice × Option Practice) × ℕ

abbrev pub beside : List (ArrayVec Practice) → List (Option Practice) → List Beside
beside lists seats = zip (zip lists seats) (range_with_len 0 400)

-- what the seat weighs there
abbrev pub weight_at : (ℕ → List ℕ → Seat → ℕ) → Beside → ℕ
weight_at w x = w x.1 (chosen x.0.0) (stored x.0.1)

-- there is no list, or the seat weighs something
abbrev pub content_at : (ℕ → List ℕ → Seat → ℕ) → Beside → Bool
content_at w x = (length x.0.0.items == 0) || nat_lt 0 (weight_at w x)
