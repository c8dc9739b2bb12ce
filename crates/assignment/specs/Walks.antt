-- The moves of a search that ended, carried out from the newest to the oldest.
use Rattle.std.specs.Prelude.{◌≡◌, ℕ, ◌+◌, ◌<◌, ◌≤◌, ◌⊎◌, List, length, Some, None, ◌≢◌, slice_index_or}
use Rattle.rules.specs.declared.words.Move.{Move}
use Rattle.voting.specs.Totals.{one}
use Rattle.voting.specs.Placements.{Seat, Placement, stored, sits, seated_at}
use Rattle.assignment.specs.declared.state.End.{End}
use Rattle.assignment.specs.Moves.{no_move, mover, origin, goal}

abbrev pub end_seat : End → Seat
end_seat e = stored e.seat

-- each move is by one who has no seat, or whose seat an earlier move takes; so it is with the end
pub record Chain (M : Placement) (ms : List Move) (e : End) : Type 0 where
  pub known : (j : ℕ) → j < length ms → mover ms j < 400
  pub apart : (i j : ℕ) → i < j → j < length ms → goal ms i ≢ goal ms j
  pub left : (j : ℕ) → j < length ms → origin ms j ≡ M (mover ms j)
  pub near : (j : ℕ) → j < length ms → (M (mover ms j) ≡ None) ⊎ ((i : ℕ) × (i < j) × (M (mover ms j) ≡ Some (goal ms i)))
  pub end_known : e.trainee < 400
  pub end_near : (M e.trainee ≡ None) ⊎ ((i : ℕ) × (i < length ms) × (M e.trainee ≡ Some (goal ms i)))

-- s is the seat to which a move, or the end, takes t
abbrev pub Took : List Move → End → ℕ → Seat → Type 0
Took ms e t s = ((j : ℕ) × (j < length ms) × (mover ms j ≡ t) × (s ≡ Some (goal ms j))) ⊎ ((t ≡ e.trainee) × (s ≡ end_seat e))

abbrev pub Under : ℕ → List Move → End → Type 0
Under n ms e = (e.trainee < n) × ((j : ℕ) → j < length ms → mover ms j < n)

-- from M to N some were moved: one more is seated, at the end
pub record Shifted (M N : Placement) (ms : List Move) (e : End) : Type 0 where
  pub counted : (n p : ℕ) → Under n ms e → seated_at n N p ≡ seated_at n M p + one (sits (end_seat e) p)
  pub moved : (t : ℕ) → (N t ≡ M t) ⊎ Took ms e t (N t)
  pub starter : (t : ℕ) × (M t ≡ None) × Took ms e t (N t)

-- on the way, the first i moves still to come: N is the placement now, and left the seat that was left last
pub record Walk (M N : Placement) (ms : List Move) (e : End) (left : Seat) (i : ℕ) : Type 0 where
  pub counted : (n p : ℕ) → Under n ms e → seated_at n N p + one (sits left p) ≡ seated_at n M p + one (sits (end_seat e) p)
  pub moved : (t : ℕ) → (N t ≡ M t) ⊎ Took ms e t (N t)
  pub hole : ((left ≡ None) × ((t : ℕ) × (M t ≡ None) × Took ms e t (N t))) ⊎ ((j : ℕ) × (j < i) × (left ≡ Some (goal ms j)))
  pub fresh : (j : ℕ) → j < i → (M (mover ms j) ≡ left) ⊎ (N (mover ms j) ≡ M (mover ms j))

-- whatever walk had led to the placement N with the seat left and i moves to come, goes on to N'
abbrev pub Unwinds : Placement → Seat → ℕ → Placement → Seat → ℕ → List Move → Type 0
Unwinds N left i N' left' i' ms = (M : Placement) (e : End) → Chain M ms e → Walk M N ms e left i → Walk M N' ms e left' i'

abbrev pub Unwound : Placement → Seat → ℕ → Placement → List Move → Type 0
Unwound N left i N' ms = (M : Placement) (e : End) → Chain M ms e → Walk M N ms e left i → Shifted M N' ms e

-- xs is how ys begins
pub record Front (xs ys : List Move) : Type 0 where
  pub within : length xs ≤ length ys
  pub same : (j : ℕ) → j < length xs → slice_index_or xs j no_move ≡ slice_index_or ys j no_move
