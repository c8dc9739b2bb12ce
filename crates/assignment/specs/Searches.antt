-- How far a search has come, and what it finds.
use Rattle.std.specs.Prelude.{◌≡◌, ℕ, ◌+◌, ◌<◌, ◌≤◌, Bool, true, false, ◌||◌, ◌⊎◌, List, [], ◌∷◌, ◌++◌, length, get_or, Some, None, Option, ◌==◌, ◌≢◌, slice_index_or}
use Rattle.rules.specs.declared.words.Move.{Move}
use Rattle.rules.specs.declared.words.Practice.{Practice}
use Rattle.rules.specs.declared.words.Trainee.{Trainee}
use Rattle.voting.specs.Totals.{many}
use Rattle.voting.specs.Placements.{Seat, Placement, stored, seated_at}
use Rattle.worklist.specs.declared.WorkList.{WorkList}
use Rattle.worklist.specs.Records.{records, room}
use Rattle.assignment.specs.declared.table.Table.{Table}
use Rattle.assignment.specs.declared.state.State.{State}
use Rattle.assignment.specs.declared.state.End.{End}
use Rattle.assignment.specs.Moves.{mover, origin, goal}
use Rattle.assignment.specs.States.{trainees_in, practices_in, capacity, seat_of, count, Tight}

-- the moves, which practices were reached, who waits, and how many slots there are of either kind
pub record Progress : Type 0 where
  pub moves : List Move
  pub reached : List Bool
  pub queue : List Trainee
  pub slots : ℕ
  pub spots : ℕ

abbrev pub progress_of : WorkList Move → WorkList Trainee → List Bool → Progress
progress_of moves waiting reached =
    record { moves = records moves; reached = reached; queue = records waiting; slots = room moves; spots = room waiting }

abbrev pub marked : List Bool → ℕ → Bool
marked V p = slice_index_or V p false

abbrev pub inside : List Bool → Seat → Bool
inside V None = false
inside V (Some p) = marked V p

-- t is the newcomer, or sits at a practice that was reached
abbrev pub Reached : State → List Bool → ℕ → Type 0
Reached S V t = (t ≡ S.newcomer) ⊎ ((p : ℕ) × (seat_of S t ≡ Some p) × (marked V p ≡ true))

-- the same as a test, where k is the newcomer
abbrev pub comes_to : ℕ → Placement → List Bool → ℕ → Bool
comes_to k M V t = t == k || inside V (M t)

abbrev pub is_reached : State → List Bool → ℕ → Bool
is_reached S V = comes_to S.newcomer (seat_of S) V

abbrev pub no_trainee : Trainee
no_trainee = record { 0 = 0 }

-- t stands in the queue
abbrev pub Waits : List Trainee → ℕ → Type 0
Waits q t = (j : ℕ) × (j < length q) × ((get_or q j no_trainee).0 ≡ t)

-- those of the first k who sit at p wait too, behind the others
pub record Queued (S : State) (k p : ℕ) (old new : List Trainee) : Type 0 where
  pub size : length new ≡ length old + seated_at k (seat_of S) p
  pub kept : (t : ℕ) → Waits old t → Waits new t
  pub all : (t : ℕ) → t < k → seat_of S t ≡ Some p → Waits new t
  pub only : (t : ℕ) → Waits new t → Waits old t ⊎ ((t < k) × (seat_of S t ≡ Some p))

-- one move more: its practice was reached, and who sits there waits
pub record Noted (S : State) (R R' : Progress) (x : Move) : Type 0 where
  pub moves : R'.moves ≡ R.moves ++ x ∷ []
  pub mark : marked R'.reached x.taken.0 ≡ true
  pub rest : (q : ℕ) → (q ≢ x.taken.0) → marked R'.reached q ≡ marked R.reached q
  pub queue : Queued S S.newcomer x.taken.0 R.queue R'.queue
  pub slots : R'.slots ≡ R.slots
  pub spots : R'.spots ≡ R.spots

-- the state of a search
pub record Explored (T : Table) (S : State) (R : Progress) : Type 0 where
  pub size : many (practices_in T) (marked R.reached) ≡ length R.moves
  pub slots : trainees_in T ≤ R.slots
  pub spots : trainees_in T ≤ R.spots
  -- the moves take just the practices that were reached, each once
  pub known : (j : ℕ) → j < length R.moves → goal R.moves j < practices_in T
  pub marks : (j : ℕ) → j < length R.moves → marked R.reached (goal R.moves j) ≡ true
  pub found : (p : ℕ) → marked R.reached p ≡ true → (j : ℕ) × (j < length R.moves) × (goal R.moves j ≡ p)
  pub apart : (i j : ℕ) → i < j → j < length R.moves → goal R.moves i ≢ goal R.moves j
  -- each is to a tight seat that is full, by one whose own seat an earlier move takes, or by the newcomer
  pub tight : (j : ℕ) → j < length R.moves → Tight T S (mover R.moves j) (Some (goal R.moves j))
  pub full : (j : ℕ) → j < length R.moves → count S (goal R.moves j) ≡ capacity T (goal R.moves j)
  pub early : (j : ℕ) → j < length R.moves → mover R.moves j ≤ S.newcomer
  pub left : (j : ℕ) → j < length R.moves → origin R.moves j ≡ seat_of S (mover R.moves j)
  pub near :
      (j : ℕ) → j < length R.moves →
      (mover R.moves j ≡ S.newcomer) ⊎ ((i : ℕ) × (i < j) × (seat_of S (mover R.moves j) ≡ Some (goal R.moves i)))
  -- only who was reached waits, and each at most once
  pub waiting : (t : ℕ) → Waits R.queue t → (t ≤ S.newcomer) × Reached S R.reached t
  pub waited : length R.queue ≤ many (trainees_in T) (is_reached S R.reached)

-- all tight seats of t were reached
abbrev pub Closed : Table → State → List Bool → ℕ → Type 0
Closed T S V t = (s : Seat) → Tight T S t s → inside V s ≡ true

-- each who was reached waits, or was looked at
abbrev pub Covered : Table → State → Progress → Type 0
Covered T S R = (t : ℕ) → t ≤ S.newcomer → Reached S R.reached t → Waits R.queue t ⊎ Closed T S R.reached t

-- the search went on from R to R', and who was reached on the way waits
pub record Grown (T : Table) (S : State) (R R' : Progress) : Type 0 where
  pub still : (p : ℕ) → marked R.reached p ≡ true → marked R'.reached p ≡ true
  pub waits : (t : ℕ) → Waits R.queue t → Waits R'.queue t
  pub fresh : (t : ℕ) → t ≤ S.newcomer → Reached S R'.reached t → Reached S R.reached t ⊎ Waits R'.queue t
  pub fair : length R'.queue + many (trainees_in T) (is_reached S R.reached) ≤ length R.queue + many (trainees_in T) (is_reached S R'.reached)

abbrev pub Free : Table → State → Seat → Type 0
Free T S None = Unit {0}
Free T S (Some p) = (p < practices_in T) × (count S p < capacity T p)

-- the search may end with t at s
pub record Ends (T : Table) (S : State) (t : ℕ) (s : Seat) : Type 0 where
  pub tight : Tight T S t s
  pub free : Free T S s

-- what a look at the choice p of t gives: an end, or p was reached if it is tight
abbrev pub Probed : Table → State → List Bool → ℕ → ℕ → Bool → Type 0
Probed T S V t p true = Ends T S t (Some p)
Probed T S V t p false = Tight T S t (Some p) → marked V p ≡ true

-- what a look at all seats of t gives
abbrev pub Scanned : Table → State → List Bool → ℕ → Option (Option Practice) → Type 0
Scanned T S V t None = Closed T S V t
Scanned T S V t (Some s) = Ends T S t (stored s)

-- the search may end so
pub record Ended (T : Table) (S : State) (V : List Bool) (e : End) : Type 0 where
  pub ends : Ends T S e.trainee (stored e.seat)
  pub early : e.trainee ≤ S.newcomer
  pub reached : Reached S V e.trainee

-- all tight seats of all who were reached were reached
abbrev pub Stuck : Table → State → List Bool → Type 0
Stuck T S V = (t : ℕ) → t ≤ S.newcomer → Reached S V t → Closed T S V t

abbrev pub Sought : Table → State → List Bool → Option End → Type 0
Sought T S V None = Stuck T S V
Sought T S V (Some e) = Ended T S V e
