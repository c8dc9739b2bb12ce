-- The state at first, when a newcomer is seated, and at last.
use Rattle.std.specs.Prelude.{◌≡◌, ℕ, ◌+◌, ◌^◌, ◌<◌, ◌≤◌, List, Some, None}
use Rattle.rules.specs.declared.words.Move.{Move}
use Rattle.voting.specs.Totals.{one}
use Rattle.voting.specs.Placements.{Seat, sits}
use Rattle.assignment.specs.declared.state.State.{State}
use Rattle.assignment.specs.declared.state.End.{End}
use Rattle.assignment.specs.States.{price, value, count, seat_of}
use Rattle.assignment.specs.Walks.{Shifted, end_seat}

-- nobody is placed, nothing has a price, and each hopes for the most
pub record Vacant (S : State) : Type 0 where
  pub newcomer : S.newcomer ≡ 0
  pub seats : (t : ℕ) → seat_of S t ≡ None
  pub counts : (p : ℕ) → count S p ≡ 0
  pub prices : (p : ℕ) → price S p ≡ 0
  pub values : (t : ℕ) → t < 400 → value S t ≡ 2 ^ 30
  pub modest : (t : ℕ) → value S t ≤ 2 ^ 30

-- one more may be counted there
abbrev pub Countable : State → Seat → Type 0
Countable S None = Unit {0}
Countable S (Some p) = (p < 100) × (count S p < 65535)

-- the state after the moves and the end of a search
pub record Settled (S S' : State) (ms : List Move) (e : End) : Type 0 where
  pub newcomer : S'.newcomer ≡ S.newcomer + 1
  pub seats : Shifted (seat_of S) (seat_of S') ms e
  pub counts : (p : ℕ) → count S' p ≡ count S p + one (sits (end_seat e) p)
  pub prices : (p : ℕ) → price S' p ≡ price S p
  pub values : (t : ℕ) → value S' t ≡ value S t
