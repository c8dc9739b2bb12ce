-- The account of a round, and its law.
use Rattle.std.specs.Prelude.{◌≡◌, ℕ, zero, suc, ◌<◌, ◌≤◌, Bool, true, false, List, [], ◌∷◌, length, take, Some, None, Ok, Err, Option, Result}
use Rattle.rules.specs.declared.words.Refusal.{Refusal}
use Rattle.rules.specs.declared.words.Reason.TheVariants.{NoSuchTrainee, WrongLength, NoneUnbeaten, NothingStands}
use Rattle.rules.specs.Words.{of_round}
use Rattle.rules.specs.Meaning.{Entries, Meaning, trainees, with_list, with_places}
use Rattle.rules.specs.Refusals.{enter_outcome, places_outcome}
use Rattle.voting.specs.Placements.{Seat, Placement, seated}
use Rattle.voting.specs.Votes.{Fullest, EachBeaten}
use Rattle.allotment.specs.Calls.{enough, Rival, challenge_outcome}

-- what a successful allot gives: how many trainees it seats, and the placement
pub record Given : Type 0 where
  pub number : ℕ
  pub placement : Placement

-- A call with what it took and answered. The account lists the calls since the opening, refused ones too, the oldest first.
pub data Event : Type 0 where
  enters : (trainee : ℕ) (list : List ℕ) (answer : Result (Unit {0}) Refusal) → Event
  sets_places : (practice number : ℕ) (answer : Result (Unit {0}) Refusal) → Event
  allots : (waiting moves : ℕ) (answer : Result Given Refusal) → Event
  asks_seat : (trainee : ℕ) (answer : Result Seat Refusal) → Event
  challenges : (offered buffer : List ℕ) (answer : Result ℕ Refusal) (after : List ℕ) → Event

-- the call at position i
abbrev pub at : List Event → ℕ → Option Event
at [] i = None
at (e ∷ later) zero = Some e
at (e ∷ later) (suc i) = at later i

-- what an accepted call changes of the standing entries
abbrev pub changed : Meaning → Event → Meaning
changed m (enters t list (Ok u)) = with_list m t list
changed m (enters t list (Err r)) = m
changed m (sets_places p n (Ok u)) = with_places m p n
changed m (sets_places p n (Err r)) = m
changed m (allots w k a) = m
changed m (asks_seat t a) = m
changed m (challenges o b a r) = m

-- the standing entries after the calls: the meaning at opening, changed by each accepted one in turn
abbrev pub standing : Meaning → List Event → Meaning
standing m [] = m
standing m (e ∷ later) = standing (changed m e) later

-- and before the call at position i
abbrev pub standing_at : Meaning → List Event → ℕ → Meaning
standing_at m₀ account i = standing m₀ (take i account)

-- the placement that a successful allot gave
abbrev pub given_by : Option Event → Option Placement
given_by None = None
given_by (Some (enters t list a)) = None
given_by (Some (sets_places p n a)) = None
given_by (Some (allots w k (Ok g))) = Some g.placement
given_by (Some (allots w k (Err r))) = None
given_by (Some (asks_seat t a)) = None
given_by (Some (challenges o b a r)) = None

-- a successful allot, or an accepted enter or places
abbrev pub settles : Option Event → Bool
settles None = false
settles (Some (enters t list (Ok u))) = true
settles (Some (enters t list (Err r))) = false
settles (Some (sets_places p n (Ok u))) = true
settles (Some (sets_places p n (Err r))) = false
settles (Some (allots w k (Ok g))) = true
settles (Some (allots w k (Err r))) = false
settles (Some (asks_seat t a)) = false
settles (Some (challenges o b a r)) = false

-- M was given by call j, the latest successful allot before call i, and no enter or places was accepted since
pub record Stands (account : List Event) (i j : ℕ) (M : Placement) : Type 0 where
  pub before : j < i
  pub gave : given_by (at account j) ≡ Some M
  pub since : (k : ℕ) → j < k → k < i → settles (at account k) ≡ false

-- Refusal of allot: with fewer slots than trainees always; with enough exactly when every feasible placement is beaten by a feasible one.
pub record Refuses (e : Entries) (waiting moves : ℕ) (answer : Result Given Refusal) : Type 0 where
  pub few : enough e waiting moves ≡ false → answer ≡ Err (of_round WrongLength (trainees e))
  pub beaten : enough e waiting moves ≡ true → EachBeaten e → answer ≡ Err (of_round NoneUnbeaten 0)
  pub only : enough e waiting moves ≡ true → (r : Refusal) → answer ≡ Err r → EachBeaten e

-- Success of allot: the placement given is feasible, no feasible one beats it, every unbeaten one seats at most as many, and the
-- answer is how many it seats.
pub record Gives (e : Entries) (g : Given) : Type 0 where
  pub fullest : Fullest e g.placement
  pub counted : g.number ≡ seated (trainees e) g.placement

-- Seats: call i, of trainee t of n, answers the seat in the placement that stands; every other is refused.
pub record Seats (account : List Event) (i n t : ℕ) (answer : Result Seat Refusal) : Type 0 where
  pub stranger : n ≤ t → answer ≡ Err (of_round NoSuchTrainee t)
  pub stands : t < n → (j : ℕ) (M : Placement) → Stands account i j M → answer ≡ Ok (M t)
  pub nothing : t < n → ((j : ℕ) (M : Placement) → Stands account i j M → ⊥) → answer ≡ Err (of_round NothingStands t)

-- Rivals: the answer and the buffer after it are those of challenge on a roll of these entries.
abbrev pub Challenged : Entries → List ℕ → List ℕ → Result ℕ Refusal → List ℕ → Type 0
Challenged e offered buffer answer after =
    (k : ℕ) × (N : Placement) × Rival e offered (length buffer) k N × (challenge_outcome e offered buffer k N ≡ (answer, after))

-- The law of the account: what holds of every call in it. Entries are refused in the cases of the table and in no other.
pub record Law (m₀ : Meaning) (account : List Event) : Type 0 where
  pub refusal : (i w k : ℕ) (a : Result Given Refusal) → at account i ≡ Some (allots w k a) → Refuses (standing_at m₀ account i).entries w k a
  pub success : (i w k : ℕ) (g : Given) → at account i ≡ Some (allots w k (Ok g)) → Gives (standing_at m₀ account i).entries g
  pub seat : (i t : ℕ) (a : Result Seat Refusal) → at account i ≡ Some (asks_seat t a) → Seats account i (trainees (standing_at m₀ account i).entries) t a
  pub entry : (i t : ℕ) (list : List ℕ) (a : Result (Unit {0}) Refusal) → at account i ≡ Some (enters t list a) → a ≡ (enter_outcome (standing_at m₀ account i) t list).0
  pub place : (i p n : ℕ) (a : Result (Unit {0}) Refusal) → at account i ≡ Some (sets_places p n a) → a ≡ (places_outcome (standing_at m₀ account i) p n).0
  pub rival : (i : ℕ) (o b : List ℕ) (a : Result ℕ Refusal) (r : List ℕ) → at account i ≡ Some (challenges o b a r) → Challenged (standing_at m₀ account i).entries o b a r
