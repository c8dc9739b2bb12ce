-- What each call of a round does, exactly.
use Rattle.std.specs.Prelude.{◌≡◌, ℕ, ◌<◌, true, cond, List, Some, None, Ok, Err, Option, Result, nat_lt}
use Rattle.rules.specs.declared.words.Refusal.{Refusal}
use Rattle.rules.specs.declared.words.Reason.TheVariants.{NoSuchTrainee, WrongLength, NoneUnbeaten, NothingStands}
use Rattle.rules.specs.Words.{of_round}
use Rattle.rules.specs.Meaning.{Meaning, trainees, with_list, with_places}
use Rattle.rules.specs.Refusals.{entry_refusal, places_refusal, outcome}
use Rattle.voting.specs.Placements.{Seat, Placement, seated}
use Rattle.allotment.specs.Calls.{enough, Verdict}
use Rattle.round.specs.Account.{Given}

-- what a round is to its callers: the standing entries, and the placement that stands, if one does
pub record State : Type 0 where
  pub meaning : Meaning
  pub placement : Option Placement

-- a round just opened, or one whose entries are new
abbrev pub unplaced : Meaning → State
unplaced m = record { meaning = m; placement = None }

-- enter and places: refused as by the register, and then nothing changes; else the standing placement lapses
abbrev pub enter_step : State → ℕ → List ℕ → Result (Unit {0}) Refusal × State
enter_step s t list = outcome (entry_refusal s.meaning t list) s (unplaced (with_list s.meaning t list))

abbrev pub places_step : State → ℕ → ℕ → Result (Unit {0}) Refusal × State
places_step s p n = outcome (places_refusal s.meaning p n) s (unplaced (with_places s.meaning p n))

abbrev pub seat_in : Option Placement → ℕ → Result Seat Refusal
seat_in None t = Err (of_round NothingStands t)
seat_in (Some M) t = Ok (M t)

-- seat: the trainee, then whether a placement stands
abbrev pub seat_answer : State → ℕ → Result Seat Refusal
seat_answer s t = cond (nat_lt t (trainees s.meaning.entries)) (seat_in s.placement t) (Err (of_round NoSuchTrainee t))

-- the placement that seat would answer, trainee by trainee
abbrev pub answered : Result Seat Refusal → Seat
answered (Ok seat) = seat
answered (Err r) = None

abbrev pub seats_told : State → Placement
seats_told s t = answered (seat_answer s t)

-- allot on this verdict: refused, and nothing changes, or its placement stands
abbrev pub on_verdict : State → Option Placement → Result ℕ Refusal × State
on_verdict s None = (Err (of_round NoneUnbeaten 0), s)
on_verdict s (Some M) = (Ok (seated (trainees s.meaning.entries) M), record { meaning = s.meaning; placement = Some M })

-- allot: the slots, then the verdict
abbrev pub allot_step : State → ℕ → ℕ → Option Placement → Result ℕ Refusal × State
allot_step s waiting moves verdict =
    cond (enough s.meaning.entries waiting moves) (on_verdict s verdict) (Err (of_round WrongLength (trainees s.meaning.entries)), s)

-- a call of allot, with a verdict that holds of the standing entries where there are slots enough
abbrev pub Allots : State → ℕ → ℕ → Result ℕ Refusal → State → Type 0
Allots s waiting moves answer s' =
    (verdict : Option Placement) × (enough s.meaning.entries waiting moves ≡ true → Verdict s.meaning.entries verdict) ×
    (allot_step s waiting moves verdict ≡ (answer, s'))

-- what a successful allot gave: the placement is what seat would answer straight afterwards, for every trainee
abbrev pub given : Result ℕ Refusal → State → Result Given Refusal
given (Ok number) s' = Ok (record { number = number; placement = seats_told s' })
given (Err r) s' = Err r

-- where allot succeeds, seat refuses no trainee straight afterwards and answers the placement given
abbrev pub SeatsGiven : Result ℕ Refusal → State → Type 0
SeatsGiven (Ok number) s' = (t : ℕ) → t < trainees s'.meaning.entries → seat_answer s' t ≡ Ok (seats_told s' t)
SeatsGiven (Err r) s' = Unit {0}
