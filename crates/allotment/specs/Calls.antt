-- What allot and challenge answer for the entries of a roll, in the words of the vote.
use Rattle.std.specs.Prelude.{◌≡◌, ℕ, zero, suc, ◌≤◌, Bool, true, false, cond, ◌&&◌, List, length, Some, None, Ok, Err, Option, Result, ◌==◌, nat_le, nat_lt}
use Rattle.rules.specs.declared.words.Refusal.{Refusal}
use Rattle.rules.specs.declared.words.Reason.TheVariants.{WrongLength, NoneUnbeaten, NotFeasible}
use Rattle.rules.specs.Words.{of_round}
use Rattle.rules.specs.Meaning.{Entries, trainees, places_of, list_of}
use Rattle.rules.specs.Questions.{listed}
use Rattle.voting.specs.Placements.{Seat, Placement, seating, seated, seated_at}
use Rattle.voting.specs.Votes.{Fullest, EachBeaten, Strongest}
use Rattle.allotment.specs.declared.found.Found.{Found}
use Rattle.allotment.specs.Bytes.{offered_by, written}

-- as many slots of both kinds as trainees
abbrev pub enough : Entries → ℕ → ℕ → Bool
enough e waiting moves = nat_le (trainees e) waiting && nat_le (trainees e) moves

-- what is decided where there are slots enough: a fullest unbeaten placement, or that there is none
abbrev pub Decided : Entries → Result Found Refusal → Type 0
Decided e (Ok f) =
    Fullest e (seating f.seats) × (f.seated ≡ seated (trainees e) (seating f.seats)) ×
    ((t : ℕ) → trainees e ≤ t → seating f.seats t ≡ None)
Decided e (Err r) = EachBeaten e × (r ≡ of_round NoneUnbeaten 0)

pub record Finds (e : Entries) (waiting moves : ℕ) (answer : Result Found Refusal) : Type 0 where
  pub few : enough e waiting moves ≡ false → answer ≡ Err (of_round WrongLength (trainees e))
  pub decided : enough e waiting moves ≡ true → Decided e answer

-- a fullest unbeaten placement, or none where every feasible one is beaten
abbrev pub Verdict : Entries → Option Placement → Type 0
Verdict e None = EachBeaten e
Verdict e (Some M) = Fullest e M

-- what allot answers on this verdict, and what its buffer then holds
abbrev pub told : Entries → List ℕ → Option Placement → Result ℕ Refusal × List ℕ
told e buffer None = (Err (of_round NoneUnbeaten 0), buffer)
told e buffer (Some M) = (Ok (seated (trainees e) M), written (trainees e) M buffer)

abbrev pub roomy : Entries → ℕ → ℕ → List ℕ → Bool
roomy e waiting moves buffer = enough e waiting moves && nat_le (trainees e) (length buffer)

abbrev pub allot_outcome : Entries → ℕ → ℕ → List ℕ → Option Placement → Result ℕ Refusal × List ℕ
allot_outcome e waiting moves buffer verdict =
    cond (roomy e waiting moves buffer) (told e buffer verdict) (Err (of_round WrongLength (trainees e)), buffer)

-- the seat is none or on the own list, and its practice is not yet full by lower trainees
abbrev pub fit_seat : Entries → Placement → ℕ → Seat → Bool
fit_seat e M t None = true
fit_seat e M t (Some p) = listed (list_of e t) p && nat_lt (seated_at t M p) (places_of e p)

-- the lowest of the first n trainees whose seat does not fit
abbrev pub first_unfit : Entries → Placement → ℕ → Option ℕ
first_unfit e M zero = None
first_unfit e M (suc n) = or_else (first_unfit e M n)
  where
    or_else : Option ℕ → Option ℕ
    or_else None = cond (fit_seat e M n (M n)) None (Some n)
    or_else (Some t) = Some t

abbrev pub not_feasible : Option ℕ → Option Refusal
not_feasible None = None
not_feasible (Some t) = Some (of_round NotFeasible t)

-- challenge: the lengths of the offered placement and of the buffer, then whether the offered placement is feasible
abbrev pub challenge_refusal : Entries → List ℕ → ℕ → Option Refusal
challenge_refusal e offered room =
    cond (length offered == trainees e && nat_le (trainees e) room)
    (not_feasible (first_unfit e (offered_by offered) (trainees e)))
    (Some (of_round WrongLength (trainees e)))

abbrev pub challenge_answer : Option Refusal → Entries → List ℕ → ℕ → Placement → Result ℕ Refusal × List ℕ
challenge_answer None e buffer k N = (Ok k, written (trainees e) N buffer)
challenge_answer (Some r) e buffer k N = (Err r, buffer)

-- what challenge answers, and what its buffer then holds, with this majority and rival
abbrev pub challenge_outcome : Entries → List ℕ → List ℕ → ℕ → Placement → Result ℕ Refusal × List ℕ
challenge_outcome e offered buffer k N = challenge_answer (challenge_refusal e offered (length buffer)) e buffer k N

-- a rival and its majority, the strongest against what is offered wherever challenge is not refused
abbrev pub Rival : Entries → List ℕ → ℕ → ℕ → Placement → Type 0
Rival e offered room k N = challenge_refusal e offered room ≡ None → Strongest e (offered_by offered) k N
