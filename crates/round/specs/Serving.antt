-- A script of calls, and the account that it leaves.
use Rattle.std.specs.Prelude.{◌≡◌, ℕ, ◌+◌, ◌-◌, ◌^◌, min, cond, List, [], ◌∷◌, ◌++◌, length, take, drop, Some, None, Ok, Err, Option, Result, nat_le}
use Rattle.rules.specs.declared.words.Practice.{Practice}
use Rattle.rules.specs.declared.words.Trainee.{Trainee}
use Rattle.rules.specs.declared.words.Refusal.{Refusal}
use Rattle.rules.specs.declared.words.Reason.TheVariants.{WrongLength}
use Rattle.rules.specs.Words.{of_round}
use Rattle.rules.specs.Meaning.{Meaning, trainees}
use Rattle.rules.specs.Questions.{numbers}
use Rattle.voting.specs.Placements.{Placement}
use Rattle.allotment.specs.Bytes.{bytes_of}
use Rattle.round.specs.declared.script.Call.{Call}
use Rattle.round.specs.declared.script.Call.TheVariants.{Enter, Places, Allot, Seat, Challenge}
use Rattle.round.specs.declared.script.Answer.{Answer}
use Rattle.round.specs.declared.script.Answer.TheVariants.{Entered, Placed, Allotted, Seated, Challenged}
use Rattle.round.specs.Account.{Event, enters, sets_places, allots, asks_seat, challenges, standing, Law}
use Rattle.round.specs.Seen.{numbered}

-- How a call of a script, its answer, and the bytes of its room before and after tell of an event. A successful allot leaves a byte for each
-- of the n trainees in its room, a challenge its rival.
pub data Line (n : ℕ) : Call → Answer → List ℕ → List ℕ → Event → Type 0 where
  entered : (t : Trainee) (list : _) (a : _) (b : List ℕ) → Line n (Enter t list) (Entered a) b b (enters t.0 (numbers list.now) a)
  placed : (p : Practice) (number : ℕ) (a : _) (b : List ℕ) → Line n (Places p number) (Placed a) b b (sets_places p.0 number a)
  allotted : (w k number : ℕ) (M : Placement) (b : List ℕ) → Line n (Allot w k) (Allotted (Ok number)) b (bytes_of n M) (allots w k (Ok (record { number = number; placement = M })))
  not_allotted : (w k : ℕ) (r : Refusal) (b : List ℕ) → Line n (Allot w k) (Allotted (Err r)) b b (allots w k (Err r))
  seated : (t : Trainee) (a : _) (b : List ℕ) → Line n (Seat t) (Seated a) b b (asks_seat t.0 (numbered a))
  challenged : (offered : _) (room : ℕ) (a : _) (b r : List ℕ) → Line n (Challenge offered room) (Challenged a) b r (challenges offered.now b a r)

-- the room of a call in the memory for placements: for the seats of an allot, or for a rival
abbrev pub room_of : ℕ → Call → ℕ
room_of n (Enter t list) = 0
room_of n (Places p number) = 0
room_of n (Allot w k) = n
room_of n (Seat t) = 0
room_of n (Challenge offered room) = room

abbrev pub rooms : ℕ → List Call → ℕ
rooms n [] = 0
rooms n (c ∷ rest) = room_of n c + rooms n rest

-- The account of a script: its calls in their order, each with its answer, their rooms one after another.
pub data Written (n : ℕ) : List Call → List Answer → List ℕ → List ℕ → List Event → Type 0 where
  nothing : Written n [] [] [] [] []
  and_then :
      (script : List Call) (answers : List Answer) (before after : List ℕ) (account : List Event) → Written n script answers before after account →
      (call : Call) (answer : Answer) (b r : List ℕ) (e : Event) → length b ≡ room_of n call → length r ≡ room_of n call → Line n call answer b r e →
      Written n (script ++ call ∷ []) (answers ++ answer ∷ []) (before ++ b) (after ++ r) (account ++ e ∷ [])

-- too little memory for the answers, or for the placements
abbrev pub serve_refusal : ℕ → List Call → ℕ → ℕ → Option Refusal
serve_refusal n script answers placements =
    cond (nat_le (length script) answers)
    (cond (nat_le (rooms n script) placements) None (Some (of_round WrongLength (min (rooms n script) (2 ^ 64 - 1)))))
    (Some (of_round WrongLength (length script)))

-- The script was made, from first to last: the law holds of its account, the register handed back means the standing entries after it,
-- and what lies past the answers and the rooms is as it was.
pub record Made (m₀ : Meaning) (script : List Call) (answers answers' : List Answer) (placements placements' : List ℕ) (m₁ : Meaning) : Type 0 where
  pub account : List Event
  pub written :
      Written (trainees m₀.entries) script (take (length script) answers') (take (rooms (trainees m₀.entries) script) placements)
      (take (rooms (trainees m₀.entries) script) placements') account
  pub law : Law m₀ account
  pub stands : m₁ ≡ standing m₀ account
  pub answers_past : drop (length script) answers' ≡ drop (length script) answers
  pub placements_past : drop (rooms (trainees m₀.entries) script) placements' ≡ drop (rooms (trainees m₀.entries) script) placements

-- With too little memory nothing has changed; else the script was made.
abbrev pub Serves :
    Option Refusal → Meaning → List Call → Result (Unit {0}) Refusal → List Answer → List Answer → List ℕ → List ℕ → Meaning → Type 0
Serves (Some r) m₀ script answer answers answers' placements placements' m₁ =
    (answer ≡ Err r) × (answers' ≡ answers) × (placements' ≡ placements) × (m₁ ≡ m₀)
Serves None m₀ script answer answers answers' placements placements' m₁ =
    (answer ≡ Ok tt) × Made m₀ script answers answers' placements placements' m₁

abbrev pub ServedAs : Meaning → List Call → Result (Unit {0}) Refusal → List Answer → List Answer → List ℕ → List ℕ → Meaning → Type 0
ServedAs m₀ script answer answers answers' placements placements' m₁ =
    Serves (serve_refusal (trainees m₀.entries) script (length answers) (length placements)) m₀ script answer answers answers' placements placements' m₁
