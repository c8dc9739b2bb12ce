-- What writing a roll with a filing answers, and what the buffer then holds.
use Rattle.std.specs.Prelude.{ℕ, suc, cond, ◌||◌, List, [], ◌∷◌, length, Some, None, Ok, Err, Option, Result, ◌==◌, nat_le}
use Rattle.rules.specs.declared.words.Reason.{Reason}
use Rattle.rules.specs.declared.words.Reason.TheVariants.{WrongLength}
use Rattle.rules.specs.declared.words.Refusal.{Refusal}
use Rattle.rules.specs.Words.{of_sheet}
use Rattle.rules.specs.Meaning.{Entries, trainees, practices}
use Rattle.sheet.specs.Filing.{Filing}
use Rattle.sheet.specs.Format.{sheet}
use Rattle.sheet.specs.Reading.{reading, off_filed}
use Rattle.sheet.specs.Told.{accepted}
use Rattle.sheet_writer.specs.Over.{over}

-- the refusal of trainee t's filed byte, or else that of a later one
abbrev pub filed_or : Option Reason → ℕ → Option Refusal → Option Refusal
filed_or None t later = later
filed_or (Some reason) t later = Some (of_sheet reason t)

-- what is filed for the trainees from t on, the lowest that is neither 255 nor a practice
abbrev pub filed_refusal : ℕ → ℕ → Filing → Option Refusal
filed_refusal practices t [] = None
filed_refusal practices t (p ∷ f) = filed_or (off_filed practices p) t (filed_refusal practices (suc t) f)

-- how much is filed, then the room in the buffer, then what is filed
abbrev pub write_refusal : Entries → Filing → ℕ → Option Refusal
write_refusal e f room =
    cond (length f == 0 || length f == trainees e)
    (cond (nat_le (length (sheet e f)) room) (filed_refusal (practices e) 0 f) (Some (of_sheet WrongLength (length (sheet e f)))))
    (Some (of_sheet WrongLength (trainees e)))

-- the length of what is written over the buffer's front; a refusal writes nothing
abbrev pub written : Option Refusal → List ℕ → List ℕ → Result ℕ Refusal × List ℕ
written None bytes buffer = (Ok (length bytes), over bytes buffer)
written (Some r) bytes buffer = (Err r, buffer)

abbrev pub write_outcome : Entries → Filing → List ℕ → Result ℕ Refusal × List ℕ
write_outcome e f buffer = written (write_refusal e f (length buffer)) (sheet e f) buffer

-- accepted bytes themselves, where there is room
abbrev pub rewritten : Result (Unit {0}) Refusal → List ℕ → List ℕ → Result ℕ Refusal × List ℕ
rewritten (Ok x) bytes buffer =
    cond (nat_le (length bytes) (length buffer)) (Ok (length bytes), over bytes buffer) (Err (of_sheet WrongLength (length bytes)), buffer)
rewritten (Err r) bytes buffer = (Err r, buffer)

abbrev pub rewrite_outcome : List ℕ → List ℕ → Result ℕ Refusal × List ℕ
rewrite_outcome bytes buffer = rewritten (accepted (reading bytes)) bytes buffer
