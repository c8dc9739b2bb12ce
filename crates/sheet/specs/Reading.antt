-- How any bytes are read from the front: each number is refused as soon as it is complete.
use Rattle.std.specs.Prelude.{ℕ, zero, suc, ◌+◌, ◌-◌, ◌*◌, cond, List, [], ◌∷◌, ◌++◌, length, Some, None, Ok, Err, Option, Result, ◌==◌, nat_le, nat_lt}
use Rattle.rules.specs.declared.words.Reason.{Reason}
use Rattle.rules.specs.declared.words.Reason.TheVariants.{SheetEnds, BytesFollow, CountOutOfBounds, PracticeNotOffered, Repeated}
use Rattle.rules.specs.declared.words.Refusal.{Refusal}
use Rattle.rules.specs.Words.{of_sheet}
use Rattle.rules.specs.Meaning.{Entries}
use Rattle.rules.specs.Questions.{listed}
use Rattle.rules.specs.Refusals.{off_places}
use Rattle.sheet.specs.Filing.{Filing}

-- what is wrong with a number, if anything: a count or a length above its bound
abbrev pub above : ℕ → ℕ → Option Reason
above most n = cond (nat_le n most) None (Some CountOutOfBounds)

-- a choice that is no practice, or that stands earlier on the list
abbrev pub off_choice : ℕ → List ℕ → ℕ → Option Reason
off_choice practices earlier p =
    cond (nat_lt p practices) (cond (listed earlier p) (Some Repeated) None) (Some PracticeNotOffered)

-- a filed count that is neither 0 nor the trainees
abbrev pub off_count : ℕ → ℕ → Option Reason
off_count trainees n = cond (n == 0) None (cond (n == trainees) None (Some CountOutOfBounds))

-- a filed byte that is neither 255 nor a practice
abbrev pub off_filed : ℕ → ℕ → Option Reason
off_filed practices p = cond (p == 255) None (cond (nat_lt p practices) None (Some PracticeNotOffered))

-- what stands at the front of some bytes, and the bytes behind it
abbrev pub Reader : Type 0 → Type 0
Reader X = List ℕ → Result (X × List ℕ) Refusal

abbrev pub and_then : {X Y : Type 0} → Result X Refusal → (X → Result Y Refusal) → Result Y Refusal
and_then (Ok x) next = next x
and_then (Err e) next = Err e

-- a sheet of `size` bytes, of which `left` are still to be read, is refused at the first of these
abbrev pub refused : ℕ → Reason → List ℕ → Refusal
refused size reason left = of_sheet reason (size - length left)

-- the bytes end within something that was promised
abbrev pub ended : {X : Type 0} → ℕ → Result X Refusal
ended size = Err (of_sheet SheetEnds size)

abbrev pub judged : {X : Type 0} → ℕ → Option Reason → List ℕ → X → Result X Refusal
judged size None left x = Ok x
judged size (Some reason) left x = Err (refused size reason left)

-- a number of one byte
abbrev pub one : ℕ → (ℕ → Option Reason) → Reader ℕ
one size wrong [] = ended size
one size wrong (n ∷ rest) = judged size (wrong n) (n ∷ rest) (n, rest)

-- a number of two bytes, the high one first
abbrev pub two : ℕ → (ℕ → Option Reason) → Reader ℕ
two size wrong [] = ended size
two size wrong (hi ∷ []) = ended size
two size wrong (hi ∷ (lo ∷ rest)) = judged size (wrong (256 * hi + lo)) (hi ∷ (lo ∷ rest)) (256 * hi + lo, rest)

-- so many of a kind
abbrev pub several : {X : Type 0} → Reader X → ℕ → Reader (List X)
several read zero bytes = Ok ([], bytes)
several read (suc n) bytes =
    and_then (read bytes) (λ x. and_then (several read n x.1) (λ xs. Ok (x.0 ∷ xs.0, xs.1)))

-- a section: how many, and then each
abbrev pub counted : {X : Type 0} → ℕ → (ℕ → Option Reason) → Reader X → Reader (List X)
counted size wrong read bytes = and_then (two size wrong bytes) (λ n. several read n.0 n.1)

-- so many choices, after those that came earlier on the list
abbrev pub choices : ℕ → ℕ → List ℕ → ℕ → Reader (List ℕ)
choices size practices earlier zero bytes = Ok ([], bytes)
choices size practices earlier (suc n) bytes =
    and_then (one size (off_choice practices earlier) bytes) (λ p.
    and_then (choices size practices (earlier ++ (p.0 ∷ [])) n p.1) (λ ps. Ok (p.0 ∷ ps.0, ps.1)))

-- a trainee's list: its length, at most 12, and its choices
abbrev pub list : ℕ → ℕ → Reader (List ℕ)
list size practices bytes = and_then (one size (above 12) bytes) (λ n. choices size practices [] n.0 n.1)

abbrev pub practices_section : ℕ → Reader (List ℕ)
practices_section size = counted size (above 100) (two size off_places)

abbrev pub trainees_section : ℕ → ℕ → Reader (List (List ℕ))
trainees_section size practices = counted size (above 400) (list size practices)

abbrev pub filing_section : ℕ → ℕ → ℕ → Reader (List ℕ)
filing_section size practices trainees = counted size (off_count trainees) (one size (off_filed practices))

-- nothing follows
abbrev pub finished : {X : Type 0} → ℕ → List ℕ → X → Result X Refusal
finished size [] x = Ok x
finished size (b ∷ rest) x = Err (refused size BytesFollow (b ∷ rest))

-- the three sections, and nothing behind them
abbrev pub reading : List ℕ → Result (Entries × Filing) Refusal
reading bytes =
    and_then (practices_section (length bytes) bytes) (λ a.
    and_then (trainees_section (length bytes) (length a.0) a.1) (λ b.
    and_then (filing_section (length bytes) (length a.0) (length b.0) b.1) (λ c.
    finished (length bytes) c.1 (record { places = a.0; lists = b.0 }, c.0))))
