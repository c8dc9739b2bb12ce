-- What any bytes open as: what they read as, and nobody with nothing filed where they are no sheet.
use Rattle.std.specs.Prelude.{ℕ, cond, List, [], length, Some, None, Ok, Err, Option, Result, nat_lt, slice_index}
use Rattle.rules.specs.declared.words.Refusal.{Refusal}
use Rattle.rules.specs.Meaning.{Entries, nobody, trainees, practices}
use Rattle.sheet.specs.declared.counts.Counts.{Counts}
use Rattle.sheet.specs.Filing.{Filing}
use Rattle.sheet.specs.Reading.{reading}

abbrev pub read_or_nobody : Result (Entries × Filing) Refusal → Entries × Filing
read_or_nobody (Ok x) = x
read_or_nobody (Err e) = (nobody, [])

abbrev pub opened : List ℕ → Entries × Filing
opened bytes = read_or_nobody (reading bytes)

-- how many practices, trainees and filed bytes
abbrev pub counts_of : Entries × Filing → Counts
counts_of x = record { practices = practices x.0; trainees = trainees x.0; filed = length x.1 }

abbrev pub counts_read : Result (Entries × Filing) Refusal → Result Counts Refusal
counts_read (Ok x) = Ok (counts_of x)
counts_read (Err e) = Err e

-- a trainee's filed byte
abbrev pub filed_in : Filing → ℕ → Option ℕ
filed_in f t = cond (nat_lt t (length f)) (Some (slice_index f t)) None
