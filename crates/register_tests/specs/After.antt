-- One list entered in a register just opened: the answer, and what the caller's memory holds then.
use Rattle.std.specs.Prelude.{ℕ, List, Result}
use Rattle.rules.specs.declared.words.Refusal.{Refusal}
use Rattle.rules.specs.Meaning.{Entries, Meaning, with_list}
use Rattle.rules.specs.Refusals.{entry_refusal, outcome}
use Rattle.opening.specs.Opening.{opening_refusal, opened}

-- the practices, the trainees, the memory that so many need and the memory lent
abbrev pub just_opened : ℕ → ℕ → ℕ → ℕ → Meaning
just_opened practices trainees needed lent = opened (opening_refusal practices trainees needed lent) practices trainees

-- by what memory is that holds entries
abbrev pub after : {X : Type 0} → (Entries → List X → List X) → Meaning → List X → ℕ → List ℕ → Result (Unit {0}) Refusal × List X
after holding m memory t list = outcome (entry_refusal m t list) (holding m.entries memory) (holding (with_list m t list).entries memory)
