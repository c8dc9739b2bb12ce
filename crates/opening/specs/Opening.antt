-- What opening a register over lent memory is refused with, and what it means once it is open.
use Rattle.std.specs.Prelude.{ℕ, true, cond, [], replicate, Some, None, Option, nat_le}
use Rattle.rules.specs.declared.words.Refusal.{Refusal}
use Rattle.rules.specs.declared.words.Reason.TheVariants.{CountOutOfBounds, WrongLength}
use Rattle.rules.specs.Words.{of_register}
use Rattle.rules.specs.Meaning.{Meaning, Rules, nobody}

-- the practices, then the trainees, then the memory: what is needed for so many, and what is lent
abbrev pub opening_refusal : ℕ → ℕ → ℕ → ℕ → Option Refusal
opening_refusal practices trainees needed lent =
    cond (nat_le practices 100)
    (cond (nat_le trainees 400)
    (cond (nat_le needed lent) None (Some (of_register WrongLength needed)))
    (Some (of_register CountOutOfBounds trainees)))
    (Some (of_register CountOutOfBounds practices))

-- lists of up to 12 choices, of any practice
abbrev pub plain_rules : ℕ → Rules
plain_rules practices = record { longest = 12; opened = replicate practices true }

-- all lists empty and all places 1; where opening is refused, nobody
abbrev pub opened : Option Refusal → ℕ → ℕ → Meaning
opened None practices trainees = record { entries = record { places = replicate practices 1; lists = replicate trainees [] }; rules = plain_rules practices }
opened (Some r) practices trainees = record { entries = nobody; rules = plain_rules 0 }
