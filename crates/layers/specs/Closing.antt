-- What the call that closes a practice answers, and what is closed then.
use Rattle.std.specs.Prelude.{ℕ, Bool, true, false, cond, not, List, Some, None, filter, Option, Result, ◌==◌, nat_lt, slice_set}
use Rattle.rules.specs.declared.words.Refusal.{Refusal}
use Rattle.rules.specs.declared.words.Reason.TheVariants.{NoSuchPractice}
use Rattle.rules.specs.Words.{of_register}
use Rattle.rules.specs.Meaning.{Entries, Meaning, practices}
use Rattle.rules.specs.Refusals.{outcome}
use Rattle.layers.specs.Shown.{with_lists}

abbrev pub close_refusal : Entries → ℕ → Option Refusal
close_refusal e p = cond (nat_lt p (practices e)) None (Some (of_register NoSuchPractice p))

-- the answer, and which practices are closed after it
abbrev pub marks_outcome : Entries → List Bool → ℕ → Result (Unit {0}) Refusal × List Bool
marks_outcome e closed p = outcome (close_refusal e p) closed (slice_set closed p true)

-- the meaning with one practice closed: no list shows it, and it is not open
abbrev pub with_closed : Meaning → ℕ → Meaning
with_closed m p =
    record {
      entries = with_lists (filter (λ q. not (q == p))) m.entries;
      rules = record { longest = m.rules.longest; opened = slice_set m.rules.opened p false };
    }

abbrev pub close_outcome : Meaning → ℕ → Result (Unit {0}) Refusal × Meaning
close_outcome m p = outcome (close_refusal m.entries p) m (with_closed m p)
