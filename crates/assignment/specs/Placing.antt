-- What `place` answers.
use Rattle.std.specs.Prelude.{◌≡◌, ℕ, ◌≤◌, Bool, true, false, ◌&&◌, None, Ok, Err, Result, nat_le}
use Rattle.rules.specs.declared.words.Refusal.{Refusal}
use Rattle.rules.specs.declared.words.Reason.TheVariants.{WrongLength}
use Rattle.rules.specs.Words.{of_round}
use Rattle.rules.specs.Meaning.{trainees}
use Rattle.voting.specs.Placements.{seating}
use Rattle.voting.specs.Weights.{Heaviest}
use Rattle.assignment.specs.declared.table.Table.{Table}
use Rattle.assignment.specs.declared.placed.Placed.{Placed}
use Rattle.assignment.specs.Tables.{entries, weights}

-- as many slots of both kinds as trainees
abbrev pub enough : Table → ℕ → ℕ → Bool
enough T waiting moves = nat_le (trainees (entries T)) waiting && nat_le (trainees (entries T)) moves

-- none that is feasible weighs more, and only the table's trainees have seats
pub record Best (T : Table) (f : Placed) : Type 0 where
  pub heaviest : Heaviest (entries T) (weights T) (seating f.seats)
  pub rest : (t : ℕ) → trainees (entries T) ≤ t → seating f.seats t ≡ None

abbrev pub Answer : Table → Bool → Result Placed Refusal → Type 0
Answer T true r = (f : Placed) × (r ≡ Ok f) × Best T f
Answer T false r = r ≡ Err (of_round WrongLength (trainees (entries T)))
