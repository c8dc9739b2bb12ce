-- What holds of every table, and of one with a row more.
use Rattle.std.proofs.Common.{◌≡◌, ℕ, ◌<◌, []}
use Rattle.std.proofs.lemmas.List.{get_or-map, length-map}
use Rattle.rules.specs.Meaning.{trainees, list_of}
use Rattle.assignment.specs.declared.table.Table.{Table}
use Rattle.assignment.specs.Rows.{no_row, at, list}
use Rattle.assignment.specs.States.{trainees_in}
use Rattle.assignment.specs.Tables.{entries}

module _ (T : Table) where
  pub trainees_are : trainees (entries T) ≡ trainees_in T
  trainees_are = length-map T.rows.items list

  pub list_is : (t : ℕ) → t < trainees_in T → list_of (entries T) t ≡ list (at T.rows.items t)
  list_is t l = get_or-map list T.rows.items t no_row [] l
