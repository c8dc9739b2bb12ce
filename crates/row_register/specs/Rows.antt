-- The rows that hold entries: for each trainee its list, and zeros behind it.
use Rattle.std.specs.Prelude.{ℕ, ◌-◌, List, ◌++◌, map, length, drop, replicate}
use Rattle.rules.specs.Meaning.{Entries, trainees}
use Rattle.row_register.specs.declared.row.Row.{Row}

-- the row of a trainee with this list
abbrev pub row_of : List ℕ → Row
row_of list = record { count = length list; choices = list ++ replicate (12 - length list) 0 }

-- memory that holds these entries: a row for each trainee, and beyond them what was there
abbrev pub holding : Entries → List Row → List Row
holding e memory = map row_of e.lists ++ drop (trainees e) memory
