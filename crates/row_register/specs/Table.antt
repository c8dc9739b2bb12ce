-- What a row register means.
use Rattle.std.specs.Prelude.{length}
use Rattle.rules.specs.Meaning.{Meaning}
use Rattle.opening.specs.Opening.{plain_rules}
use Rattle.row_register.specs.declared.table.RowRegister.{RowRegister}
use Rattle.row_register.specs.Reading.{entries_of}

abbrev pub row_meaning : RowRegister → Meaning
row_meaning s = record { entries = entries_of s.rows.now s.numbers.trainees s.numbers.places.items; rules = plain_rules (length s.numbers.places.items) }
