-- What a rank grid means.
use Rattle.std.specs.Prelude.{length}
use Rattle.rules.specs.Meaning.{Meaning}
use Rattle.opening.specs.Opening.{plain_rules}
use Rattle.rank_grid.specs.declared.grid.RankGrid.{RankGrid}
use Rattle.rank_grid.specs.Reading.{entries_of}

abbrev pub grid_meaning : RankGrid → Meaning
grid_meaning s = record { entries = entries_of s.cells.now s.numbers.trainees s.numbers.places.items; rules = plain_rules (length s.numbers.places.items) }
