-- The entries that rows hold, read off them.
use Rattle.std.specs.Prelude.{ℕ, List, [], map, take, slice_index_or}
use Rattle.rules.specs.Meaning.{Entries}
use Rattle.row_register.specs.declared.row.Row.{Row}

abbrev pub row_list : Row → List ℕ
row_list r = take r.count r.choices

-- the t-th row
abbrev pub row_at : List Row → ℕ → Row
row_at rows t = slice_index_or rows t (record { count = 0; choices = [] })

abbrev pub entries_of : List Row → ℕ → List ℕ → Entries
entries_of rows trainees places = record { places = places; lists = map row_list (take trainees rows) }
