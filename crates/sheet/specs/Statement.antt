-- What a sheet is, and what is proved of reading: it accepts the sheets, and nothing else.
use Rattle.std.specs.Prelude.{◌≡◌, ℕ, ◌<◌, List, length, Ok, slice_index}
use Rattle.rules.specs.Meaning.{Entries, Lawful}
use Rattle.sheet.specs.Filing.{Filing, Fitting}
use Rattle.sheet.specs.Format.{sheet}
use Rattle.sheet.specs.Reading.{reading}

abbrev pub Bytes : List ℕ → Type 0
Bytes b = (k : ℕ) → k < length b → slice_index b k < 256

-- b is a sheet: that of lawful entries e and a filing f that fits
pub record SheetOf (e : Entries) (f : Filing) (b : List ℕ) : Type 0 where
  pub lawful : Lawful e
  pub fits : Fitting e f
  pub bytes : b ≡ sheet e f

-- of the bytes b
pub record ReadsTheSheets (b : List ℕ) : Type 0 where
  pub accepts : (e : Entries) (f : Filing) → SheetOf e f b → reading b ≡ Ok (e, f)
  pub only : (e : Entries) (f : Filing) → reading b ≡ Ok (e, f) → SheetOf e f b
