-- What is accepted is a sheet, and every sheet is accepted.
use Rattle.std.proofs.Common.{◌≡◌, ℕ, List, get_or, Ok, Err, Result, refl, ap, ◌∙◌, Fits, w8, rules}
use Rattle.rules.specs.declared.words.Refusal.{Refusal}
use Rattle.rules.specs.Meaning.{Entries}
use Rattle.sheet.specs.declared.counts.Counts.{Counts}
use Rattle.sheet.specs.Filing.{Filing}
use Rattle.sheet.specs.Reading.{reading}
use Rattle.sheet.specs.Opened.{counts_of, counts_read}
use Rattle.sheet.specs.Statement.{Bytes, SheetOf}
use Rattle.sheet.proofs.Whole.{accepts, only}

-- a slice of bytes
pub bytes_fit : (b : List ℕ) → ((k : ℕ) → Fits w8 (get_or b k 0)) → Bytes b
bytes_fit b h k l = let f = h k in search rules

-- bytes that were counted are a sheet
pub counted_sheet : (b : List ℕ) (k : Counts) → Bytes b → Ok k ≡ counts_read (reading b) → (e : Entries) × (f : Filing) × SheetOf e f b
counted_sheet b k bytes h = go (reading b) refl h
  where
    go : (r : Result (Entries × Filing) Refusal) → reading b ≡ r → Ok k ≡ counts_read r → (e : Entries) × (f : Filing) × SheetOf e f b
    go (Ok x) e h = (x.0, x.1, only b x.0 x.1 bytes e)
    go (Err d) e h = absurd (cc)

-- and a sheet is counted
pub sheet_counted : (b : List ℕ) (d : Refusal) (e : Entries) (f : Filing) → SheetOf e f b → Err d ≡ counts_read (reading b) → ⊥
sheet_counted b d e f s h = let q : Err d ≡ Ok (counts_of (e, f)) = h ∙ ap counts_read (accepts b e f s) in cc
