-- The sections of a sheet in the buffer, and how long they are.
use Rattle.std.proofs.Common.{◌≡◌, ℕ, ◌+◌, ◌-◌, ◌*◌, ◌≤◌, List, [], ◌++◌, length, refl, ap, ◌∙◌, arith}
use borrow.Rule.Slice.PartMut.{put_mid}
use Rattle.std.specs.List.{flat_map}
use Rattle.std.proofs.lemmas.List.{append_assoc, length-append}
use Rattle.rules.specs.Meaning.{Entries, practices}
use Rattle.sheet.specs.Filing.{Filing}
use Rattle.sheet.specs.Format.{single, pair, measured, section, sheet}
use Rattle.sheet.proofs.Sheets.{length_pairs, joined_single}
use Rattle.sheet_writer.specs.Over.{over}
use Rattle.sheet_writer.proofs.Parts.{behind, length_over}

-- how long a sheet is
pub sheet_length : (e : Entries) (f : Filing) → length (sheet e f) ≡ 6 + 2 * practices e + length (flat_map measured e.lists) + length f
sheet_length e f =
    let S1 : List ℕ = section pair e.places in
    let S2 : List ℕ = section measured e.lists in
    let S3 : List ℕ = section single f in
    omega (arith, length-append S1 (S2 ++ S3), length-append S2 S3, length_pairs e.places, ap length (joined_single f))

-- m practices, and l bytes of lists
module _ (e : Entries) (E s1 s2 : List ℕ) (m l : ℕ) (p : m ≡ practices e) (q : l ≡ length (flat_map measured e.lists)) where
  abbrev pub one : ℕ
  one = 2 + 2 * m

  abbrev pub two : ℕ
  two = one + 2 + l

  -- the buffer with the first two sections
  abbrev pub after_two : List ℕ
  after_two = put_mid one (two - one) (put_mid 0 (one - 0) E s1) s2

  both_length : length (section pair e.places ++ section measured e.lists) ≡ two
  both_length = omega (arith, length-append (section pair e.places) (section measured e.lists), length_pairs e.places, p, q)

  pub two_sections : s1 ≡ section pair e.places → s2 ≡ section measured e.lists → after_two ≡ over (section pair e.places ++ section measured e.lists) E
  two_sections a b =
      let S1 : List ℕ = section pair e.places in
      let S2 : List ℕ = section measured e.lists in
      let n1 : length S1 ≡ one = omega (arith, length_pairs e.places, p) in
      let first = behind [] S1 E E s1 0 (one - 0) refl (omega arith) refl a in
      behind S1 S2 E (put_mid 0 (one - 0) E s1) s2 one (two - one) n1 (omega (arith, q)) first b

  pub two_length : s1 ≡ section pair e.places → s2 ≡ section measured e.lists → two ≤ length E → length after_two ≡ length E
  two_length a b r =
      ap length (two_sections a b) ∙ length_over (section pair e.places ++ section measured e.lists) E (omega (arith, both_length))

  pub all_sections : (f : Filing) (s3 : List ℕ) → s1 ≡ section pair e.places → s2 ≡ section measured e.lists → s3 ≡ section single f → put_mid two (two + 2 + length f - two) after_two s3 ≡ over (sheet e f) E
  all_sections f s3 a b c =
      let S1 : List ℕ = section pair e.places in
      let S2 : List ℕ = section measured e.lists in
      let S3 : List ℕ = section single f in
      behind (S1 ++ S2) S3 E after_two s3 two (two + 2 + length f - two) both_length (omega (arith, ap length (joined_single f))) (two_sections a b) c
      ∙ ap (λ (s : List ℕ). over s E) (append_assoc S1 S2 S3)
