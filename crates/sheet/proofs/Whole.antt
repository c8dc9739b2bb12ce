-- The whole sheet.
use Rattle.std.proofs.Common.{◌≡◌, ℕ, List, [], ◌∷◌, ◌++◌, length, get_or, None, Ok, sym, refl, ap, ◌∙◌, subst}
use Rattle.std.proofs.lemmas.List.{append-nil}
use Rattle.rules.specs.Meaning.{Entries, Lawful}
use Rattle.rules.specs.Refusals.{off_places}
use Rattle.rules.proofs.Checking.{on_places}
use Rattle.sheet.specs.Filing.{Filing, Fitting}
use Rattle.sheet.specs.Format.{single, pair, measured, section, sheet}
use Rattle.sheet.specs.Reading.{above, off_count, off_filed, practices_section, trainees_section, filing_section, finished, reading}
use Rattle.sheet.specs.Statement.{Bytes, SheetOf, ReadsTheSheets}
use Rattle.sheet.proofs.Readers.{Each, Byte, each_behind, both, Reads, reads_one, reads_two, reads_counted}
use Rattle.sheet.proofs.Lists.{FineList, reads_list}
use Rattle.sheet.proofs.Tests.{each_at, each_from, above_most, above_fine, places_fine, count_either, count_fine, filed_either, filed_fine, strict_of, fine_of}

reads_1 : (size : ℕ) → Reads (practices_section size) (section pair) (λ ps. (above 100 (length ps) ≡ None) × Each (λ n. off_places n ≡ None) ps)
reads_1 size = reads_counted size (above 100) (reads_two size off_places)

reads_2 : (size practices : ℕ) → Reads (trainees_section size practices) (section measured) (λ ls. (above 400 (length ls) ≡ None) × Each (FineList practices) ls)
reads_2 size practices = reads_counted size (above 400) (reads_list size practices)

reads_3 : (size practices trainees : ℕ) → Reads (filing_section size practices trainees) (section single) (λ f. (off_count trainees (length f) ≡ None) × Each (λ p. off_filed practices p ≡ None) f)
reads_3 size practices trainees = reads_counted size (off_count trainees) (reads_one size (off_filed practices))

pub accepts : (b : List ℕ) (e : Entries) (f : Filing) → SheetOf e f b → reading b ≡ Ok (e, f)
accepts b e f s =
    let size : ℕ = length b in
    let m : ℕ = length e.places in
    let n : ℕ = length e.lists in
    let law = s.lawful in
    let fit = s.fits in
    let S2 : List ℕ = section measured e.lists in
    let S3 : List ℕ = section single f in
    let one_is = (reads_1 size).back e.places (S2 ++ S3) (above_fine 100 m law.few_practices, each_from (λ x. off_places x ≡ None) 0 e.places (λ k l. places_fine (get_or e.places k 0) (law.places_range k l))) in
    let two_is = (reads_2 size m).back e.lists S3 (above_fine 400 n law.few_trainees, each_from (FineList m) [] e.lists (λ t l. fine_of m (get_or e.lists t []) (law.lists_strict t l))) in
    let three_is = (reads_3 size m n).back f [] (count_fine n (length f) fit.many, each_from (λ p. off_filed m p ≡ None) 0 f (λ t l. filed_fine m (get_or f t 0) (fit.known t l))) in
    let start : practices_section size b ≡ Ok (e.places, S2 ++ S3) = ap (practices_section size) s.bytes ∙ one_is in
    let third : filing_section size m n S3 ≡ Ok (f, []) = ap (filing_section size m n) (sym (append-nil S3)) ∙ three_is in
    rw (start, two_is, third)

done : {X : Type 0} (size : ℕ) (rest : List ℕ) (x y : X) → finished size rest x ≡ Ok y → (rest ≡ []) × (x ≡ y)
done size [] x y e = (refl, cc)
done size (b ∷ rest) x y e = absurd (cc)

-- What was read, section by section.
pub record Sections (b : List ℕ) (e : Entries) (f : Filing) : Type 0 where
  pub lawful : Lawful e
  pub fits : Fitting e f
  pub bytes : Bytes b → b ≡ sheet e f

pub sections : (b : List ℕ) (e : Entries) (f : Filing) → reading b ≡ Ok (e, f) → Sections b e f
sections b e f h =
    let size : ℕ = length b in
    let r1 = both (practices_section size b) _ (e, f) h in
    let ps = r1.0.0 in
    let m : ℕ = length ps in
    let r2 = both (trainees_section size m r1.0.1) _ (e, f) r1.2 in
    let ls = r2.0.0 in
    let n : ℕ = length ls in
    let r3 = both (filing_section size m n r2.0.1) _ (e, f) r2.2 in
    let g = r3.0.0 in
    let made : Entries = record { places = ps; lists = ls } in
    let d = done size r3.0.1 (made, g) (e, f) r3.2 in
    let s1 = (reads_1 size).only b ps r1.0.1 r1.1 in
    let s2 = (reads_2 size m).only r1.0.1 ls r2.0.1 r2.1 in
    let s3 = (reads_3 size m n).only r2.0.1 g r3.0.1 r3.1 in
    let whole : Bytes b → b ≡ sheet made g = λ bytes.
    let b1 = each_from Byte 0 b bytes in
    let e1 = s1.1 b1 in
    let b2 = each_behind Byte (section pair ps) r1.0.1 (subst (Each Byte) e1 b1) in
    let e2 = s2.1 b2 in
    let b3 = each_behind Byte (section measured ls) r2.0.1 (subst (Each Byte) e2 b2) in
    let e3 = s3.1 b3 in
    let end = d.0 in
    let nil = append-nil (section single g) in
    cc in
    let lawful : Lawful made = record {
      few_trainees = above_most 400 n s2.0.0;
      few_practices = above_most 100 m s1.0.0;
      places_range = λ k l. on_places (get_or ps k 0) (each_at (λ x. off_places x ≡ None) 0 ps s1.0.1 k l);
      lists_strict = λ t l. strict_of m (get_or ls t []) (each_at (FineList m) [] ls s2.0.1 t l);
    } in
    let fits : Fitting made g = record {
      many = count_either n (length g) s3.0.0;
      known = λ t l. filed_either m (get_or g t 0) (each_at (λ p. off_filed m p ≡ None) 0 g s3.0.1 t l);
    } in
    subst (λ (q : Entries × Filing). Sections b q.0 q.1) d.1 (record { lawful = lawful; fits = fits; bytes = whole })

pub only : (b : List ℕ) (e : Entries) (f : Filing) → Bytes b → reading b ≡ Ok (e, f) → SheetOf e f b
only b e f bytes h = let s = sections b e f h in record { lawful = s.lawful; fits = s.fits; bytes = s.bytes bytes }

pub reads_the_sheets : (b : List ℕ) → Bytes b → ReadsTheSheets b
reads_the_sheets b bytes = record { accepts = accepts b; only = λ e f. only b e f bytes }
