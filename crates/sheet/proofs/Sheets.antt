-- What bytes that open hold, and where.
use Rattle.std.proofs.Common.{◌≡◌, ℕ, zero, suc, ◌+◌, ◌-◌, ◌*◌, ◌/◌, ◌%◌, ◌<◌, ◌≤◌, ◌⊎◌, List, [], ◌∷◌, ◌++◌, length, get_or, take, drop, Ok, Err, Result, sym, refl, ap, ◌∙◌, inl, inr, arith}
use Rattle.std.specs.List.{flat_map}
use Rattle.std.proofs.lemmas.List.{append_assoc, length-append, drop_at, take_at, drop_all, drop_more}
use Rattle.rules.specs.declared.words.Refusal.{Refusal}
use Rattle.rules.specs.Meaning.{Entries, Lawful, nobody, trainees, practices, places_of, list_of}
use Rattle.rules.proofs.Lawfully.{strict_of}
use Rattle.sheet.specs.Filing.{Filing}
use Rattle.sheet.specs.Format.{single, pair, measured, section}
use Rattle.sheet.specs.Reading.{reading}
use Rattle.sheet.specs.Opened.{read_or_nobody, opened}
use Rattle.sheet.specs.Statement.{Bytes, SheetOf}
use Rattle.sheet.proofs.Readers.{pair_whole}
use Rattle.sheet.proofs.Whole.{accepts, sections, only}

nobody_lawful : Lawful nobody
nobody_lawful =
    record {
      few_trainees = omega arith;
      few_practices = omega arith;
      places_range = λ p l. absurd (omega arith);
      lists_strict = λ t l. absurd (omega arith);
    }

pub opened_lawful : (b : List ℕ) → Lawful (opened b).0
opened_lawful b = go (reading b) refl
  where
    go : (r : Result (Entries × Filing) Refusal) → reading b ≡ r → Lawful (read_or_nobody r).0
    go (Ok x) e = (sections b x.0 x.1 e).lawful
    go (Err d) e = nobody_lawful

pub opened_sheet : (b : List ℕ) (e : Entries) (f : Filing) → SheetOf e f b → opened b ≡ (e, f)
opened_sheet b e f s = ap read_or_nobody (accepts b e f s)

-- Bytes open as what they are a sheet of, or as nobody.
pub opened_either : (b : List ℕ) → Bytes b → SheetOf (opened b).0 (opened b).1 b ⊎ (opened b ≡ (nobody, []))
opened_either b bytes = go (reading b) refl
  where
    go : (r : Result (Entries × Filing) Refusal) → reading b ≡ r → SheetOf (read_or_nobody r).0 (read_or_nobody r).1 b ⊎ (read_or_nobody r ≡ (nobody, []))
    go (Ok x) e = inl (only b x.0 x.1 bytes e)
    go (Err d) e = inr refl

pub joined_single : (ns : List ℕ) → flat_map single ns ≡ ns
joined_single [] = refl
joined_single (n ∷ ns) = ap (λ (s : List ℕ). n ∷ s) (joined_single ns)

pub length_pairs : (ns : List ℕ) → length (flat_map pair ns) ≡ 2 * length ns
length_pairs [] = refl
length_pairs (n ∷ ns) = let h = length_pairs ns in omega arith

-- What is filed ends the sheet.
pub filing_at : (b : List ℕ) → Bytes b → (length (opened b).1 ≤ length b) × (drop (length b - length (opened b).1) b ≡ (opened b).1)
filing_at b bytes = go (opened b).0 (opened b).1 (opened_either b bytes)
  where
    go : (e : Entries) (f : Filing) → SheetOf e f b ⊎ ◌≡◌ {A = Entries × Filing} (e, f) (nobody, []) → (length f ≤ length b) × (drop (length b - length f) b ≡ f)
    go e f (inl s) =
        let S1 : List ℕ = section pair e.places in
        let S2 : List ℕ = section measured e.lists in
        let P : List ℕ = S1 ++ (S2 ++ pair (length f)) in
        let j = joined_single f in
        let a1 = append_assoc S2 (pair (length f)) f in
        let a2 = append_assoc S1 (S2 ++ pair (length f)) f in
        let k = s.bytes in
        let whole : b ≡ P ++ f = cc in
        let l : length b ≡ length P + length f = ap length whole ∙ length-append P f in
        (omega arith, ap (drop (length b - length f)) whole ∙ drop_at P f (length b - length f) (omega arith))
    go e f (inr n) =
        let z : f ≡ [] = ap (λ (q : Entries × Filing). q.1) n in
        let l : length f ≡ 0 = ap length z in
        (omega arith, drop_all (length b - length f) b (omega arith) ∙ sym z)

-- The places of a practice among the two bytes of each.
pairs_at : (ns rest : List ℕ) (p : ℕ) → p < length ns → (2 * p + 1 < length (flat_map pair ns ++ rest)) × (256 * get_or (flat_map pair ns ++ rest) (2 * p) 0 + get_or (flat_map pair ns ++ rest) (2 * p + 1) 0 ≡ get_or ns p 0)
pairs_at [] rest p l = absurd (omega arith)
pairs_at (n ∷ ns) rest zero l = (omega arith, pair_whole n)
pairs_at (n ∷ ns) rest (suc p) l =
    let h = pairs_at ns rest p (omega arith) in
    let a : 2 * suc p ≡ suc (suc (2 * p)) = omega arith in
    let c : suc (suc (2 * p)) + 1 ≡ suc (suc (2 * p + 1)) = omega arith in
    (omega (arith, h.0), rw (a, c) h.1)

pub places_at : (b : List ℕ) → Bytes b → (p : ℕ) → p < practices (opened b).0 → (2 + 2 * p + 1 < length b) × (256 * get_or b (2 + 2 * p) 0 + get_or b (2 + 2 * p + 1) 0 ≡ places_of (opened b).0 p)
places_at b bytes p l = go (opened b).0 (opened b).1 (opened_either b bytes) l
  where
    go : (e : Entries) (f : Filing) → SheetOf e f b ⊎ ◌≡◌ {A = Entries × Filing} (e, f) (nobody, []) → p < practices e → (2 + 2 * p + 1 < length b) × (256 * get_or b (2 + 2 * p) 0 + get_or b (2 + 2 * p + 1) 0 ≡ places_of e p)
    go e f (inl s) l =
        let rest : List ℕ = section measured e.lists ++ section single f in
        let body : List ℕ = flat_map pair e.places ++ rest in
        let m : ℕ = length e.places in
        let whole : b ≡ m / 256 ∷ (m % 256 ∷ body) = s.bytes in
        let h = pairs_at e.places rest p l in
        let a : 2 + 2 * p ≡ suc (suc (2 * p)) = omega arith in
        let c : suc (suc (2 * p)) + 1 ≡ suc (suc (2 * p + 1)) = omega arith in
        (omega (arith, ap length whole, h.0), rw (whole, a, c) h.1)
    go e f (inr n) l =
        let z : e ≡ nobody = ap (λ (q : Entries × Filing). q.0) n in
        let k : practices e ≡ 0 = ap practices z in
        let w : ⊥ = omega arith in
        absurd w

-- The lists, behind the places and the number of trainees.
pub lists_at : (b : List ℕ) → Bytes b → 0 < trainees (opened b).0 → drop (4 + 2 * practices (opened b).0) b ≡ flat_map measured (opened b).0.lists ++ section single (opened b).1
lists_at b bytes l = go (opened b).0 (opened b).1 (opened_either b bytes) l
  where
    go : (e : Entries) (f : Filing) → SheetOf e f b ⊎ ◌≡◌ {A = Entries × Filing} (e, f) (nobody, []) → 0 < trainees e → drop (4 + 2 * practices e) b ≡ flat_map measured e.lists ++ section single f
    go e f (inl s) l =
        let S1 : List ℕ = section pair e.places in
        let N : List ℕ = pair (trainees e) in
        let L : List ℕ = flat_map measured e.lists in
        let S3 : List ℕ = section single f in
        let a1 = append_assoc N L S3 in
        let a2 = append_assoc S1 N (L ++ S3) in
        let k = s.bytes in
        let whole : b ≡ (S1 ++ N) ++ (L ++ S3) = cc in
        ap (drop (4 + 2 * practices e)) whole ∙ drop_at (S1 ++ N) (L ++ S3) (4 + 2 * practices e) (omega (arith, length-append S1 N, length_pairs e.places))
    go e f (inr n) l =
        let z : e ≡ nobody = ap (λ (q : Entries × Filing). q.0) n in
        let k : trainees e ≡ 0 = ap trainees z in
        let w : ⊥ = omega arith in
        absurd w

-- A list at the front of those from the i-th on, behind its length, and the next behind it.
pub record Stands (lists : List (List ℕ)) (tail b : List ℕ) (i : ℕ) : Type 0 where
  pub within : 1 + get_or b 0 0 ≤ length b
  pub here : take (get_or b 0 0) (drop 1 b) ≡ get_or lists i []
  pub next : drop (1 + get_or b 0 0) b ≡ flat_map measured (drop (i + 1) lists) ++ tail

stands_by : (list rest : List ℕ) (n : ℕ) (front : List ℕ) → front ≡ length list ∷ (list ++ rest) → n ≡ get_or front 0 0 → (1 + n ≤ length front) × (take n (drop 1 front) ≡ list) × (drop (1 + n) front ≡ rest)
stands_by list rest n front e q =
    let l : n ≡ length list = q ∙ ap (λ (s : List ℕ). get_or s 0 0) e in
    let size : length front ≡ suc (length list + length rest) = ap length e ∙ ap suc (length-append list rest) in (
      omega arith,
      ap (λ (s : List ℕ). take n (drop 1 s)) e ∙ take_at list rest n (sym l),
      ap (λ (s : List ℕ). drop (1 + n) s) e ∙ drop_at (length list ∷ list) rest (1 + n) (omega arith),
    )

pub stands : (lists : List (List ℕ)) (tail b : List ℕ) (i : ℕ) → i < length lists → b ≡ flat_map measured (drop i lists) ++ tail → Stands lists tail b i
stands lists tail b i l e =
    let list : List ℕ = get_or lists i [] in
    let rest : List ℕ = flat_map measured (drop (i + 1) lists) ++ tail in
    let s =
    stands_by list rest (get_or b 0 0) b (e ∙ ap (λ (s : List (List ℕ)). flat_map measured s ++ tail) (drop_more lists i [] l) ∙ ap (λ (s : List ℕ). length list ∷ s) (append_assoc list (flat_map measured (drop (i + 1) lists)) tail)) refl in
    record { within = s.0; here = s.1; next = s.2 }

-- A list of anybody is short.
pub list_short : (e : Entries) → Lawful e → (t : ℕ) → length (list_of e t) ≤ 12
list_short e law t = (strict_of e law t).short
