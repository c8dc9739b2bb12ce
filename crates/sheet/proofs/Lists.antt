-- A list of choices is read back.
use Rattle.std.proofs.Common.{◌≡◌, ℕ, zero, suc, List, [], ◌∷◌, ◌++◌, length, None, Ok, Result, refl, ap, ◌∙◌, subst, arith}
use Rattle.rules.specs.declared.words.Refusal.{Refusal}
use Rattle.sheet.specs.Format.{single, measured}
use Rattle.sheet.specs.Reading.{and_then, one, above, off_choice, choices, list}
use Rattle.sheet.proofs.Readers.{Each, Byte, each_behind, both, Reads, reads_one}

-- Each choice is fine after those before it.
abbrev pub Apart : ℕ → List ℕ → List ℕ → Type 0
Apart practices earlier [] = Unit {0}
Apart practices earlier (p ∷ ps) = (off_choice practices earlier p ≡ None) × Apart practices (earlier ++ (p ∷ [])) ps

pub reads_choices : (size practices : ℕ) (earlier : List ℕ) (n : ℕ) → Reads (choices size practices earlier n) (λ ps. ps) (λ ps. (length ps ≡ n) × Apart practices earlier ps)
reads_choices size practices earlier n = record { back = λ ps rest h. back earlier n ps rest h.0 h.1; only = only earlier n }
  where
    back : (earlier : List ℕ) (n : ℕ) (ps rest : List ℕ) → length ps ≡ n → Apart practices earlier ps → choices size practices earlier n (ps ++ rest) ≡ Ok (ps, rest)
    back earlier zero [] rest l h = refl
    back earlier zero (p ∷ ps) rest l h = absurd (omega arith)
    back earlier (suc n) [] rest l h = absurd (omega arith)
    back earlier (suc n) (p ∷ ps) rest l h =
        ap (λ (o : Result (ℕ × List ℕ) Refusal). and_then o (λ q. and_then (choices size practices (earlier ++ (q.0 ∷ [])) n q.1) (λ qs. Ok (q.0 ∷ qs.0, qs.1))))
        ((reads_one size (off_choice practices earlier)).back p (ps ++ rest) h.0)
        ∙ rw (back (earlier ++ (p ∷ [])) n ps rest (omega arith) h.1)

    only : (earlier : List ℕ) (n : ℕ) (bytes ps rest : List ℕ) → choices size practices earlier n bytes ≡ Ok (ps, rest) → ((length ps ≡ n) × Apart practices earlier ps) × (Each Byte bytes → bytes ≡ ps ++ rest)
    only earlier zero bytes ps rest e =
        let j : ◌≡◌ {A = List ℕ × List ℕ} ([], bytes) (ps, rest) = cc in
        let p : [] ≡ ps = ap (λ (q : List ℕ × List ℕ). q.0) j in
        let q : bytes ≡ rest = ap (λ (q : List ℕ × List ℕ). q.1) j in
        subst (λ (qs : List ℕ). ((length qs ≡ 0) × Apart practices earlier qs) × (Each Byte bytes → bytes ≡ qs ++ rest)) p ((refl, tt), λ b. q)
    only earlier (suc n) bytes ps rest e =
        let f = both (one size (off_choice practices earlier) bytes) (λ q. and_then (choices size practices (earlier ++ (q.0 ∷ [])) n q.1) (λ qs. Ok (q.0 ∷ qs.0, qs.1))) (ps, rest) e in
        let x = f.0.0 in
        let first = (reads_one size (off_choice practices earlier)).only bytes x f.0.1 f.1 in
        let g = both (choices size practices (earlier ++ (x ∷ [])) n f.0.1) (λ qs. Ok (x ∷ qs.0, qs.1)) (ps, rest) f.2 in
        let ys = g.0.0 in
        let more = only (earlier ++ (x ∷ [])) n f.0.1 ys g.0.1 g.1 in
        let j : ◌≡◌ {A = List ℕ × List ℕ} (x ∷ ys, g.0.1) (ps, rest) = cc g.2 in
        let p : x ∷ ys ≡ ps = ap (λ (q : List ℕ × List ℕ). q.0) j in
        let q : g.0.1 ≡ rest = ap (λ (q : List ℕ × List ℕ). q.1) j in
        let whole : Each Byte bytes → bytes ≡ x ∷ (ys ++ rest) = λ b.
        let m = first.1 b in
        let k = more.1 (each_behind Byte (single x) f.0.1 (subst (Each Byte) m b)) in
        cc in
        subst (λ (zs : List ℕ). ((length zs ≡ suc n) × Apart practices earlier zs) × (Each Byte bytes → bytes ≡ zs ++ rest)) p
        ((ap suc more.0.0, (first.0, more.0.1)), whole)

abbrev pub FineList : ℕ → List ℕ → Type 0
FineList practices ps = (above 12 (length ps) ≡ None) × Apart practices [] ps

pub reads_list : (size practices : ℕ) → Reads (list size practices) measured (FineList practices)
reads_list size practices = record { back = back; only = only }
  where
    back : (ps rest : List ℕ) → FineList practices ps → list size practices (measured ps ++ rest) ≡ Ok (ps, rest)
    back ps rest h =
        ap (λ (o : Result (ℕ × List ℕ) Refusal). and_then o (λ n. choices size practices [] n.0 n.1))
        ((reads_one size (above 12)).back (length ps) (ps ++ rest) h.0)
        ∙ (reads_choices size practices [] (length ps)).back ps rest (refl, h.1)

    only : (bytes ps rest : List ℕ) → list size practices bytes ≡ Ok (ps, rest) → FineList practices ps × (Each Byte bytes → bytes ≡ measured ps ++ rest)
    only bytes ps rest e =
        let f = both (one size (above 12) bytes) (λ n. choices size practices [] n.0 n.1) (ps, rest) e in
        let n = f.0.0 in
        let count = (reads_one size (above 12)).only bytes n f.0.1 f.1 in
        let more = (reads_choices size practices [] n).only f.0.1 ps rest f.2 in
        let l = more.0.0 in
        let whole : Each Byte bytes → bytes ≡ measured ps ++ rest = λ b.
        let m = count.1 b in
        let k = more.1 (each_behind Byte (single n) f.0.1 (subst (Each Byte) m b)) in
        cc in
        ((rw l count.0, more.0.1), whole)
