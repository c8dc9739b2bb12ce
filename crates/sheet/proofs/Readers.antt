-- Readers that read back what is shown, and nothing else.
use Rattle.std.proofs.Common.{◌≡◌, ℕ, zero, suc, ◌+◌, ◌*◌, ◌/◌, ◌%◌, ◌<◌, List, [], ◌∷◌, ◌++◌, length, Some, None, Ok, Err, Option, Result, sym, refl, ap, ◌∙◌, subst, arith}
use Rattle.std.specs.List.{flat_map}
use Rattle.std.proofs.lemmas.List.{append_assoc}
use Rattle.rules.specs.declared.words.Reason.{Reason}
use Rattle.rules.specs.declared.words.Refusal.{Refusal}
use Rattle.sheet.specs.Format.{single, pair, section}
use Rattle.sheet.specs.Reading.{Reader, and_then, judged, one, two, several, counted}

-- P of each element.
abbrev pub Each : {X : Type 0} → (X → Type 0) → List X → Type 0
Each P [] = Unit {0}
Each P (x ∷ xs) = P x × Each P xs

abbrev pub Byte : ℕ → Type 0
Byte n = n < 256

pub each_behind : {X : Type 0} (P : X → Type 0) (xs ys : List X) → Each P (xs ++ ys) → Each P ys
each_behind P [] ys h = h
each_behind P (x ∷ xs) ys h = each_behind P xs ys h.1

-- What a sequence that succeeds has done.
pub both : {X Y : Type 0} (r : Result X Refusal) (next : X → Result Y Refusal) (y : Y) → and_then r next ≡ Ok y → (x : X) × (r ≡ Ok x) × (next x ≡ Ok y)
both (Ok x) next y e = (x, refl, e)
both (Err d) next y e = absurd (cc)

pub judged_ok : {X : Type 0} (size : ℕ) (o : Option Reason) (left : List ℕ) (x y : X) → judged size o left x ≡ Ok y → (o ≡ None) × (x ≡ y)
judged_ok size None left x y e = (refl, cc)
judged_ok size (Some reason) left x y e = absurd (cc)

-- `read` takes from the front what `shown` shows of the fine, and nothing else.
pub record Reads {X : Type 0} (read : Reader X) (shown : X → List ℕ) (Fine : X → Type 0) : Type 0 where
  pub back : (x : X) (rest : List ℕ) → Fine x → read (shown x ++ rest) ≡ Ok (x, rest)
  pub only : (bytes : List ℕ) (x : X) (rest : List ℕ) → read bytes ≡ Ok (x, rest) → Fine x × (Each Byte bytes → bytes ≡ shown x ++ rest)

pub reads_one : (size : ℕ) (wrong : ℕ → Option Reason) → Reads (one size wrong) single (λ n. wrong n ≡ None)
reads_one size wrong = record { back = back; only = only }
  where
    back : (x : ℕ) (rest : List ℕ) → wrong x ≡ None → one size wrong (single x ++ rest) ≡ Ok (x, rest)
    back x rest h = rw h

    only : (bytes : List ℕ) (x : ℕ) (rest : List ℕ) → one size wrong bytes ≡ Ok (x, rest) → (wrong x ≡ None) × (Each Byte bytes → bytes ≡ single x ++ rest)
    only [] x rest e = absurd (cc)
    only (n ∷ ns) x rest e =
        let j = judged_ok size (wrong n) (n ∷ ns) (n, ns) (x, rest) e in
        let p : n ≡ x = ap (λ (q : ℕ × List ℕ). q.0) j.1 in
        let q : ns ≡ rest = ap (λ (q : ℕ × List ℕ). q.1) j.1 in
        (rw (sym p) j.0, λ b. cc)

pub pair_whole : (n : ℕ) → 256 * (n / 256) + n % 256 ≡ n
pair_whole n = omega arith

pub high_of : (hi lo : ℕ) → lo < 256 → (256 * hi + lo) / 256 ≡ hi
high_of hi lo h = omega arith

pub low_of : (hi lo : ℕ) → lo < 256 → (256 * hi + lo) % 256 ≡ lo
low_of hi lo h = omega arith

pub reads_two : (size : ℕ) (wrong : ℕ → Option Reason) → Reads (two size wrong) pair (λ n. wrong n ≡ None)
reads_two size wrong = record { back = back; only = only }
  where
    back : (x : ℕ) (rest : List ℕ) → wrong x ≡ None → two size wrong (pair x ++ rest) ≡ Ok (x, rest)
    back x rest h = rw (pair_whole x, h)

    only : (bytes : List ℕ) (x : ℕ) (rest : List ℕ) → two size wrong bytes ≡ Ok (x, rest) → (wrong x ≡ None) × (Each Byte bytes → bytes ≡ pair x ++ rest)
    only [] x rest e = absurd (cc)
    only (hi ∷ []) x rest e = absurd (cc)
    only (hi ∷ (lo ∷ ns)) x rest e =
        let n : ℕ = 256 * hi + lo in
        let j = judged_ok size (wrong n) (hi ∷ (lo ∷ ns)) (n, ns) (x, rest) e in
        let p : n ≡ x = ap (λ (q : ℕ × List ℕ). q.0) j.1 in
        let q : ns ≡ rest = ap (λ (q : ℕ × List ℕ). q.1) j.1 in
        (rw (sym p) j.0, λ b. let h = high_of hi lo b.1.0 in let l = low_of hi lo b.1.0 in cc)

pub reads_several : {X : Type 0} {read : Reader X} {shown : X → List ℕ} {Fine : X → Type 0} → Reads read shown Fine → (n : ℕ) → Reads (several read n) (flat_map shown) (λ xs. (length xs ≡ n) × Each Fine xs)
reads_several {X} {read} {shown} {Fine} r n = record { back = λ xs rest h. back n xs rest h.0 h.1; only = only n }
  where
    back : (n : ℕ) (xs : List X) (rest : List ℕ) → length xs ≡ n → Each Fine xs → several read n (flat_map shown xs ++ rest) ≡ Ok (xs, rest)
    back zero [] rest l h = refl
    back zero (x ∷ xs) rest l h = absurd (omega arith)
    back (suc n) [] rest l h = absurd (omega arith)
    back (suc n) (x ∷ xs) rest l h =
        rw (append_assoc (shown x) (flat_map shown xs) rest, r.back x (flat_map shown xs ++ rest) h.0, back n xs rest (omega arith) h.1)

    only : (n : ℕ) (bytes : List ℕ) (xs : List X) (rest : List ℕ) → several read n bytes ≡ Ok (xs, rest) → ((length xs ≡ n) × Each Fine xs) × (Each Byte bytes → bytes ≡ flat_map shown xs ++ rest)
    only zero bytes xs rest e =
        let j : ◌≡◌ {A = List X × List ℕ} ([], bytes) (xs, rest) = cc in
        let p : [] ≡ xs = ap (λ (q : List X × List ℕ). q.0) j in
        let q : bytes ≡ rest = ap (λ (q : List X × List ℕ). q.1) j in
        (subst (λ (ys : List X). (length ys ≡ 0) × Each Fine ys) p (refl, tt), λ b. cc)
    only (suc n) bytes xs rest e =
        let f = both (read bytes) (λ x. and_then (several read n x.1) (λ xs. Ok (x.0 ∷ xs.0, xs.1))) (xs, rest) e in
        let x = f.0.0 in
        let one_more = r.only bytes x f.0.1 f.1 in
        let g = both (several read n f.0.1) (λ xs. Ok (x ∷ xs.0, xs.1)) (xs, rest) f.2 in
        let ys = g.0.0 in
        let more = only n f.0.1 ys g.0.1 g.1 in
        let j : ◌≡◌ {A = List X × List ℕ} (x ∷ ys, g.0.1) (xs, rest) = cc g.2 in
        let p : x ∷ ys ≡ xs = ap (λ (q : List X × List ℕ). q.0) j in
        let q : g.0.1 ≡ rest = ap (λ (q : List X × List ℕ). q.1) j in
        let a = append_assoc (shown x) (flat_map shown ys) rest in
        let whole : Each Byte bytes → bytes ≡ flat_map shown (x ∷ ys) ++ rest = λ b.
        let m = one_more.1 b in
        let k = more.1 (each_behind Byte (shown x) f.0.1 (subst (Each Byte) m b)) in
        cc in
        subst (λ (zs : List X). ((length zs ≡ suc n) × Each Fine zs) × (Each Byte bytes → bytes ≡ flat_map shown zs ++ rest)) p
        ((ap suc more.0.0, (one_more.0, more.0.1)), whole)

pub reads_counted : {X : Type 0} (size : ℕ) (wrong : ℕ → Option Reason) {read : Reader X} {shown : X → List ℕ} {Fine : X → Type 0} → Reads read shown Fine → Reads (counted size wrong read) (section shown) (λ xs. (wrong (length xs) ≡ None) × Each Fine xs)
reads_counted {X} size wrong {read} {shown} {Fine} r = record { back = back; only = only }
  where
    back : (xs : List X) (rest : List ℕ) → (wrong (length xs) ≡ None) × Each Fine xs → counted size wrong read (section shown xs ++ rest) ≡ Ok (xs, rest)
    back xs rest h =
        ap (λ (o : Result (ℕ × List ℕ) Refusal). and_then o (λ n. several read n.0 n.1)) ((reads_two size wrong).back (length xs) (flat_map shown xs ++ rest) h.0)
        ∙ (reads_several r (length xs)).back xs rest (refl, h.1)

    only : (bytes : List ℕ) (xs : List X) (rest : List ℕ) → counted size wrong read bytes ≡ Ok (xs, rest) → ((wrong (length xs) ≡ None) × Each Fine xs) × (Each Byte bytes → bytes ≡ section shown xs ++ rest)
    only bytes xs rest e =
        let f = both (two size wrong bytes) (λ n. several read n.0 n.1) (xs, rest) e in
        let n = f.0.0 in
        let count = (reads_two size wrong).only bytes n f.0.1 f.1 in
        let more = (reads_several r n).only f.0.1 xs rest f.2 in
        let l = more.0.0 in
        let whole : Each Byte bytes → bytes ≡ section shown xs ++ rest = λ b.
        let m = count.1 b in
        let k = more.1 (each_behind Byte (pair n) f.0.1 (subst (Each Byte) m b)) in
        cc in
        ((rw l count.0, more.0.1), whole)
