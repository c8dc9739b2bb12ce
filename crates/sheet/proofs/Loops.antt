-- Reading one after another, as code does.
use Rattle.std.proofs.Common.{◌≡◌, ℕ, zero, suc, ◌+◌, ◌-◌, ◌<◌, ◌≤◌, List, [], ◌∷◌, ◌++◌, length, get_or, take, drop, Some, None, Ok, Err, Option, Result, sym, refl, ap, ◌∙◌, add-zero, arith}
use Rattle.std.proofs.lemmas.List.{length-drop, get_or-drop, take_more, drop-drop}
use Rattle.rules.specs.declared.words.Reason.{Reason}
use Rattle.rules.specs.declared.words.Refusal.{Refusal}
use Rattle.rules.specs.Meaning.{Entries}
use Rattle.sheet.specs.Filing.{Filing}
use Rattle.sheet.specs.Reading.{Reader, and_then, judged, one, two, several, counted, off_choice, choices, practices_section, trainees_section, filing_section, finished, reading}
use Rattle.sheet.specs.Told.{left, numbered, times, section_read}
use Rattle.sheet.specs.Opened.{counts_of, counts_read}
use Rattle.sheet.specs.declared.counts.Counts.{Counts}

one_of : (m : ℕ) → 0 < m → m ≡ suc (m - 1)
one_of m p = omega arith

-- So many, one after another.
module _ (next : List ℕ → Result (List ℕ) Refusal) (m : ℕ) (bytes : List ℕ) where
  pub times_on : (rest : List ℕ) → 0 < m → Ok rest ≡ next bytes → times next m bytes ≡ times next (m - 1) rest
  times_on rest p e = ap (λ (n : ℕ). times next n bytes) (one_of m p) ∙ ap (λ (r : Result (List ℕ) Refusal). and_then r (times next (m - 1))) (sym e)

  pub times_stop : (d : Refusal) → 0 < m → Err d ≡ next bytes → times next m bytes ≡ Err d
  times_stop d p e = ap (λ (n : ℕ). times next n bytes) (one_of m p) ∙ ap (λ (r : Result (List ℕ) Refusal). and_then r (times next (m - 1))) (sym e)

left_put : {X : Type 0} (x : X) (r : Result (List X × List ℕ) Refusal) → left (and_then r (λ xs. Ok (x ∷ xs.0, xs.1))) ≡ left r
left_put x (Ok p) = refl
left_put x (Err e) = refl

module _ {X : Type 0} (read : Reader X) where
  -- what is behind so many
  left_several : (n : ℕ) (bytes : List ℕ) → left (several read n bytes) ≡ times (λ s. left (read s)) n bytes
  left_several zero bytes = refl
  left_several (suc n) bytes = go (read bytes) (λ x. left_several n x.1)
    where
      go : (r : Result (X × List ℕ) Refusal) → ((x : X × List ℕ) → left (several read n x.1) ≡ times (λ s. left (read s)) n x.1) → left (and_then r (λ x. and_then (several read n x.1) (λ xs. Ok (x.0 ∷ xs.0, xs.1)))) ≡ and_then (left r) (times (λ s. left (read s)) n)
      go (Ok x) h = left_put x.0 (several read n x.1) ∙ h x
      go (Err d) h = refl

  put_number : (n : ℕ) (x : X) (r : Result (List X × List ℕ) Refusal) → numbered r ≡ and_then (left r) (λ rest. Ok (n, rest)) → numbered (and_then r (λ xs. Ok (x ∷ xs.0, xs.1))) ≡ and_then (left (and_then r (λ xs. Ok (x ∷ xs.0, xs.1)))) (λ rest. Ok (suc n, rest))
  put_number n x (Ok p) e = let t : ◌≡◌ {A = ℕ × List ℕ} (length p.0, p.1) (n, p.1) = cc in let l : length p.0 ≡ n = ap (λ (q : ℕ × List ℕ). q.0) t in rw l
  put_number n x (Err d) e = refl

  -- as many are read as are asked for
  several_number : (n : ℕ) (bytes : List ℕ) → numbered (several read n bytes) ≡ and_then (left (several read n bytes)) (λ rest. Ok (n, rest))
  several_number zero bytes = refl
  several_number (suc n) bytes = go (read bytes) (λ x. several_number n x.1)
    where
      go : (r : Result (X × List ℕ) Refusal) → ((x : X × List ℕ) → numbered (several read n x.1) ≡ and_then (left (several read n x.1)) (λ rest. Ok (n, rest))) → numbered (and_then r (λ x. and_then (several read n x.1) (λ xs. Ok (x.0 ∷ xs.0, xs.1)))) ≡ and_then (left (and_then r (λ x. and_then (several read n x.1) (λ xs. Ok (x.0 ∷ xs.0, xs.1))))) (λ rest. Ok (suc n, rest))
      go (Ok x) h = put_number n x.0 (several read n x.1) (h x)
      go (Err d) h = refl

  -- A section, as code reads it.
  pub counted_number : (size : ℕ) (wrong : ℕ → Option Reason) (bytes : List ℕ) → section_read size wrong (λ s. left (read s)) bytes ≡ numbered (counted size wrong read bytes)
  counted_number size wrong bytes = go (two size wrong bytes)
    where
      go : (r : Result (ℕ × List ℕ) Refusal) → and_then r (λ n. and_then (times (λ s. left (read s)) n.0 n.1) (λ rest. Ok (n.0, rest))) ≡ numbered (and_then r (λ n. several read n.0 n.1))
      go (Ok n) = ap (λ (q : Result (List ℕ) Refusal). and_then q (λ rest. Ok (n.0, rest))) (sym (left_several n.0 n.1)) ∙ sym (several_number n.0 n.1)
      go (Err d) = refl

-- A section that stops within.
pub section_stop : (size : ℕ) (wrong : ℕ → Option Reason) (next : List ℕ → Result (List ℕ) Refusal) (bytes : List ℕ) (n : ℕ) (first : List ℕ) → Ok (n, first) ≡ two size wrong bytes → (d : Refusal) → times next n first ≡ Err d → section_read size wrong next bytes ≡ Err d
section_stop size wrong next bytes n first counts d e = rw (sym counts, e)

-- A choice that is taken is the first byte.
first_of : (size : ℕ) (wrong : ℕ → Option Reason) (bytes : List ℕ) (p : ℕ) (rest : List ℕ) → Ok (p, rest) ≡ one size wrong bytes → (1 ≤ length bytes) × (p ≡ get_or bytes 0 0) × (rest ≡ drop 1 bytes)
first_of size wrong [] p rest e = absurd (cc)
first_of size wrong (n ∷ bytes) p rest e = go (wrong n) e
  where
    go : (o : Option Reason) → Ok (p, rest) ≡ judged {X = ℕ × List ℕ} size o (n ∷ bytes) (n, bytes) → (1 ≤ suc (length bytes)) × (p ≡ n) × (rest ≡ bytes)
    go None e = let q : ◌≡◌ {A = ℕ × List ℕ} (p, rest) (n, bytes) = cc in (omega arith, ap (λ (x : ℕ × List ℕ). x.0) q, ap (λ (x : ℕ × List ℕ). x.1) q)
    go (Some d) e = absurd (cc)

-- The choice at i, after the i before it.
module _ (size practices i m : ℕ) (s bytes : List ℕ) (more : 0 < m) where
  choices_here : left (choices size practices (take i s) m bytes) ≡ left (and_then (one size (off_choice practices (take i s)) bytes) (λ q. and_then (choices size practices (take i s ++ (q.0 ∷ [])) (m - 1) q.1) (λ qs. Ok (q.0 ∷ qs.0, qs.1))))
  choices_here = ap (λ (n : ℕ). left (choices size practices (take i s) n bytes)) (one_of m more)

  stop : (d : Refusal) (r : Result (ℕ × List ℕ) Refusal) (next : ℕ × List ℕ → Result (List ℕ × List ℕ) Refusal) → Err d ≡ r → left (and_then r next) ≡ Err d
  stop d r next e = rw (sym e)

  pub choices_stop : (d : Refusal) → Err d ≡ one size (off_choice practices (take i s)) bytes → left (choices size practices (take i s) m bytes) ≡ Err d
  choices_stop d e = choices_here ∙ stop d (one size (off_choice practices (take i s)) bytes) (λ q. and_then (choices size practices (take i s ++ (q.0 ∷ [])) (m - 1) q.1) (λ qs. Ok (q.0 ∷ qs.0, qs.1))) e

  pub choices_next : (p : ℕ) (rest : List ℕ) → bytes ≡ drop i s → Ok (p, rest) ≡ one size (off_choice practices (take i s)) bytes → (i + 1 ≤ length s) × (rest ≡ drop (i + 1) s) × (left (choices size practices (take i s) m bytes) ≡ left (choices size practices (take (i + 1) s) (m - 1) rest))
  choices_next p rest at e =
      let f = first_of size (off_choice practices (take i s)) bytes p rest e in
      let l = length-drop i s in
      let n = ap length at in
      let within : i + 1 ≤ length s = omega (arith, f.0) in
      let front : p ≡ get_or s i 0 = f.1 ∙ ap (λ (bs : List ℕ). get_or bs 0 0) at ∙ get_or-drop i s 0 0 ∙ ap (λ (k : ℕ). get_or s k 0) (add-zero i) in
      let one_more : take i s ++ (p ∷ []) ≡ take (i + 1) s = ap (λ (x : ℕ). take i s ++ (x ∷ [])) front ∙ sym (take_more s i 0 (omega arith)) in (
        within,
        f.2 ∙ ap (drop 1) at ∙ drop-drop 1 i s,
        choices_here
            ∙ ap (λ (o : Result (ℕ × List ℕ) Refusal). left (and_then o (λ q. and_then (choices size practices (take i s ++ (q.0 ∷ [])) (m - 1) q.1) (λ qs. Ok (q.0 ∷ qs.0, qs.1))))) (sym e)
            ∙ left_put p (choices size practices (take i s ++ (p ∷ [])) (m - 1) rest)
            ∙ ap (λ (earlier : List ℕ). left (choices size practices earlier (m - 1) rest)) one_more,
      )

number_ok : {X : Type 0} (r : Result (List X × List ℕ) Refusal) (n : ℕ) (rest : List ℕ) → Ok (n, rest) ≡ numbered r → (xs : List X) × (r ≡ Ok (xs, rest)) × (length xs ≡ n)
number_ok {X} (Ok p) n rest e =
    let t : ◌≡◌ {A = ℕ × List ℕ} (length p.0, p.1) (n, rest) = cc in
    (p.0, ap (λ (q : ℕ × List ℕ). Ok (p.0, q.1)) t, ap (λ (q : ℕ × List ℕ). q.0) t)
number_ok (Err d) n rest e = absurd (cc)

number_err : {X : Type 0} (r : Result (List X × List ℕ) Refusal) (d : Refusal) → Err d ≡ numbered r → r ≡ Err d
number_err (Ok p) d e = absurd (cc)
number_err (Err f) d e = cc

-- What is left of the bytes decides only whether they are refused.
finished_counts : (size : ℕ) (rest : List ℕ) (x : Entries × Filing) → finished {X = Unit {0}} size rest tt ≡ Ok tt → counts_read (finished size rest x) ≡ Ok (counts_of x)
finished_counts size [] x e = refl
finished_counts size (b ∷ rest) x e = absurd (cc)

finished_refused : (size : ℕ) (rest : List ℕ) (x : Entries × Filing) (d : Refusal) → finished {X = Unit {0}} size rest tt ≡ Err d → counts_read (finished size rest x) ≡ Err d
finished_refused size [] x d e = absurd (cc)
finished_refused size (b ∷ rest) x d e = cc

reading_joins : (bytes ps : List ℕ) (ls : List (List ℕ)) (lists filing : List ℕ) → practices_section (length bytes) bytes ≡ Ok (ps, lists) → trainees_section (length bytes) (length ps) lists ≡ Ok (ls, filing) → reading bytes ≡ and_then (filing_section (length bytes) (length ps) (length ls) filing) (λ c. finished (length bytes) c.1 (record { places = ps; lists = ls }, c.0))
reading_joins bytes ps ls lists filing e1 e2 = rw (e1, e2)

filing_joins : (size : ℕ) (e : Entries) (f : Filing) (rest : List ℕ) (r : Result (List ℕ × List ℕ) Refusal) → r ≡ Ok (f, rest) → and_then {Y = Entries × Filing} r (λ c. finished size c.1 (e, c.0)) ≡ finished size rest (e, f)
filing_joins size e f rest r h = rw h

-- The whole, section by section, as code reads it.
module _ (bytes first : List ℕ) (s0 s1 s2 m n : ℕ) (lists filing : List ℕ) (p0 : s0 ≡ length bytes) (q_zero : first ≡ bytes) (p1 : s1 ≡ s0) (r1 : Ok (m, lists) ≡ numbered (practices_section s0 first)) (p2 : s2 ≡ s1) (r2 : Ok (n, filing) ≡ numbered (trainees_section s1 m lists)) where
  e1 : Ok (m, lists) ≡ numbered (practices_section (length bytes) bytes)
  e1 = rw (← p0, ← q_zero) r1

  e2 : Ok (n, filing) ≡ numbered (trainees_section (length bytes) m lists)
  e2 = rw (← p0, ← p1) r2

  two_sections : (ps : List ℕ) × (ls : List (List ℕ)) × (length ps ≡ m) × (length ls ≡ n) × (reading bytes ≡ and_then (filing_section (length bytes) m n filing) (λ c. finished (length bytes) c.1 (record { places = ps; lists = ls }, c.0)))
  two_sections =
      let size : ℕ = length bytes in
      let a = number_ok (practices_section size bytes) m lists e1 in
      let b = number_ok (trainees_section size m lists) n filing e2 in
      let f : ℕ → ℕ → Result (Entries × Filing) Refusal = λ i j. and_then (filing_section size i j filing) (λ c. finished size c.1 (record { places = a.0; lists = b.0 }, c.0)) in
      let second : trainees_section size (length a.0) lists ≡ Ok (b.0, filing) = ap (λ (i : ℕ). trainees_section size i lists) a.2 ∙ b.1 in
      (a.0, b.0, a.2, b.2, reading_joins bytes a.0 b.0 lists filing a.1 second ∙ ap (λ (i : ℕ). f i (length b.0)) a.2 ∙ ap (f m) b.2)

  pub counts_unfiled : (d : Refusal) → Err d ≡ numbered (filing_section s2 m n filing) → Err d ≡ counts_read (reading bytes)
  counts_unfiled d r3 =
      let t = two_sections in
      let e3 : Err d ≡ numbered (filing_section (length bytes) m n filing) = rw (← p0, ← p1, ← p2) r3 in
      rw (t.4, number_err (filing_section (length bytes) m n filing) d e3)

  module _ (s3 k : ℕ) (rest : List ℕ) (p3 : s3 ≡ s2) (r3 : Ok (k, rest) ≡ numbered (filing_section s2 m n filing)) where
    e3 : Ok (k, rest) ≡ numbered (filing_section (length bytes) m n filing)
    e3 = rw (← p0, ← p1, ← p2) r3

    whole : (x : Entries × Filing) × (reading bytes ≡ finished (length bytes) rest x) × (counts_of x ≡ record { practices = m; trainees = n; filed = k })
    whole =
        let t = two_sections in
        let c = number_ok (filing_section (length bytes) m n filing) k rest e3 in
        let tallies : (i j l : ℕ) → i ≡ m → j ≡ n → l ≡ k → ◌≡◌ {A = Counts} (record { practices = i; trainees = j; filed = l }) (record { practices = m; trainees = n; filed = k }) = λ i j l p q r. rw (p, q, r) in
        ((record { places = t.0; lists = t.1 }, c.0), t.4 ∙ filing_joins (length bytes) (record { places = t.0; lists = t.1 }) c.0 rest (filing_section (length bytes) m n filing) c.1, tallies (length t.0) (length t.1) (length c.0) t.2 t.3 c.2)

    same : s3 ≡ length bytes
    same = p3 ∙ p2 ∙ p1 ∙ p0

    pub counts_done : Ok tt ≡ finished {X = Unit {0}} s3 rest tt → Ok (record { practices = m; trainees = n; filed = k }) ≡ counts_read (reading bytes)
    counts_done e = let w = whole in sym (ap counts_read w.1 ∙ finished_counts (length bytes) rest w.0 (rw (← same) (sym e)) ∙ ap Ok w.2)

    pub counts_refused : (d : Refusal) → Err d ≡ finished {X = Unit {0}} s3 rest tt → Err d ≡ counts_read (reading bytes)
    counts_refused d e = let w = whole in sym (ap counts_read w.1 ∙ finished_refused (length bytes) rest w.0 d (rw (← same) (sym e)))
