-- Nothing closed, and one practice more that is closed.
use Rattle.std.proofs.Common.{◌≡◌, ℕ, zero, suc, ◌<◌, Bool, true, false, cond, not, eqb, ◌⊎◌, List, [], ◌∷◌, map, length, get_or, set, replicate, filter, sym, refl, ap, ◌∙◌, inl, inr, arith, get_or-set_other, get_or-set_same}
use mathlib.Core.List.{map-map, map_congr_left}
use Rattle.std.proofs.lemmas.List.{map-id}
use Rattle.std.proofs.lemmas.Bool.{eq-eqb, ne_eqb, cases_eq, cases_Bool}
use Rattle.rules.specs.Meaning.{Meaning}
use Rattle.layers.specs.Shown.{unclosed, still_open, without_meaning}
use Rattle.layers.specs.Closing.{with_closed}
use Rattle.layers.proofs.Filtered.{kept_whole}

module _ (closed : List Bool) (p : ℕ) (l : p < length closed) where
  unclosed_set : (q : ℕ) → unclosed (set closed p true) q ≡ cond (unclosed closed q) (not (eqb q p)) false
  unclosed_set q = by (cases_eq q p) (unclosed closed q) refl
    where
      by : (q ≡ p) ⊎ (q ≡ p → ⊥) → (b : Bool) → unclosed closed q ≡ b → unclosed (set closed p true) q ≡ cond b (not (eqb q p)) false
      by (inl e) true h = rw (e, get_or-set_same closed p true false l, eq-eqb p p refl)
      by (inl e) false h = rw (e, get_or-set_same closed p true false l)
      by (inr e) true h = rw (get_or-set_other closed p q true false e, ne_eqb q p e) h
      by (inr e) false h = rw (get_or-set_other closed p q true false e) h

-- two filters, one after the other
module _ (first second both : ℕ → Bool) (joins : (x : ℕ) → both x ≡ cond (first x) (second x) false) where
  kept_both : (xs : List ℕ) → filter both xs ≡ filter second (filter first xs)
  kept_both [] = refl
  kept_both (x ∷ xs) = by (cases_Bool (first x)) (cases_Bool (second x)) (kept_both xs)
    where
      by : (first x ≡ true) ⊎ (first x ≡ false) → (second x ≡ true) ⊎ (second x ≡ false) → filter both xs ≡ filter second (filter first xs) → filter both (x ∷ xs) ≡ filter second (filter first (x ∷ xs))
      by (inl a) (inl b) rest = rw (joins x, a, b) (ap (λ ys. x ∷ ys) rest)
      by (inl a) (inr b) rest = rw (joins x, a, b) rest
      by (inr a) b rest = rw (joins x, a) rest

  kept_each : (lists : List (List ℕ)) → map (filter both) lists ≡ map (filter second) (map (filter first) lists)
  kept_each lists = map_congr_left {f = filter both} {g = λ l. filter second (filter first l)} (λ l _. kept_both l) ∙ sym (map-map (filter second) (filter first) lists)

still_open_set : (closed opened : List Bool) (p : ℕ) → p < length closed → still_open (set closed p true) opened ≡ set (still_open closed opened) p false
still_open_set closed [] p l = refl
still_open_set [] (o ∷ os) p l = absurd (omega arith)
still_open_set (c ∷ cs) (o ∷ os) zero l = refl
still_open_set (c ∷ cs) (o ∷ os) (suc p) l = ap (λ r. cond c false o ∷ r) (still_open_set cs os p (omega arith))

pub without_set : (closed : List Bool) (m : Meaning) (p : ℕ) → p < length closed → without_meaning (set closed p true) m ≡ with_closed (without_meaning closed m) p
without_set closed m p l =
    rw (kept_each (unclosed closed) (λ q. not (eqb q p)) (unclosed (set closed p true)) (unclosed_set closed p l) m.entries.lists, still_open_set closed m.rules.opened p l)

-- with nothing closed
get_or_none : (n p : ℕ) → get_or (replicate n false) p false ≡ false
get_or_none zero p = refl
get_or_none (suc n) zero = refl
get_or_none (suc n) (suc p) = get_or_none n p

still_none : (n : ℕ) (opened : List Bool) → still_open (replicate n false) opened ≡ opened
still_none n [] = refl
still_none zero (o ∷ os) = refl
still_none (suc n) (o ∷ os) = ap (λ l. o ∷ l) (still_none n os)

pub without_none : (n : ℕ) (m : Meaning) → without_meaning (replicate n false) m ≡ m
without_none n m =
    let test = unclosed (replicate n false) in
    let lists : map (filter test) m.entries.lists ≡ m.entries.lists = map_congr_left {f = filter test} {g = λ l. l} (λ l _. kept_whole test l (λ k h. ap not (get_or_none n (get_or l k 0)))) ∙ map-id m.entries.lists in
    rw (lists, still_none n m.rules.opened)
