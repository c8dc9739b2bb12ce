-- Where a practice stands on a list.
use Rattle.std.proofs.Common.{◌≡◌, ℕ, zero, suc, ◌<◌, ◌≤◌, true, false, ◌⊎◌, List, [], ◌∷◌, ◌++◌, length, get_or, sym, refl, ap, ◌∙◌, inl, inr, ⊎_elim, arith}
use lib.Dec.{leb-suc-suc}
use Rattle.std.proofs.lemmas.Bool.{eq-eqb, ne_eqb, lt-ltb, le-ltb, ltb-true, ltb-false, cases_eq, cases_lt}
use Rattle.rules.specs.Questions.{position, listed}

abbrev pub Distinct : List ℕ → Type 0
Distinct list = (j k : ℕ) → j < k → k < length list → get_or list j 0 ≡ get_or list k 0 → ⊥

pub position_here : (x : ℕ) (xs : List ℕ) (p : ℕ) → x ≡ p → position (x ∷ xs) p ≡ 0
position_here x xs p e = rw (eq-eqb x p e)

pub position_later : (x : ℕ) (xs : List ℕ) (p : ℕ) → (x ≡ p → ⊥) → position (x ∷ xs) p ≡ suc (position xs p)
position_later x xs p e = rw (ne_eqb x p e)

pub listed_here : (x : ℕ) (xs : List ℕ) (p : ℕ) → x ≡ p → listed (x ∷ xs) p ≡ true
listed_here x xs p e = rw (position_here x xs p e) (lt-ltb 0 (suc (length xs)) (omega arith))

pub listed_later : (x : ℕ) (xs : List ℕ) (p : ℕ) → (x ≡ p → ⊥) → listed (x ∷ xs) p ≡ listed xs p
listed_later x xs p e = rw (position_later x xs p e) (leb-suc-suc (suc (position xs p)) (length xs))

pub position_most : (xs : List ℕ) (p : ℕ) → position xs p ≤ length xs
position_most [] p = omega arith
position_most (x ∷ xs) p =
    ⊎_elim
    (λ (e : x ≡ p). rw (position_here x xs p e) (omega arith))
    (λ (e : x ≡ p → ⊥). rw (position_later x xs p e) (omega (arith, position_most xs p)))
    (cases_eq x p)

-- what stands at a position
pub at_position : (xs : List ℕ) (p : ℕ) → position xs p < length xs → get_or xs (position xs p) 0 ≡ p
at_position [] p l = absurd (omega arith)
at_position (x ∷ xs) p l =
    ⊎_elim
    (λ (e : x ≡ p). rw (position_here x xs p e) e)
    (λ (e : x ≡ p → ⊥). rw (position_later x xs p e) (at_position xs p (omega (arith, position_later x xs p e))))
    (cases_eq x p)

-- nothing before a position is the practice
pub position_first : (xs : List ℕ) (p k : ℕ) → k < length xs → get_or xs k 0 ≡ p → position xs p ≤ k
position_first [] p k l e = omega arith
position_first (x ∷ xs) p zero l e = rw (position_here x xs p e) (omega arith)
position_first (x ∷ xs) p (suc k) l e =
    ⊎_elim
    (λ (q : x ≡ p). rw (position_here x xs p q) (omega arith))
    (λ (q : x ≡ p → ⊥). rw (position_later x xs p q) (omega (arith, position_first xs p k (omega arith) e)))
    (cases_eq x p)

-- the first place where the practice stands
pub position_is : (xs : List ℕ) (p k : ℕ) → k < length xs → get_or xs k 0 ≡ p → ((j : ℕ) → j < k → get_or xs j 0 ≡ p → ⊥) → position xs p ≡ k
position_is xs p k l e n = by (cases_lt (position xs p) k)
  where
    first : position xs p ≤ k
    first = position_first xs p k l e

    by : (position xs p < k) ⊎ (k ≤ position xs p) → position xs p ≡ k
    by (inl m) = absurd (n (position xs p) m (at_position xs p (omega arith)))
    by (inr m) = omega (arith, first)

-- a choice of a list without repeats stands at its own position
pub position_own : (xs : List ℕ) → Distinct xs → (k : ℕ) → k < length xs → position xs (get_or xs k 0) ≡ k
position_own xs d k l = position_is xs (get_or xs k 0) k l refl (λ j m e. d j k m l e)

pub listed_own : (xs : List ℕ) (k : ℕ) → k < length xs → listed xs (get_or xs k 0) ≡ true
listed_own xs k l = lt-ltb (position xs (get_or xs k 0)) (length xs) (omega (arith, position_first xs (get_or xs k 0) k l refl))

pub listed_at : (xs : List ℕ) (p : ℕ) → listed xs p ≡ true → (position xs p < length xs) × (get_or xs (position xs p) 0 ≡ p)
listed_at xs p h = let l = ltb-true (position xs p) (length xs) h in (l, at_position xs p l)

pub not_listed : (xs : List ℕ) (p : ℕ) → listed xs p ≡ false → (k : ℕ) → k < length xs → get_or xs k 0 ≡ p → ⊥
not_listed xs p h k l e = omega (arith, ltb-false (position xs p) (length xs) h, position_first xs p k l e)

pub unlisted : (xs : List ℕ) (p : ℕ) → ((k : ℕ) → k < length xs → get_or xs k 0 ≡ p → ⊥) → listed xs p ≡ false
unlisted xs p h = by (cases_lt (position xs p) (length xs))
  where
    by : (position xs p < length xs) ⊎ (length xs ≤ position xs p) → listed xs p ≡ false
    by (inl l) = absurd (h (position xs p) l (at_position xs p l))
    by (inr l) = le-ltb (position xs p) (length xs) l

-- one more choice
pub position_push : (xs : List ℕ) (p : ℕ) → listed xs p ≡ false → position (xs ++ p ∷ []) p ≡ length xs
position_push [] p h = position_here p [] p refl
position_push (x ∷ xs) p h =
    let e : x ≡ p → ⊥ = not_listed (x ∷ xs) p h 0 (omega arith) in
    rw (position_later x (xs ++ p ∷ []) p e) (ap suc (position_push xs p (sym (listed_later x xs p e) ∙ h)))

pub listed_push : (xs : List ℕ) (p : ℕ) → listed (xs ++ p ∷ []) p ≡ true
listed_push [] p = listed_here p [] p refl
listed_push (x ∷ xs) p =
    ⊎_elim
    (λ (e : x ≡ p). listed_here x (xs ++ p ∷ []) p e)
    (λ (e : x ≡ p → ⊥). listed_later x (xs ++ p ∷ []) p e ∙ listed_push xs p)
    (cases_eq x p)

pub listed_push_other : (xs : List ℕ) (x p : ℕ) → (x ≡ p → ⊥) → listed (xs ++ x ∷ []) p ≡ listed xs p
listed_push_other [] x p e = listed_later x [] p e
listed_push_other (y ∷ ys) x p e =
    ⊎_elim
    (λ (q : y ≡ p). listed_here y (ys ++ x ∷ []) p q ∙ sym (listed_here y ys p q))
    (λ (q : y ≡ p → ⊥). listed_later y (ys ++ x ∷ []) p q ∙ listed_push_other ys x p e ∙ sym (listed_later y ys p q))
    (cases_eq y p)

pub position_push_other : (xs : List ℕ) (x p : ℕ) → listed xs p ≡ true → position (xs ++ x ∷ []) p ≡ position xs p
position_push_other [] x p h = absurd (omega (arith, ltb-true 0 0 h))
position_push_other (y ∷ ys) x p h =
    ⊎_elim
    (λ (q : y ≡ p). position_here y (ys ++ x ∷ []) p q ∙ sym (position_here y ys p q))
    (λ (q : y ≡ p → ⊥).
    position_later y (ys ++ x ∷ []) p q
    ∙ ap suc (position_push_other ys x p (sym (listed_later y ys p q) ∙ h))
    ∙ sym (position_later y ys p q))
    (cases_eq y p)
