-- What is asked of a list that is filtered.
use Rattle.std.proofs.Common.{◌≡◌, ℕ, suc, ◌<◌, Bool, true, false, cond, ◌⊎◌, List, [], ◌∷◌, length, get_or, take, Some, None, filter, sym, refl, ap, ◌∙◌, inl, inr, arith}
use Rattle.std.specs.Option.{option_map}
use Rattle.std.proofs.ByRecursion.{kept_by_passes, All-get_or}
use Rattle.std.proofs.lemmas.Bool.{cases_eq, cases_Bool, both_ways}
use Rattle.rules.specs.Questions.{position_in, position, listed}
use Rattle.rules.proofs.Positions.{position_here, position_later, listed_here, listed_later, unlisted}

module _ (test : ℕ → Bool) where
  pub kept_here : (x : ℕ) (xs : List ℕ) → test x ≡ true → filter test (x ∷ xs) ≡ x ∷ filter test xs
  kept_here x xs h = rw h

  pub kept_later : (x : ℕ) (xs : List ℕ) → test x ≡ false → filter test (x ∷ xs) ≡ filter test xs
  kept_later x xs h = rw h

  -- where each choice passes, nothing is left out
  pub kept_whole : (xs : List ℕ) → ((k : ℕ) → k < length xs → test (get_or xs k 0) ≡ true) → filter test xs ≡ xs
  kept_whole [] h = refl
  kept_whole (x ∷ xs) h = kept_here x xs (h 0 (omega arith)) ∙ ap (λ ys. x ∷ ys) (kept_whole xs (λ k l. h (suc k) (omega arith)))

  kept_unlisted : (xs : List ℕ) (p : ℕ) → test p ≡ false → listed (filter test xs) p ≡ false
  kept_unlisted xs p h = unlisted (filter test xs) p (λ k l e. both_ways (test p) h (rw e at (All-get_or (λ x. test x ≡ true) (filter test xs) k 0 l (kept_by_passes test xs))))

  kept_listed : (xs : List ℕ) (p : ℕ) → test p ≡ true → listed (filter test xs) p ≡ listed xs p
  kept_listed [] p h = refl
  kept_listed (x ∷ xs) p h = by (cases_eq x p) (cases_Bool (test x)) (kept_listed xs p h)
    where
      by : (x ≡ p) ⊎ (x ≡ p → ⊥) → (test x ≡ true) ⊎ (test x ≡ false) → listed (filter test xs) p ≡ listed xs p → listed (filter test (x ∷ xs)) p ≡ listed (x ∷ xs) p
      by (inl e) (inl a) rest = ap (λ l. listed l p) (kept_here x xs a) ∙ listed_here x (filter test xs) p e ∙ sym (listed_here x xs p e)
      by (inl e) (inr a) rest = absurd (both_ways (test x) a (ap test e ∙ h))
      by (inr e) (inl a) rest = ap (λ l. listed l p) (kept_here x xs a) ∙ listed_later x (filter test xs) p e ∙ rest ∙ sym (listed_later x xs p e)
      by (inr e) (inr a) rest = ap (λ l. listed l p) (kept_later x xs a) ∙ rest ∙ sym (listed_later x xs p e)

  -- as many stand before it as are kept before it
  kept_position : (xs : List ℕ) (p : ℕ) → test p ≡ true → position (filter test xs) p ≡ length (filter test (take (position xs p) xs))
  kept_position [] p h = refl
  kept_position (x ∷ xs) p h = by (cases_eq x p) (cases_Bool (test x)) (kept_position xs p h)
    where
      by : (x ≡ p) ⊎ (x ≡ p → ⊥) → (test x ≡ true) ⊎ (test x ≡ false) → position (filter test xs) p ≡ length (filter test (take (position xs p) xs)) → position (filter test (x ∷ xs)) p ≡ length (filter test (take (position (x ∷ xs) p) (x ∷ xs)))
      by (inl e) (inl a) rest = ap (λ l. position l p) (kept_here x xs a) ∙ position_here x (filter test xs) p e ∙ sym (ap (λ n. length (filter test (take n (x ∷ xs)))) (position_here x xs p e))
      by (inl e) (inr a) rest = absurd (both_ways (test x) a (ap test e ∙ h))
      by (inr e) (inl a) rest = ap (λ l. position l p) (kept_here x xs a) ∙ position_later x (filter test xs) p e ∙ ap suc rest ∙ sym (ap (λ n. length (filter test (take n (x ∷ xs)))) (position_later x xs p e) ∙ ap length (kept_here x (take (position xs p) xs) a))
      by (inr e) (inr a) rest = ap (λ l. position l p) (kept_later x xs a) ∙ rest ∙ sym (ap (λ n. length (filter test (take n (x ∷ xs)))) (position_later x xs p e) ∙ ap length (kept_later x (take (position xs p) xs) a))

  pub position_left : (xs : List ℕ) (p : ℕ) → test p ≡ false → None ≡ position_in (filter test xs) p
  position_left xs p h = sym (rw (kept_unlisted xs p h))

  pub position_kept : (xs : List ℕ) (p : ℕ) → test p ≡ true → option_map (λ k. length (filter test (take k xs))) (position_in xs p) ≡ position_in (filter test xs) p
  position_kept xs p a = rw (kept_listed xs p a, kept_position xs p a) (by (listed xs p))
    where
      by : (b : Bool) → option_map (λ k. length (filter test (take k xs))) (cond b (Some (position xs p)) None) ≡ cond b (Some (length (filter test (take (position xs p) xs)))) None
      by true = refl
      by false = refl
