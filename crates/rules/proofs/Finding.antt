-- What the library's questions find on a list, in the words of a roll's questions.
use Rattle.std.proofs.Common.{◌≡◌, ℕ, suc, ◌+◌, ◌<◌, Bool, true, false, cond, not, ◌||◌, ◌==◌, Some, None, ◌⊎◌, List, [], ◌∷◌, map, length, sym, refl, ◌∙◌, inl, inr, arith}
use Rattle.std.specs.List.{list_any, position_or_len, position as first_passing}
use Rattle.std.proofs.lemmas.Bool.{eqb-true, eqb-false, ltb-true, cases_Bool}
use Rattle.std.proofs.lemmas.List.{length-map, map-id}
use Rattle.rules.specs.Questions.{listed, position, position_in}
use Rattle.rules.proofs.Positions.{listed_here, listed_later}

either_way : (b : Bool) (n : ℕ) → cond (not b) (1 + n) 0 ≡ cond b 0 (suc n)
either_way true n = refl
either_way false n = omega arith

module _ {X : Type 0} (test : X → Bool) (number : X → ℕ) where
  -- `position`
  pub passing_at : (xs : List X) (p : ℕ) → ((x : X) → test x ≡ (number x == p)) → position_or_len test xs ≡ position (map number xs) p
  passing_at [] p same = refl
  passing_at (x ∷ xs) p same = rw (same x, passing_at xs p same) (either_way (number x == p) (position (map number xs) p))

  pub passing_in : (xs : List X) (p : ℕ) → ((x : X) → test x ≡ (number x == p)) → first_passing test xs ≡ position_in (map number xs) p
  passing_in xs p same = rw (passing_at xs p same, length-map xs number) refl

  -- `contains`
  pub any_listed : (xs : List X) (p : ℕ) → ((x : X) → test x ≡ (number x == p)) → list_any test xs ≡ listed (map number xs) p
  any_listed [] p same = refl
  any_listed (x ∷ xs) p same = rw (same x, any_listed xs p same) (by (number x == p) refl)
    where
      by : (b : Bool) → (number x == p) ≡ b → (b || listed (map number xs) p) ≡ listed (map number (x ∷ xs)) p
      by true e = sym (listed_here (number x) (map number xs) p (eqb-true (number x) p e))
      by false e = sym (listed_later (number x) (map number xs) p (eqb-false (number x) p e))

-- the same of numbers
module _ (xs : List ℕ) (v : ℕ) where
  pub found_in : first_passing (λ x. x == v) xs ≡ position_in xs v
  found_in = passing_in (λ x. x == v) (λ (x : ℕ). x) xs v (λ x. refl) ∙ rw (map-id xs)

  pub contains_listed : list_any (λ x. x == v) xs ≡ listed xs v
  contains_listed = any_listed (λ x. x == v) (λ (x : ℕ). x) xs v (λ x. refl) ∙ rw (map-id xs)

  pub found_within : (k : ℕ) → Some k ≡ first_passing (λ x. x == v) xs → k < length xs
  found_within k h = by (cases_Bool (listed xs v)) (h ∙ found_in)
    where
      by : (listed xs v ≡ true) ⊎ (listed xs v ≡ false) → Some k ≡ position_in xs v → k < length xs
      by (inl b) e = let q : Some k ≡ Some (position xs v) = rw b at e in let l : k ≡ position xs v = cc in omega (arith, ltb-true (position xs v) (length xs) b)
      by (inr b) e = let q : Some k ≡ None = rw b at e in absurd (cc)
