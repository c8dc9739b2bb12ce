-- What is asked of a list that is cut.
use Rattle.std.proofs.Common.{◌≡◌, cond, ltb, ℕ, zero, suc, ◌<◌, ◌≤◌, min, ◌⊎◌, List, [], ◌∷◌, length, take, Some, None, sym, ◌∙◌, inl, inr, ⊎_elim, arith, length-take, get_or-take}
use Rattle.std.proofs.lemmas.Map.Entries.{option_filter}
use Rattle.std.proofs.lemmas.Bool.{lt-ltb, le-ltb, cases_lt, cases_eq}
use Rattle.rules.specs.Questions.{choice_in, position_in, position}
use Rattle.rules.proofs.Positions.{position_here, position_later}
use Rattle.layers.proofs.Chosen.{choice_at, choice_past}

module _ (n : ℕ) (list : List ℕ) where
  pub choice_within : (k : ℕ) → k < n → choice_in list k ≡ choice_in (take n list) k
  choice_within k h = by (cases_lt k (length list))
    where
      by : (k < length list) ⊎ (length list ≤ k) → choice_in list k ≡ choice_in (take n list) k
      by (inl l) = choice_at list k l ∙ sym (choice_at (take n list) k (simp length-take (omega arith)) ∙ rw (get_or-take n list k 0 h))
      by (inr l) = choice_past list k l ∙ sym (choice_past (take n list) k (simp length-take (omega arith)))

  pub choice_cut : (k : ℕ) → n ≤ k → None ≡ choice_in (take n list) k
  choice_cut k h = sym (choice_past (take n list) k (simp length-take (omega arith)))

position_take : (n : ℕ) (xs : List ℕ) (p : ℕ) → position (take n xs) p ≡ min n (position xs p)
position_take zero xs p = omega arith
position_take (suc n) [] p = omega arith
position_take (suc n) (x ∷ xs) p =
    ⊎_elim
    (λ (e : x ≡ p). rw (position_here x (take n xs) p e, position_here x xs p e) (omega arith))
    (λ (e : x ≡ p → ⊥). rw (position_later x (take n xs) p e, position_later x xs p e) (omega (arith, position_take n xs p)))
    (cases_eq x p)

pub position_within : (n : ℕ) (list : List ℕ) (p : ℕ) → option_filter (λ k. ltb k n) (position_in list p) ≡ position_in (take n list) p
position_within n list p =
    rw (position_take n list p, length-take n list)
    (by (cases_lt (position list p) (length list)) (cases_lt (position list p) n))
  where
    by : (position list p < length list) ⊎ (length list ≤ position list p) → (position list p < n) ⊎ (n ≤ position list p) →
        option_filter (λ k. ltb k n) (position_in list p) ≡ cond (ltb (min n (position list p)) (min n (length list))) (Some (min n (position list p))) None
    by (inl a) (inl b) =
        let same : min n (position list p) ≡ position list p = omega arith in
        rw (lt-ltb (position list p) (length list) a, lt-ltb (position list p) n b, same, lt-ltb (position list p) (min n (length list)) (omega arith))
    by (inl a) (inr b) =
        rw (lt-ltb (position list p) (length list) a, le-ltb (position list p) n b, le-ltb (min n (position list p)) (min n (length list)) (omega arith))
    by (inr a) _ =
        rw (le-ltb (position list p) (length list) a, le-ltb (min n (position list p)) (min n (length list)) (omega arith))
