-- Ranks, and the list that they are the ranks of.
use Rattle.std.proofs.Common.{◌≡◌, ℕ, zero, suc, ◌+◌, ◌<◌, ◌≤◌, max, true, false, cond, eqb, fold, option_map, unwrap_or, ◌⊎◌, List, [], ◌∷◌, ◌++◌, length, get_or, take, set, sym, refl, ap, ◌∙◌, inl, inr, arith}
use Rattle.std.specs.List.{reduce}
use Rattle.std.proofs.lemmas.List.FromFn.{fill_by_all, length-map-range_with_len, get_or-map-range_with_len}
use Rattle.std.proofs.lemmas.List.{take_more, get_or_past, get_or-take, length-take-le, get_or-set_same, get_or-set_other}
use Rattle.std.proofs.lemmas.Bool.{eq-eqb, ne_eqb, lt-ltb, le-ltb, cases_eq, cases_lt, cases_Bool}
use Rattle.rules.specs.Meaning.{Strict}
use Rattle.rules.specs.Questions.{listed, position, choice_in, position_in}
use Rattle.rules.proofs.Positions.{Distinct, position_is, position_own, listed_own, listed_at, unlisted, position_push, position_push_other, listed_push, listed_push_other}
use Rattle.rank_grid.specs.Ranks.{rank, ranks}
use Rattle.rank_grid.specs.Reading.{greatest, where_is, list_in}

pub rank_listed : (xs : List ℕ) (p : ℕ) → listed xs p ≡ true → rank xs p ≡ position xs p + 1
rank_listed xs p h = rw h

pub rank_unlisted : (xs : List ℕ) (p : ℕ) → listed xs p ≡ false → rank xs p ≡ 0
rank_unlisted xs p h = rw h

-- what has a rank stands there
pub rank_at : (xs : List ℕ) (p k : ℕ) → rank xs p ≡ k + 1 → (k < length xs) × (get_or xs k 0 ≡ p)
rank_at xs p k h = by (cases_Bool (listed xs p))
  where
    by : (listed xs p ≡ true) ⊎ (listed xs p ≡ false) → (k < length xs) × (get_or xs k 0 ≡ p)
    by (inl l) = let a = listed_at xs p l in let e : position xs p ≡ k = omega (arith, rank_listed xs p l) in rw e at a
    by (inr l) = absurd (omega (arith, rank_unlisted xs p l))

-- the choice k has the rank k + 1
pub rank_own : (xs : List ℕ) → Distinct xs → (k : ℕ) → k < length xs → rank xs (get_or xs k 0) ≡ k + 1
rank_own xs d k l = rank_listed xs (get_or xs k 0) (listed_own xs k l) ∙ ap (λ j. j + 1) (position_own xs d k l)

pub rank_most : (xs : List ℕ) (p : ℕ) → rank xs p ≤ length xs
rank_most xs p = by (cases_Bool (listed xs p))
  where
    by : (listed xs p ≡ true) ⊎ (listed xs p ≡ false) → rank xs p ≤ length xs
    by (inl l) = omega (arith, rank_listed xs p l, (listed_at xs p l).0)
    by (inr l) = omega (arith, rank_unlisted xs p l)

-- one more choice
pub rank_push_other : (ys : List ℕ) (x p : ℕ) → (x ≡ p → ⊥) → rank (ys ++ x ∷ []) p ≡ rank ys p
rank_push_other ys x p e = by (cases_Bool (listed ys p))
  where
    by : (listed ys p ≡ true) ⊎ (listed ys p ≡ false) → rank (ys ++ x ∷ []) p ≡ rank ys p
    by (inl l) =
        rank_listed (ys ++ x ∷ []) p (listed_push_other ys x p e ∙ l)
        ∙ ap (λ j. j + 1) (position_push_other ys x p l)
        ∙ sym (rank_listed ys p l)
    by (inr l) = rank_unlisted (ys ++ x ∷ []) p (listed_push_other ys x p e ∙ l) ∙ sym (rank_unlisted ys p l)

pub rank_push_same : (ys : List ℕ) (x : ℕ) → listed ys x ≡ false → rank (ys ++ x ∷ []) x ≡ length ys + 1
rank_push_same ys x h = rank_listed (ys ++ x ∷ []) x (listed_push ys x) ∙ ap (λ j. j + 1) (position_push ys x h)

pub greatest_above : (n : ℕ) (f : ℕ → ℕ) (p : ℕ) → p < n → f p ≤ greatest n f
greatest_above zero f p l = absurd (omega arith)
greatest_above (suc n) f p l = by (λ m. greatest_above n f p m) (cases_eq p n)
  where
    by : (p < n → f p ≤ greatest n f) → (p ≡ n) ⊎ (p ≡ n → ⊥) → f p ≤ max (greatest n f) (f n)
    by ih (inl e) = rw e (omega arith)
    by ih (inr e) = let a = ih (omega arith) in omega arith

pub greatest_below : (n : ℕ) (f : ℕ → ℕ) (m : ℕ) → ((p : ℕ) → p < n → f p ≤ m) → greatest n f ≤ m
greatest_below zero f m h = omega arith
greatest_below (suc n) f m h = let a = greatest_below n f m (λ p l. h p (omega arith)) in let b = h n (omega arith) in omega arith

pub where_found : (n : ℕ) (f : ℕ → ℕ) (v p : ℕ) → p < n → f p ≡ v → (where_is n f v < n) × (f (where_is n f v) ≡ v)
where_found zero f v p l h = absurd (omega arith)
where_found (suc n) f v p l h = by (λ m. where_found n f v p m h) (cases_eq (f n) v)
  where
    by : (p < n → (where_is n f v < n) × (f (where_is n f v) ≡ v)) → (f n ≡ v) ⊎ (f n ≡ v → ⊥) → (cond (eqb (f n) v) n (where_is n f v) < suc n) × (f (cond (eqb (f n) v) n (where_is n f v)) ≡ v)
    by ih (inl e) = rw (eq-eqb (f n) v e) (omega arith, e)
    by ih (inr e) =
        let ne : p ≡ n → ⊥ = λ q. e (rw q at h) in
        let a = ih (omega arith) in
        rw (ne_eqb (f n) v e) (omega arith, a.1)

-- a run that holds the ranks of a strict list holds that list
pub list_in_is : (n : ℕ) (f : ℕ → ℕ) (xs : List ℕ) → Strict n xs → ((p : ℕ) → p < n → f p ≡ rank xs p) → list_in n f ≡ xs
list_in_is n f xs s h = sym (fill_by_all (λ k. where_is n f (k + 1)) xs (greatest n f) 0 (by (length xs) refl) at)
  where
    own : (k : ℕ) → k < length xs → f (get_or xs k 0) ≡ k + 1
    own k l = h (get_or xs k 0) (s.below k l) ∙ rank_own xs s.distinct k l

    low : greatest n f ≤ length xs
    low = greatest_below n f (length xs) (λ p l. rw (h p l) (rank_most xs p))

    by : (m : ℕ) → length xs ≡ m → length xs ≡ greatest n f
    by zero e = omega (arith, low)
    by (suc m) e = omega (arith, low, greatest_above n f (get_or xs m 0) (s.below m (omega arith)), own m (omega arith))

    at : (i : ℕ) → i < greatest n f → get_or xs i 0 ≡ where_is n f (i + 1)
    at i l =
        let m : i < length xs = omega (arith, low) in
        let a = where_found n f (i + 1) (get_or xs i 0) (s.below i m) (own i m) in
        (rank_at xs (where_is n f (i + 1)) i (sym (h (where_is n f (i + 1)) a.0) ∙ a.1)).1

-- one rank more is written
pub rank_write : (run xs : List ℕ) (i : ℕ) → Strict (length run) xs → i < length xs → ((p : ℕ) → p < length run → get_or run p 0 ≡ rank (take i xs) p) → (p : ℕ) → p < length run → get_or (set run (get_or xs i 0) (i + 1)) p 0 ≡ rank (take (i + 1) xs) p
rank_write run xs i s l h p m = by (cases_eq p (get_or xs i 0))
  where
    front : length (take i xs) ≡ i
    front = length-take-le i xs (omega arith)

    fresh : listed (take i xs) (get_or xs i 0) ≡ false
    fresh =
        unlisted (take i xs) (get_or xs i 0)
        (λ k b e. let q : k < i = omega (arith, front) in s.distinct k i q l (sym (get_or-take i xs k 0 q) ∙ e))

    by : (p ≡ get_or xs i 0) ⊎ (p ≡ get_or xs i 0 → ⊥) → get_or (set run (get_or xs i 0) (i + 1)) p 0 ≡ rank (take (i + 1) xs) p
    by (inl e) = rw (e, get_or-set_same run (get_or xs i 0) (i + 1) 0 (s.below i l), take_more xs i 0 l, rank_push_same (take i xs) (get_or xs i 0) fresh, front)
    by (inr e) = rw (get_or-set_other run (get_or xs i 0) p (i + 1) 0 e, take_more xs i 0 l, rank_push_other (take i xs) (get_or xs i 0) p (λ q. e (sym q))) (h p m)

-- the cells of a run, and none past it
module _ (n : ℕ) (xs : List ℕ) where
  pub length_ranks : length (ranks n xs) ≡ n
  length_ranks = length-map-range_with_len (rank xs) 0 n

  pub ranks_below : (p : ℕ) → p < n → get_or (ranks n xs) p 0 ≡ rank xs p
  ranks_below p l = get_or-map-range_with_len (rank xs) 0 n p p 0 l (omega arith)

-- the greatest number of a list
fold_above : (xs : List ℕ) (a : ℕ) → a ≤ fold max a xs
fold_above [] a = omega arith
fold_above (x ∷ xs) a = omega (arith, fold_above xs (max a x))

fold_each : (xs : List ℕ) (a k : ℕ) → k < length xs → get_or xs k 0 ≤ fold max a xs
fold_each [] a k l = absurd (omega arith)
fold_each (x ∷ xs) a zero l = omega (arith, fold_above xs (max a x))
fold_each (x ∷ xs) a (suc k) l = fold_each xs (max a x) k (omega arith)

fold_below : (xs : List ℕ) (a m : ℕ) → a ≤ m → ((k : ℕ) → k < length xs → get_or xs k 0 ≤ m) → fold max a xs ≤ m
fold_below [] a m l h = l
fold_below (x ∷ xs) a m l h = fold_below xs (max a x) m (omega (arith, h 0 (omega arith))) (λ k b. h (suc k) (omega arith))

greatest_fold : (xs : List ℕ) → unwrap_or (reduce max xs) 0 ≡ fold max 0 xs
greatest_fold [] = refl
greatest_fold (x ∷ xs) = let e : x ≡ max 0 x = omega arith in ap (λ a. fold max a xs) e

-- the run of a strict list
module _ (n : ℕ) (xs : List ℕ) (s : Strict n xs) where
  pub ranks_at : (p : ℕ) → get_or (ranks n xs) p 0 ≡ rank xs p
  ranks_at p = by (cases_lt p n)
    where
      by : (p < n) ⊎ (n ≤ p) → get_or (ranks n xs) p 0 ≡ rank xs p
      by (inl l) = ranks_below n xs p l
      by (inr l) = get_or_past (ranks n xs) p 0 (omega (arith, length_ranks n xs)) ∙ sym (rank_unlisted xs p (unlisted xs p (λ k b e. omega (arith, s.below k b))))

  -- its greatest cell is the length of the list
  pub ranks_greatest : unwrap_or (reduce max (ranks n xs)) 0 ≡ length xs
  ranks_greatest = greatest_fold (ranks n xs) ∙ by (length xs) refl
    where
      low : fold max 0 (ranks n xs) ≤ length xs
      low = fold_below (ranks n xs) 0 (length xs) (omega arith) (λ p l. rw (ranks_at p) (rank_most xs p))

      by : (m : ℕ) → length xs ≡ m → fold max 0 (ranks n xs) ≡ length xs
      by zero e = omega (arith, low)
      by (suc m) e =
          let b = s.below m (omega arith) in
          omega (arith, low, fold_each (ranks n xs) 0 (get_or xs m 0) (omega (arith, length_ranks n xs)), ranks_at (get_or xs m 0), rank_own xs s.distinct m (omega arith))

  -- the practice with the rank k + 1 is the choice k
  pub ranks_choice : (k : ℕ) → option_map (λ p. record { 0 = p }) (position_in (ranks n xs) (k + 1)) ≡ choice_in xs k
  ranks_choice k = by (cases_lt k (length xs))
    where
      by : (k < length xs) ⊎ (length xs ≤ k) → option_map (λ p. record { 0 = p }) (position_in (ranks n xs) (k + 1)) ≡ choice_in xs k
      by (inl l) =
          let p = get_or xs k 0 in
          let b : p < length (ranks n xs) = omega (arith, s.below k l, length_ranks n xs) in
          let e : position (ranks n xs) (k + 1) ≡ p =
          position_is (ranks n xs) (k + 1) p b (ranks_at p ∙ rank_own xs s.distinct k l)
          (λ j m r. omega (arith, (rank_at xs j k (sym (ranks_at j) ∙ r)).1)) in
          rw (e, lt-ltb p (length (ranks n xs)) b, lt-ltb k (length xs) l)
      by (inr l) =
          rw (unlisted (ranks n xs) (k + 1) (λ p b e. omega (arith, ranks_at p, rank_most xs p)), le-ltb k (length xs) l)
