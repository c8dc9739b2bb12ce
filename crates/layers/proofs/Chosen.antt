-- The choices of a list that are shown, one after another.
use Rattle.std.proofs.Common.{◌≡◌, ℕ, zero, suc, ◌+◌, ◌<◌, ◌≤◌, Bool, true, false, ◌⊎◌, List, ◌∷◌, map, length, get_or, take, drop, cond, Some, None, Option, filter, refl, ap, ◌∙◌, inl, inr, arith}
use Rattle.std.specs.List.{range_with_len, filter_map, slice_get}
use Rattle.std.specs.Option.{option_map}
use Rattle.std.proofs.Math.ListN.{drop_of_length-le}
use Rattle.std.proofs.Math.Seq.{take-nil}
use Rattle.std.proofs.lemmas.List.{at_drop_more}
use Rattle.std.proofs.lemmas.Bool.{lt-ltb, le-ltb, cases_lt}
use Rattle.std.proofs.lemmas.Map.Entries.{option_filter}
use Rattle.std.proofs.lemmas.Option.{slice_get-get_or, slice_get_past, slice_get-map}
use Rattle.rules.specs.declared.words.Practice.{Practice}
use Rattle.rules.specs.Questions.{choice_in, position_in, position, listed}

module _ (list : List ℕ) (k : ℕ) where
  pub choice_at : k < length list → choice_in list k ≡ Some (record { 0 = get_or list k 0 })
  choice_at l = rw (lt-ltb k (length list) l)

  pub choice_past : length list ≤ k → choice_in list k ≡ None
  choice_past l = rw (le-ltb k (length list) l)

abbrev pub practice : ℕ → Practice
practice x = record { 0 = x }

module _ (test : ℕ → Bool) (list : List ℕ) where
  abbrev pub chosen : ℕ → Option Practice
  chosen k = option_filter (λ (p : Practice). test p.0) (choice_in list k)

  -- the next n choices from a on
  abbrev From : ℕ → ℕ → Type 0
  From n a = filter_map chosen (range_with_len a n) ≡ map practice (filter test (take n (drop a list)))

  pub chosen_from : (n a : ℕ) → From n a
  chosen_from zero a = refl
  chosen_from (suc n) a = by (cases_lt a (length list)) (chosen_from n (a + 1))
    where
      here : (b : Bool) → test (get_or list a 0) ≡ b → a < length list → From n (a + 1) → From (suc n) a
      here true q l rest = rw (choice_at list a l, at_drop_more (λ xs. xs) list a 0 l, q) (ap (λ ps. practice (get_or list a 0) ∷ ps) rest)
      here false q l rest = rw (choice_at list a l, at_drop_more (λ xs. xs) list a 0 l, q) rest

      by : (a < length list) ⊎ (length list ≤ a) → From n (a + 1) → From (suc n) a
      by (inl l) rest = here (test (get_or list a 0)) refl l rest
      by (inr l) rest =
          rw (choice_past list a l, drop_of_length-le list l)
          (rest ∙ rw (drop_of_length-le list {i = a + 1} (omega arith)) (ap (λ xs. map practice (filter test xs)) (take-nil n)))

-- the choice at a position, of a list that is shown whole
pub choice_get : (list : List ℕ) (k : ℕ) → slice_get (map practice list) k ≡ choice_in list k
choice_get list k = slice_get-map practice list k ∙ by (cases_lt k (length list))
  where
    by : (k < length list) ⊎ (length list ≤ k) → option_map practice (slice_get list k) ≡ choice_in list k
    by (inl l) = rw (slice_get-get_or list k 0 l, choice_at list k l)
    by (inr l) = rw (slice_get_past list k l, choice_past list k l)

-- what an answer tells of the list
module _ (list : List ℕ) (k : ℕ) where
  pub choice_some : (p : Practice) → Some p ≡ choice_in list k → (k < length list) × (get_or list k 0 ≡ p.0)
  choice_some p h = by (cases_lt k (length list))
    where
      by : (k < length list) ⊎ (length list ≤ k) → (k < length list) × (get_or list k 0 ≡ p.0)
      by (inl l) = let e = choice_at list k l in let q : record { 0 = get_or list k 0 } ≡ p = cc in (l, ap (λ (x : Practice). x.0) q)
      by (inr l) = let e = choice_past list k l in let z : ◌≡◌ {A = ℕ} 0 1 = cc in absurd (omega arith)

  pub choice_none : None ≡ choice_in list k → length list ≤ k
  choice_none h = by (cases_lt k (length list))
    where
      by : (k < length list) ⊎ (length list ≤ k) → length list ≤ k
      by (inl l) = let e = choice_at list k l in let z : ◌≡◌ {A = ℕ} 0 1 = cc in absurd (omega arith)
      by (inr l) = l

some_cond : (b : Bool) (n k : ℕ) → Some k ≡ cond b (Some n) None → (b ≡ true) × (k ≡ n)
some_cond true n k h = (refl, cc)
some_cond false n k h = let z : ◌≡◌ {A = ℕ} 0 1 = cc in absurd (omega arith)

none_cond : (b : Bool) (n : ℕ) → None ≡ cond b (Some n) None → b ≡ false
none_cond true n h = let z : ◌≡◌ {A = ℕ} 0 1 = cc in absurd (omega arith)
none_cond false n h = refl

module _ (list : List ℕ) (p : ℕ) where
  pub position_some : (k : ℕ) → Some k ≡ position_in list p → (listed list p ≡ true) × (k ≡ position list p)
  position_some k h = some_cond (listed list p) (position list p) k h

  pub position_none : None ≡ position_in list p → listed list p ≡ false
  position_none h = none_cond (listed list p) (position list p) h
