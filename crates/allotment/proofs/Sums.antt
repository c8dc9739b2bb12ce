-- Sums and tests over the seats, as totals over the trainees.
use Rattle.std.proofs.Common.{◌≡◌, ℕ, zero, suc, ◌+◌, ◌<◌, ◌≤◌, Bool, true, false, ◌==◌, ◌||◌, nat_lt, List, [], ◌∷◌, map, length, get_or, take, is_some, Some, None, Option, sym, refl, ap, ◌∙◌, ap₂, add-one, zero-add, arith}
use Rattle.std.specs.List.{list_all, sum, sum_by, count_by, range_with_len, zip}
use Rattle.std.proofs.lemmas.List.{take_all, length-take-le}
use Rattle.std.proofs.lemmas.Bool.{both_ways, eqb-true, eqb-false, ltb-true, ltb-false}
use Rattle.std.proofs.lemmas.List.Folds.{list_all_at}
use Rattle.std.proofs.lemmas.List.Sums.{sum_by_more, sum-map}
use Rattle.std.proofs.lemmas.List.FromFn.{length-range_with_len, get_or-range_with_len}
use Rattle.std.proofs.lemmas.Slice.Zip.{length-zip, get_or-zip}
use Rattle.arrayvec.specs.ArrayVec.{ArrayVec}
use Rattle.rules.specs.declared.words.Practice.{Practice}
use Rattle.rules.specs.Meaning.{trainees, list_of}
use Rattle.rules.proofs.Numbers.{length_numbers}
use Rattle.voting.specs.Totals.{total, one}
use Rattle.voting.specs.Placements.{Seat, stored, seating, placed, seated}
use Rattle.voting.specs.Local.{first_choice}
use Rattle.voting.specs.Weights.{weight}
use Rattle.voting.proofs.Totals.{total_same}
use Rattle.allotment.specs.declared.lists.Lists.{Lists}
use Rattle.allotment.specs.Copies.{entries}
use Rattle.allotment.specs.Tabled.{by_lists, Beside, beside, weight_at, content_at, WhetherAllWeigh}
use Rattle.allotment.proofs.Copying.{no_list, list_in, trainees_in, lawful_in}
use Rattle.allotment.proofs.Writing.{front}

-- one number more
pub total_more : (n : ℕ) (f : ℕ → ℕ) (x y : ℕ) → x ≡ total n f → y ≡ f n → x + y ≡ total (n + 1) f
total_more n f x y e k = rw add-one (ap₂ (λ a b. a + b) e k)

-- a sum over a list, as a total over its positions
sum_front : {X : Type 0} (f : X → ℕ) (xs : List X) (d : X) (n : ℕ) → n ≤ length xs → sum_by f (take n xs) ≡ total n (λ t. f (get_or xs t d))
sum_front f xs d zero l = refl
sum_front f xs d (suc n) l =
    ap (λ k. sum_by f (take k xs)) (sym (add-one n)) ∙ sum_by_more f xs n d (omega arith) ∙ ap (λ k. k + f (get_or xs n d)) (sum_front f xs d n (omega arith))

pub sum_total : {X : Type 0} (f : X → ℕ) (xs : List X) (d : X) → sum_by f xs ≡ total (length xs) (λ t. f (get_or xs t d))
sum_total f xs d = ap (sum_by f) (sym (take_all (length xs) xs (omega arith))) ∙ sum_front f xs d (length xs) (omega arith)

pub placed_some : (o : Option Practice) → placed (stored o) ≡ is_some o
placed_some None = refl
placed_some (Some p) = refl

pub seated_counted : (seats : List (Option Practice)) → count_by is_some seats ≡ seated (length seats) (seating seats)
seated_counted seats =
    sum_total (λ o. one (is_some o)) seats None ∙
    total_same (length seats) (λ t. one (is_some (get_or seats t None))) (λ t. one (placed (seating seats t))) (λ t l. ap one (sym (placed_some (get_or seats t None))))

pub seated_front : (n : ℕ) (seats : List (Option Practice)) → n ≤ length seats → count_by is_some (take n seats) ≡ seated n (seating seats)
seated_front n seats l =
    seated_counted (take n seats) ∙ ap (λ k. seated k (seating (take n seats))) (length-take-le n seats l) ∙
    total_same n (λ t. one (placed (seating (take n seats) t))) (λ t. one (placed (seating seats t))) (λ t k. ap (λ s. one (placed s)) (front n seats l t k))

-- a test of each item of a list
some_fails : {X : Type 0} (p : X → Bool) (xs : List X) (d : X) → list_all p xs ≡ false → (t : ℕ) × (t < length xs) × (p (get_or xs t d) ≡ false)
some_fails p [] d h = absurd cc
some_fails p (x ∷ xs) d h = go (p x) refl (some_fails p xs d)
  where
    go :
        (b : Bool) → p x ≡ b → (list_all p xs ≡ false → (t : ℕ) × (t < length xs) × (p (get_or xs t d) ≡ false)) →
        (t : ℕ) × (t < length (x ∷ xs)) × (p (get_or (x ∷ xs) t d) ≡ false)
    go false e rest = (0, omega arith, e)
    go true e rest = let r = rest (rw e at h) in (suc r.0, omega (arith, r.1), r.2)

each_passes : {X : Type 0} (p : X → Bool) (xs : List X) (d : X) → list_all p xs ≡ true → (t : ℕ) → t < length xs → p (get_or xs t d) ≡ true
each_passes p xs d h t l = go (p (get_or xs t d)) refl
  where
    go : (b : Bool) → p (get_or xs t d) ≡ b → p (get_or xs t d) ≡ true
    go true e = e
    go false e = absurd (both_ways (list_all p xs) (list_all_at p xs t d l e) h)

some_weigh : (n m : ℕ) → ((n == 0) || nat_lt 0 m) ≡ true → 0 < n → 0 < m
some_weigh n m h l = go (n == 0) refl
  where
    go : (b : Bool) → (n == 0) ≡ b → 0 < m
    go true e = absurd (omega (arith, eqb-true n 0 e))
    go false e = ltb-true 0 m (rw e at h)

none_weigh : (n m : ℕ) → ((n == 0) || nat_lt 0 m) ≡ false → (0 < n) × (m ≡ 0)
none_weigh n m h = go (n == 0) refl
  where
    go : (b : Bool) → (n == 0) ≡ b → (0 < n) × (m ≡ 0)
    go true e = let z : true ≡ false = rw e at h in absurd cc
    go false e = let k : n ≡ 0 → ⊥ = eqb-false n 0 e in let l : m ≤ 0 = ltb-false 0 m (rw e at h) in (omega arith, omega arith)

abbrev nobody : Beside
nobody = ((no_list, None), 0)

-- lists and seats beside one another
module _ (L : Lists) (seats : List (Option Practice)) (enough : length L.lists.items ≤ length seats) where
  few : trainees (entries L) ≤ 400
  few = (lawful_in L).few_trainees

  paired : length (zip L.lists.items seats) ≡ trainees (entries L)
  paired = let e = length-zip L.lists.items seats in omega (arith, trainees_in L, enough)

  besides : length (beside L.lists.items seats) ≡ trainees (entries L)
  besides = let e = length-zip (zip L.lists.items seats) (range_with_len 0 400) in omega (arith, length-range_with_len 0 400, paired, few)

  at_beside : (t : ℕ) → t < trainees (entries L) → get_or (beside L.lists.items seats) t nobody ≡ ((get_or L.lists.items t no_list, get_or seats t None), t)
  at_beside t l =
      get_or-zip (zip L.lists.items seats) (range_with_len 0 400) t nobody (omega (arith, paired)) (omega (arith, length-range_with_len 0 400, few)) ∙
      ap₂ (λ (a : ArrayVec Practice × Option Practice) (b : ℕ). (a, b))
      (get_or-zip L.lists.items seats t (no_list, None) (omega (arith, trainees_in L)) (omega (arith, trainees_in L, enough)))
      (get_or-range_with_len 0 400 t 0 (omega (arith, few)) ∙ zero-add t)

  module _ (w : ℕ → List ℕ → Seat → ℕ) where
    own : (t : ℕ) → t < trainees (entries L) → weight_at w (get_or (beside L.lists.items seats) t nobody) ≡ by_lists (entries L) w t (seating seats t)
    own t l = ap (weight_at w) (at_beside t l) ∙ ap (λ list. w t list (seating seats t)) (sym (list_in L t (omega (arith, trainees_in L))))

    pub weight_summed : sum (map (weight_at w) (beside L.lists.items seats)) ≡ weight (entries L) (by_lists (entries L) w) (seating seats)
    weight_summed =
        sum-map (weight_at w) (beside L.lists.items seats) ∙ sum_total (weight_at w) (beside L.lists.items seats) nobody ∙
        ap (λ n. total n (λ t. weight_at w (get_or (beside L.lists.items seats) t nobody))) besides ∙
        total_same (trainees (entries L)) (λ t. weight_at w (get_or (beside L.lists.items seats) t nobody)) (λ t. by_lists (entries L) w t (seating seats t)) own

    content :
        (t : ℕ) → t < trainees (entries L) →
        content_at w (get_or (beside L.lists.items seats) t nobody) ≡ ((length (list_of (entries L) t) == 0) || nat_lt 0 (by_lists (entries L) w t (seating seats t)))
    content t l =
        ap₂ (λ n m. (n == 0) || nat_lt 0 m)
        (ap (λ (x : Beside). length x.0.0.items) (at_beside t l) ∙ sym (ap length (list_in L t (omega (arith, trainees_in L))) ∙ length_numbers (get_or L.lists.items t no_list).items))
        (own t l)

    pub all_weigh : list_all (content_at w) (beside L.lists.items seats) ≡ true → WhetherAllWeigh (entries L) (by_lists (entries L) w) (seating seats) true
    all_weigh h t l some =
        some_weigh _ _ (sym (content t l) ∙ each_passes (content_at w) (beside L.lists.items seats) nobody h t (omega (arith, besides))) some

    pub one_weighs_nothing : list_all (content_at w) (beside L.lists.items seats) ≡ false → WhetherAllWeigh (entries L) (by_lists (entries L) w) (seating seats) false
    one_weighs_nothing h =
        let r = some_fails (content_at w) (beside L.lists.items seats) nobody h in
        let l : r.0 < trainees (entries L) = omega (arith, r.1, besides) in
        let n = none_weigh _ _ (sym (content r.0 l) ∙ r.2) in
        (r.0, l, n.0, n.1)

-- a first choice there is exactly where there is a list
pub some_first : (list : List ℕ) (o : Option Practice) → stored o ≡ first_choice list → is_some o ≡ true → 0 < length list
some_first [] None e k = let z : ◌≡◌ {A = ℕ} 0 1 = cc in absurd (omega arith)
some_first [] (Some p) e k = let z : ◌≡◌ {A = ℕ} 0 1 = cc in absurd (omega arith)
some_first (x ∷ xs) o e k = omega arith

pub no_first : (list : List ℕ) (o : Option Practice) → stored o ≡ first_choice list → is_some o ≡ false → 0 < length list → ⊥
no_first [] o e k l = omega arith
no_first (x ∷ xs) None e k l = let z : ◌≡◌ {A = ℕ} 0 1 = cc in omega arith
no_first (x ∷ xs) (Some p) e k l = let z : ◌≡◌ {A = ℕ} 0 1 = cc in omega arith
