-- How long all lists of a roll are, each behind its length.
use Rattle.std.proofs.Common.{◌≡◌, ℕ, suc, ◌+◌, ◌*◌, ◌≤◌, List, [], ◌∷◌, length, get_or, map, sum, refl, ap, ◌∙◌, arith}
use Rattle.std.specs.List.{flat_map, range_with_len}
use Rattle.std.proofs.lemmas.List.{length-append}
use Rattle.std.proofs.lemmas.List.Sums.{sum_by-cons}
use Rattle.sheet.specs.Format.{measured}

sum-cons : (n : ℕ) (ns : List ℕ) → sum (n ∷ ns) ≡ n + sum ns
sum-cons n ns = sum_by-cons (λ x. x) n ns

-- each from t on, by its number
summed : (lists : List (List ℕ)) (f : ℕ → ℕ) (t : ℕ) → ((k : ℕ) → f (t + k) ≡ 1 + length (get_or lists k [])) → sum (map f (range_with_len t (length lists))) ≡ length (flat_map measured lists)
summed [] f t h = refl
summed (list ∷ lists) f t h =
    let first : f t ≡ 1 + length list = ap f (omega arith) ∙ h 0 in
    let later = summed lists f (t + 1) (λ k. ap f (omega arith) ∙ h (suc k)) in
    sum-cons (f t) (map f (range_with_len (t + 1) (length lists))) ∙ omega (arith, length-append (measured list) (flat_map measured lists))

pub all_lengths : (lists : List (List ℕ)) (n : ℕ) → n ≡ length lists → sum (map (λ t. 1 + length (get_or lists t [])) (range_with_len 0 n)) ≡ length (flat_map measured lists)
all_lengths lists n e = ap (λ (m : ℕ). sum (map (λ t. 1 + length (get_or lists t [])) (range_with_len 0 m))) e ∙ summed lists (λ t. 1 + length (get_or lists t [])) 0 (λ k. ap (λ (j : ℕ). 1 + length (get_or lists j [])) (omega arith))

pub lengths_most : (lists : List (List ℕ)) → ((t : ℕ) → length (get_or lists t []) ≤ 12) → length (flat_map measured lists) ≤ 13 * length lists
lengths_most [] h = omega arith
lengths_most (list ∷ lists) h =
    let first : length list ≤ 12 = h 0 in
    let later = lengths_most lists (λ t. h (suc t)) in
    omega (arith, length-append (measured list) (flat_map measured lists))
