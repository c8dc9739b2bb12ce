-- The number of seats taken is how many a placement seats.
use Rattle.std.proofs.Common.{◌≡◌, ℕ, zero, suc, ◌+◌, ◌≤◌, cond, List, [], ◌∷◌, is_some, Some, None, count_by, Option, sym, refl, ap, arith}
use Rattle.std.proofs.lemmas.List.Sums.{sum_by-cons}
use Rattle.rules.specs.declared.words.Practice.{Practice}
use Rattle.voting.specs.Totals.{one, total}
use Rattle.voting.specs.Placements.{placed, stored, seating, seated}

total_front : (n : ℕ) (f : ℕ → ℕ) → total (suc n) f ≡ f 0 + total n (λ t. f (suc t))
total_front zero f = omega arith
total_front (suc n) f = let r = total_front n f in omega arith

none_taken : (n : ℕ) → seated n (seating []) ≡ 0
none_taken zero = refl
none_taken (suc n) = let r = none_taken n in omega arith

counts : (s : Option Practice) → cond {A = ℕ} (is_some s) 1 0 ≡ one (placed (stored s))
counts None = refl
counts (Some p) = refl

empty : (s : Option Practice) → stored s ≡ None → one (placed (stored s)) ≡ 0
empty s h = ap (λ o. one (placed o)) h

pub taken : (n : ℕ) (seats : List (Option Practice)) → ((t : ℕ) → n ≤ t → seating seats t ≡ None) → count_by is_some seats ≡ seated n (seating seats)
taken n [] h = sym (none_taken n)
taken zero (s ∷ rest) h =
    let r = taken zero rest (λ t l. h (suc t) (omega arith)) in
    omega (arith, sum_by-cons (λ (o : Option Practice). cond (is_some o) 1 0) s rest, counts s, empty s (h 0 (omega arith)))
taken (suc n) (s ∷ rest) h =
    let r = taken n rest (λ t l. h (suc t) (omega arith)) in
    omega (arith, sum_by-cons (λ (o : Option Practice). cond (is_some o) 1 0) s rest, counts s, total_front n (λ t. one (placed (seating (s ∷ rest) t))))
