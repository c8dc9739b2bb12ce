-- Seats, and how many pass a test.
use Rattle.std.proofs.Common.{◌≡◌, ℕ, zero, suc, ◌+◌, ◌<◌, ◌≤◌, Bool, true, ◌==◌, Some, None, Option, refl, ap, ◌∙◌, ⊎_elim, add-one, arith}
use Rattle.std.proofs.lemmas.Bool.{cases_lt, eq-eqb}
use Rattle.std.specs.Option.{option_eq}
use Rattle.rules.specs.declared.words.Practice.{Practice}
use Rattle.voting.specs.Placements.{Seat, stored, sits}
use Rattle.voting.specs.Totals.{total, one, many}
use Rattle.voting.proofs.Totals.{one_le, total_le, total_one}

pub none_some : (p : ℕ) (s : Seat) → s ≡ None → s ≡ Some p → ⊥
none_some p s a b = let z : ◌≡◌ {A = ℕ} 0 1 = cc in omega arith

pub some_sits : (s : Seat) (p : ℕ) → s ≡ Some p → sits s p ≡ true
some_sits s p e = ap (λ x. sits x p) e ∙ eq-eqb p p refl

-- what `==` answers of a seat and a practice
pub seat_eq : (s : Option Practice) (p : Practice) → option_eq (λ (a b : Practice). a.0 == b.0) s (Some p) ≡ sits (stored s) p.0
seat_eq None p = refl
seat_eq (Some q) p = refl

pub many_le : (n : ℕ) (f : ℕ → Bool) → many n f ≤ n
many_le zero f = omega arith
many_le (suc n) f = omega (arith, many_le n f, one_le (f n))

pub many_more : (n : ℕ) (f : ℕ → Bool) → many (n + 1) f ≡ many n f + one (f n)
many_more n f = rw add-one

-- of the first few there are no more
pub many_front : (k n : ℕ) (f : ℕ → Bool) → k ≤ n → many k f ≤ many n f
many_front k zero f l = let z : k ≡ 0 = omega arith in omega (arith, ap (λ i. many i f) z)
many_front k (suc n) f l =
    let ih : k ≤ n → many k f ≤ many n f = many_front k n f in
    ⊎_elim (λ (h : k < suc n). omega (arith, ih (omega arith)))
    (λ (h : suc n ≤ k). let e : k ≡ suc n = omega arith in omega (arith, ap (λ i. many i f) e))
    (cases_lt k (suc n))

-- of numbers that are at most 1, and 0 from k on, the sum is at most k
pub total_front : (n k : ℕ) (f : ℕ → ℕ) → ((t : ℕ) → f t ≤ 1) → ((t : ℕ) → k ≤ t → f t ≡ 0) → total n f ≤ k
total_front zero k f h z = omega arith
total_front (suc n) k f h z =
    let ih : total n f ≤ k = total_front n k f h z in
    ⊎_elim (λ (l : n < k). omega (arith, h n, total_le n f (λ t. 1) (λ t _. h t), total_one n)) (λ (l : k ≤ n). omega (arith, z n l)) (cases_lt n k)
