-- Sums over the numbers below n, of a function of the number.
use Rattle.std.specs.Prelude.{ℕ, zero, suc, ◌+◌, Bool, cond}

abbrev pub total : ℕ → (ℕ → ℕ) → ℕ
total zero f = 0
total (suc n) f = total n f + f n

-- 1 where the test passes, else 0
abbrev pub one : Bool → ℕ
one b = cond b 1 0

-- how many numbers below n pass the test
abbrev pub many : ℕ → (ℕ → Bool) → ℕ
many n f = total n (λ t. one (f t))
