-- Laws of sums over the numbers below n.
use Rattle.std.proofs.Common.{◌≡◌, ℕ, zero, suc, ◌+◌, ◌*◌, ◌<◌, ◌≤◌, Bool, true, false, eqb, sym, refl, ap, ⊎_elim, suc-mul, add-mul, one-mul, zero-mul, arith}
use Rattle.std.proofs.lemmas.Bool.{cases_eq, eq-eqb, ne_eqb}
use Rattle.voting.specs.Totals.{total, one, many}

pub total_add : (n : ℕ) (f g : ℕ → ℕ) → total n (λ t. f t + g t) ≡ total n f + total n g
total_add zero f g = refl
total_add (suc n) f g = omega (arith, total_add n f g)

pub total_le : (n : ℕ) (f g : ℕ → ℕ) → ((t : ℕ) → t < n → f t ≤ g t) → total n f ≤ total n g
total_le zero f g h = omega arith
total_le (suc n) f g h = omega (arith, total_le n f g (λ t l. h t (omega arith)), h n (omega arith))

pub total_same : (n : ℕ) (f g : ℕ → ℕ) → ((t : ℕ) → t < n → f t ≡ g t) → total n f ≡ total n g
total_same zero f g h = refl
total_same (suc n) f g h = omega (arith, total_same n f g (λ t l. h t (omega arith)), h n (omega arith))

pub total_none : (n : ℕ) (f : ℕ → ℕ) → ((t : ℕ) → t < n → f t ≡ 0) → total n f ≡ 0
total_none zero f h = refl
total_none (suc n) f h = omega (arith, total_none n f (λ t l. h t (omega arith)), h n (omega arith))

pub total_const : (n c : ℕ) → total n (λ t. c) ≡ n * c
total_const zero c = sym (zero-mul c)
total_const (suc n) c = omega (arith, total_const n c, suc-mul n c)

pub total_one : (n : ℕ) → total n (λ t. 1) ≡ n
total_one zero = refl
total_one (suc n) = omega (arith, total_one n)

picked : (p q : ℕ) (z : ℕ → ℕ) → p ≡ q → one (eqb p q) * z q ≡ z p
picked p q z e = rw (eq-eqb p q e, one-mul) (ap z (sym e))

passed : (p q : ℕ) (z : ℕ → ℕ) → (p ≡ q → ⊥) → one (eqb p q) * z q ≡ 0
passed p q z e = rw (ne_eqb p q e, zero-mul)

-- of a sum in which only the p-th number counts, that number
pub total_pick : (m p : ℕ) (z : ℕ → ℕ) → p < m → total m (λ q. one (eqb p q) * z q) ≡ z p
total_pick zero p z h = omega arith
total_pick (suc m) p z h =
    let ih : p < m → total m (λ q. one (eqb p q) * z q) ≡ z p = total_pick m p z in
    ⊎_elim
    (λ (e : p ≡ m). omega (arith, picked p m z e, total_none m (λ q. one (eqb p q) * z q) (λ q l. passed p q z (omega arith))))
    (λ (e : p ≡ m → ⊥). omega (arith, passed p m z e, ih (omega arith)))
    (cases_eq p m)

-- a sum over sums may go the other way round
pub total_swap : (n m : ℕ) (f : ℕ → ℕ → ℕ) → total n (λ t. total m (λ p. f t p)) ≡ total m (λ p. total n (λ t. f t p))
total_swap zero m f = sym (total_none m (λ p. 0) (λ p l. refl))
total_swap (suc n) m f = omega (arith, total_swap n m f, total_add m (λ p. total n (λ t. f t p)) (λ p. f n p))

pub total_mul : (n c : ℕ) (f : ℕ → ℕ) → total n (λ t. f t * c) ≡ total n f * c
total_mul zero c f = sym (zero-mul c)
total_mul (suc n) c f = omega (arith, total_mul n c f, add-mul (total n f) (f n) c)

pub total_at : (n : ℕ) (f : ℕ → ℕ) (t : ℕ) → t < n → f t ≤ total n f
total_at zero f t l = omega arith
total_at (suc n) f t l =
    let ih : t < n → f t ≤ total n f = total_at n f t in
    ⊎_elim (λ (e : t ≡ n). omega (arith, ap f e)) (λ (e : t ≡ n → ⊥). omega (arith, ih (omega arith))) (cases_eq t n)

-- a sum after a change at one place
pub total_change :
    (n r : ℕ) (f g : ℕ → ℕ) → r < n → ((t : ℕ) → t < n → (t ≡ r → ⊥) → g t ≡ f t) → total n g + f r ≡ total n f + g r
total_change zero r f g l h = omega arith
total_change (suc n) r f g l h =
    let ih : r < n → ((t : ℕ) → t < n → (t ≡ r → ⊥) → g t ≡ f t) → total n g + f r ≡ total n f + g r = total_change n r f g in
    ⊎_elim
    (λ (e : r ≡ n). omega (arith, total_same n g f (λ t k. h t (omega arith) (omega arith)), ap f e, ap g e))
    (λ (e : r ≡ n → ⊥). omega (arith, ih (omega arith) (λ t k. h t (omega arith)), h n (omega arith) (omega arith)))
    (cases_eq r n)

pub total_lt :
    (n : ℕ) (f g : ℕ → ℕ) (r : ℕ) → r < n → ((t : ℕ) → t < n → f t ≤ g t) → f r < g r → total n f < total n g
total_lt zero f g r l h k = omega arith
total_lt (suc n) f g r l h k =
    let ih : r < n → ((t : ℕ) → t < n → f t ≤ g t) → f r < g r → total n f < total n g = total_lt n f g r in
    ⊎_elim
    (λ (e : r ≡ n). omega (arith, total_le n f g (λ t i. h t (omega arith)), k, ap f e, ap g e))
    (λ (e : r ≡ n → ⊥). omega (arith, ih (omega arith) (λ t i. h t (omega arith)) k, h n (omega arith)))
    (cases_eq r n)

pub one_le : (b : Bool) → one b ≤ 1
one_le true = omega arith
one_le false = omega arith

-- where some pass, here is one
pub find_one : (n : ℕ) (p : ℕ → Bool) → 0 < many n p → (t : ℕ) × (t < n) × (p t ≡ true)
find_one zero p h = absurd (omega arith)
find_one (suc n) p h = go (p n) refl (find_one n p)
  where
    go : (b : Bool) → p n ≡ b → (0 < many n p → (t : ℕ) × (t < n) × (p t ≡ true)) → (t : ℕ) × (t < suc n) × (p t ≡ true)
    go true k ih = (n, omega arith, k)
    go false k ih = let r = ih (omega (arith, ap one k)) in (r.0, omega (arith, r.1), r.2)
