-- Prices bound the weight of each feasible placement.
use Rattle.std.proofs.Common.{◌≡◌, ℕ, ◌+◌, ◌*◌, ◌<◌, ◌≤◌, ◌⊎◌, Some, None, sym, refl, ap, ◌∙◌, inl, inr, ⊎_elim, mul-le-mul_right, mul-zero, zero-mul, arith}
use Rattle.std.proofs.lemmas.List.{get_or_past}
use Rattle.std.proofs.lemmas.Bool.{cases_lt, eq-eqb}
use Rattle.rules.specs.Meaning.{Entries, trainees, practices, places_of, list_of}
use Rattle.voting.specs.Totals.{total, one}
use Rattle.voting.specs.Placements.{Seat, Placement, Allowed, sits, seated_at, Feasible}
use Rattle.voting.specs.Weights.{Weighing, weight, price_of, Supports, Heaviest, PricesCertify}
use Rattle.voting.proofs.Totals.{total_add, total_le, total_same, total_none, total_pick, total_swap, total_mul, total_at}

-- no seat, or one at a practice below m
abbrev pub Within : ℕ → Seat → Type 0
Within m None = Unit {0}
Within m (Some p) = p < m

-- the price of a seat, as a sum over the practices
price_total : (m : ℕ) (z : ℕ → ℕ) (s : Seat) → Within m s → price_of z s ≡ total m (λ p. one (sits s p) * z p)
price_total m z None h = sym (total_none m (λ p. 0 * z p) (λ p l. zero-mul (z p)))
price_total m z (Some p) h = sym (total_pick m p z h)

-- the price of all seats, counted by trainees and counted by practices
pub exchange :
    (n m : ℕ) (z : ℕ → ℕ) (N : Placement) → ((t : ℕ) → t < n → Within m (N t)) →
    total n (λ t. price_of z (N t)) ≡ total m (λ p. seated_at n N p * z p)
exchange n m z N h =
    total_same n (λ t. price_of z (N t)) (λ t. total m (λ p. one (sits (N t) p) * z p)) (λ t l. price_total m z (N t) (h t l)) ∙
    total_swap n m (λ t p. one (sits (N t) p) * z p) ∙
    total_same m (λ p. total n (λ t. one (sits (N t) p) * z p)) (λ p. seated_at n N p * z p) (λ p l. total_mul n (z p) (λ t. one (sits (N t) p)))

-- who is seated at p is counted there
pub seated_some : (n : ℕ) (N : Placement) (t p : ℕ) → t < n → N t ≡ Some p → 0 < seated_at n N p
seated_some n N t p l e =
    let k : one (sits (N t) p) ≡ 1 = rw (e, eq-eqb p p refl) in
    omega (arith, k, total_at n (λ t. one (sits (N t) p)) t l)

-- a practice that is not there seats nobody
pub within : (e : Entries) (N : Placement) → Feasible e N → (t : ℕ) → t < trainees e → Within (practices e) (N t)
within e N f t l = go (N t) refl
  where
    go : (s : Seat) → N t ≡ s → Within (practices e) s
    go None q = tt
    go (Some p) q =
        ⊎_elim (λ (h : p < practices e). h)
        (λ (h : practices e ≤ p). absurd (omega (arith, seated_some (trainees e) N t p l q, f.fits p, get_or_past e.places p 0 h)))
        (cases_lt p (practices e))

-- what is paid in all for the places
abbrev pub due : Entries → (ℕ → ℕ) → ℕ
due e z = total (practices e) (λ p. places_of e p * z p)

exchanged :
    (e : Entries) (z : ℕ → ℕ) (N : Placement) → Feasible e N →
    total (trainees e) (λ t. price_of z (N t)) ≡ total (practices e) (λ p. seated_at (trainees e) N p * z p)
exchanged e z N f = exchange (trainees e) (practices e) z N (within e N f)

-- no feasible placement pays more than all places cost
pub pays_at_most : (e : Entries) (z : ℕ → ℕ) (N : Placement) → Feasible e N → total (trainees e) (λ t. price_of z (N t)) ≤ due e z
pays_at_most e z N f =
    omega (
      arith,
      exchanged e z N f,
      total_le (practices e) (λ p. seated_at (trainees e) N p * z p) (λ p. places_of e p * z p) (λ p l. mul-le-mul_right (z p) (f.fits p)),
    )

-- one that fills what has a price pays just that
pub pays_all :
    (e : Entries) (z : ℕ → ℕ) (M : Placement) → Feasible e M →
    ((p : ℕ) → 0 < z p → seated_at (trainees e) M p ≡ places_of e p) → total (trainees e) (λ t. price_of z (M t)) ≡ due e z
pays_all e z M f full =
    exchanged e z M f ∙
    total_same (practices e) (λ p. seated_at (trainees e) M p * z p) (λ p. places_of e p * z p) (λ p l. same p (cases_lt 0 (z p)))
  where
    same : (p : ℕ) → (0 < z p) ⊎ (z p ≤ 0) → seated_at (trainees e) M p * z p ≡ places_of e p * z p
    same p (inl h) = ap (λ k. k * z p) (full p h)
    same p (inr h) = let k : z p ≡ 0 = omega arith in simp (k, mul-zero)

pub prices_certify : PricesCertify
prices_certify e w z M f s = record { feasible = f; most = most }
  where
    most : (N : Placement) → Feasible e N → weight e w N ≤ weight e w M
    most N h =
        omega (
          arith,
          total_le (trainees e) (λ t. w t (N t) + price_of z (M t)) (λ t. w t (M t) + price_of z (N t)) (λ t l. s.best t (N t) l (h.allowed t l)),
          total_add (trainees e) (λ t. w t (N t)) (λ t. price_of z (M t)),
          total_add (trainees e) (λ t. w t (M t)) (λ t. price_of z (N t)),
          pays_at_most e z N h,
          pays_all e z M f s.full,
        )

-- a share y for each trainee beside the prices z: no allowed seat weighs more than the share and its price
pub record Priced (e : Entries) (w : Weighing) (y z : ℕ → ℕ) : Type 0 where
  pub pays : (t : ℕ) (s : Seat) → t < trainees e → Allowed (list_of e t) s → w t s ≤ y t + price_of z s

-- each seat of M weighs just that, and what has a price is full
pub record Tight (e : Entries) (w : Weighing) (y z : ℕ → ℕ) (M : Placement) : Type 0 where
  pub exact : (t : ℕ) → t < trainees e → w t (M t) ≡ y t + price_of z (M t)
  pub full : (p : ℕ) → 0 < z p → seated_at (trainees e) M p ≡ places_of e p

pub supported : (e : Entries) (w : Weighing) (y z : ℕ → ℕ) (M : Placement) → Priced e w y z → Tight e w y z M → Supports e w z M
supported e w y z M d g = record { best = λ t s l a. omega (arith, d.pays t s l a, g.exact t l); full = g.full }

pub heaviest_by_prices :
    (e : Entries) (w : Weighing) (y z : ℕ → ℕ) (M : Placement) → Priced e w y z → Feasible e M → Tight e w y z M → Heaviest e w M
heaviest_by_prices e w y z M d f g = prices_certify e w z M f (supported e w y z M d g)
