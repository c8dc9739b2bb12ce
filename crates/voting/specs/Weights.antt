-- What placements weigh, and prices that show that none weighs more.
use Rattle.std.specs.Prelude.{◌≡◌, ℕ, ◌+◌, ◌<◌, ◌≤◌, Some, None}
use Rattle.rules.specs.Meaning.{Entries, trainees, places_of, list_of}
use Rattle.voting.specs.Totals.{total}
use Rattle.voting.specs.Placements.{Seat, Placement, Allowed, Feasible, seated_at}

-- what each seat weighs for each trainee
abbrev pub Weighing : Type 0
Weighing = ℕ → Seat → ℕ

abbrev pub weight : Entries → Weighing → Placement → ℕ
weight e w M = total (trainees e) (λ t. w t (M t))

-- a number for each practice, and 0 for no seat
abbrev pub price_of : (ℕ → ℕ) → Seat → ℕ
price_of z None = 0
price_of z (Some p) = z p

-- the prices z support M: at these prices no trainee would rather have another seat, and what has a price is full
pub record Supports (e : Entries) (w : Weighing) (z : ℕ → ℕ) (M : Placement) : Type 0 where
  pub best : (t : ℕ) (s : Seat) → t < trainees e → Allowed (list_of e t) s → w t s + price_of z (M t) ≤ w t (M t) + price_of z s
  pub full : (p : ℕ) → 0 < z p → seated_at (trainees e) M p ≡ places_of e p

-- M is feasible, and no feasible placement weighs more
pub record Heaviest (e : Entries) (w : Weighing) (M : Placement) : Type 0 where
  pub feasible : Feasible e M
  pub most : (N : Placement) → Feasible e N → weight e w N ≤ weight e w M

-- prices that support a feasible placement show that none weighs more
abbrev pub PricesCertify : Type 0
PricesCertify = (e : Entries) (w : Weighing) (z : ℕ → ℕ) (M : Placement) → Feasible e M → Supports e w z M → Heaviest e w M
