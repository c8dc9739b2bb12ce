-- What lasts while a search goes on.
use Rattle.std.proofs.Common.{◌≡◌, ℕ, true, Some, None, inl, inr, ⊎_elim, subst, arith}
use Rattle.voting.specs.Placements.{Seat}
use Rattle.assignment.specs.declared.table.Table.{Table}
use Rattle.assignment.specs.declared.state.State.{State}
use Rattle.assignment.specs.Searches.{Progress, inside, Reached, Waits, Grown, Closed}

pub grown_trans : (T : Table) (S : State) (R Q U : Progress) → Grown T S R Q → Grown T S Q U → Grown T S R U
grown_trans T S R Q U g h =
    record {
      still = λ p m. h.still p (g.still p m);
      waits = λ t w. h.waits t (g.waits t w);
      fresh = λ t l a.
          ⊎_elim (λ (b : Reached S Q.reached t). ⊎_elim (λ c. inl c) (λ (c : Waits Q.queue t). inr (h.waits t c)) (g.fresh t l b))
          (λ b. inr b) (h.fresh t l a);
      fair = omega (arith, g.fair, h.fair);
    }

inside_grown : (T : Table) (S : State) (R R' : Progress) → Grown T S R R' → (s : Seat) → inside R.reached s ≡ true → inside R'.reached s ≡ true
inside_grown T S R R' g None e = e
inside_grown T S R R' g (Some p) e = g.still p e

pub closed_grown : (T : Table) (S : State) (R R' : Progress) (t : ℕ) → Grown T S R R' → Closed T S R.reached t → Closed T S R'.reached t
closed_grown T S R R' t g h s b = inside_grown T S R R' g s (h s b)

pub reached_grown : (T : Table) (S : State) (R R' : Progress) (t : ℕ) → Grown T S R R' → Reached S R.reached t → Reached S R'.reached t
reached_grown T S R R' t g (inl e) = inl e
reached_grown T S R R' t g (inr (p, s, y)) = inr (p, s, g.still p y)

-- what holds of one table and state holds of the same
pub along : (P : Table → State → Type 0) {T T' : Table} {S S' : State} → T' ≡ T → S' ≡ S → P T' S' → P T S
along P {T} {T'} {S} {S'} t s h = subst (λ A. P A S) t (subst (λ B. P T' B) s h)

-- a search that has not gone on
pub grown_refl : (T : Table) (S : State) (R : Progress) → Grown T S R R
grown_refl T S R = record { still = λ p m. m; waits = λ t w. w; fresh = λ t l a. inl a; fair = omega arith }
