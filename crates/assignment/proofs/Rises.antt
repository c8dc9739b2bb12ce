-- After a raise the state is sound again.
use Rattle.std.proofs.Common.{◌≡◌, ℕ, ◌+◌, ◌^◌, ◌<◌, ◌≤◌, true, false, ◌||◌, cond, length, Some, None, sym, refl, ap, ◌∙◌, subst, inl, inr, ⊎_elim, arith}
use Rattle.std.proofs.lemmas.Bool.{cases_Bool, ne_eqb, both_ways}
use Rattle.voting.specs.Placements.{Seat, Allowed}
use Rattle.voting.specs.Weights.{price_of}
use Rattle.voting.proofs.Alike.{seated_at_alike}
use Rattle.assignment.specs.declared.table.Table.{Table}
use Rattle.assignment.specs.declared.state.State.{State}
use Rattle.assignment.specs.Moves.{mover, goal}
use Rattle.assignment.specs.Raises.{Slack, Raisable, Lowerable, Rise}
use Rattle.assignment.specs.Rows.{list, weigh}
use Rattle.assignment.specs.Searches.{Progress, marked, inside, Reached, is_reached, Explored}
use Rattle.assignment.specs.States.{trainees_in, practices_in, row, capacity, value, price, count, seat_of, Ready}
use Rattle.assignment.proofs.Bounds.{passes_reached, reached_early}
use Rattle.assignment.proofs.Lists.{weigh_le}

module _ (T : Table) (S : State) (R : Progress) (x : Explored T S R) where
  pub mover_reached : (j : ℕ) → j < length R.moves → Reached S R.reached (mover R.moves j)
  mover_reached j l =
      ⊎_elim (λ (e : mover R.moves j ≡ S.newcomer). inl e)
      (λ (e : (i : ℕ) × (i < j) × (seat_of S (mover R.moves j) ≡ Some (goal R.moves i))). inr (goal R.moves e.0, e.2, x.marks e.0 (omega (arith, e.1))))
      (x.near j l)

module _ (T : Table) (S : State) (R : Progress) (d : ℕ) (r : Ready T S) (x : Explored T S R) (sl : Slack T S R.reached d) where
  pub raisable : Raisable (price S) R.reached d
  raisable p s =
      let f = x.found p s in
      let j = f.0 in
      let b = x.tight j f.1 in
      let k : mover R.moves j < trainees_in T = omega (arith, x.early j f.1, r.next) in
      subst (λ q. price S q + d ≤ 2 ^ 30) f.2
      (omega (
        arith,
        b.exact,
        weigh_le (practices_in T) (row T (mover R.moves j)) (T.stands (mover R.moves j) k) (Some (goal R.moves j)) b.allowed,
        sl (mover R.moves j) (x.early j f.1) (mover_reached T S R x j f.1) None tt refl,
      ))

  pub lowerable : Lowerable (value S) S.newcomer (seat_of S) R.reached d
  lowerable t i =
      let a = passes_reached S R.reached t i in
      omega (arith, sl t (reached_early T S R.reached r t a) a None tt refl)

  module _ (S' : State) (h : Rise S S' R.reached d) where
    price_of_in : (s : Seat) → inside R.reached s ≡ true → price_of (price S') s ≡ price_of (price S) s + d
    price_of_in None i = absurd (both_ways (inside R.reached None) refl i)
    price_of_in (Some p) i = h.prices p ∙ ap (λ b. price S p + cond b d 0) i

    price_of_out : (s : Seat) → inside R.reached s ≡ false → price_of (price S') s ≡ price_of (price S) s
    price_of_out None i = refl
    price_of_out (Some p) i = omega (arith, h.prices p, ap (λ b. cond b d 0) i)

    price_of_up : (s : Seat) → price_of (price S) s ≤ price_of (price S') s
    price_of_up s = ⊎_elim (λ (i : inside R.reached s ≡ true). omega (arith, price_of_in s i)) (λ (i : inside R.reached s ≡ false). omega (arith, price_of_out s i)) (cases_Bool (inside R.reached s))

    value_in : (t : ℕ) → is_reached S R.reached t ≡ true → value S' t + d ≡ value S t
    value_in t i = omega (arith, h.values t, ap (λ b. cond b d 0) i)

    value_out : (t : ℕ) → is_reached S R.reached t ≡ false → value S' t ≡ value S t
    value_out t i = omega (arith, h.values t, ap (λ b. cond b d 0) i)

    priced : (t : ℕ) (s : Seat) → t < trainees_in T → Allowed (list (row T t)) s → weigh (row T t) s ≤ value S' t + price_of (price S') s
    priced t s k a =
        ⊎_elim
        (λ (i : is_reached S R.reached t ≡ true).
        let re = passes_reached S R.reached t i in
        ⊎_elim (λ (n : inside R.reached s ≡ true). omega (arith, price_of_in s n, value_in t i, r.sound.priced t s k a))
        (λ (n : inside R.reached s ≡ false). omega (arith, price_of_out s n, value_in t i, sl t (reached_early T S R.reached r t re) re s a n))
        (cases_Bool (inside R.reached s)))
        (λ (i : is_reached S R.reached t ≡ false). omega (arith, value_out t i, price_of_up s, r.sound.priced t s k a))
        (cases_Bool (is_reached S R.reached t))

    tight : (t : ℕ) → t < S.newcomer → weigh (row T t) (seat_of S t) ≡ value S' t + price_of (price S') (seat_of S t)
    tight t l =
        let ne : t ≡ S.newcomer → ⊥ = λ e. omega arith in
        let same : is_reached S R.reached t ≡ inside R.reached (seat_of S t) = ap (λ b. b || inside R.reached (seat_of S t)) (ne_eqb t S.newcomer ne) in
        ⊎_elim (λ (i : inside R.reached (seat_of S t) ≡ true). omega (arith, r.sound.tight t l, value_in t (same ∙ i), price_of_in (seat_of S t) i))
        (λ (i : inside R.reached (seat_of S t) ≡ false). omega (arith, r.sound.tight t l, value_out t (same ∙ i), price_of_out (seat_of S t) i))
        (cases_Bool (inside R.reached (seat_of S t)))

    full : (p : ℕ) → 0 < price S' p → (p < practices_in T) × (count S p ≡ capacity T p)
    full p z =
        ⊎_elim
        (λ (i : marked R.reached p ≡ true).
        let f = x.found p i in
        subst (λ q. (q < practices_in T) × (count S q ≡ capacity T q)) f.2 (x.known f.0 f.1, x.full f.0 f.1))
        (λ (i : marked R.reached p ≡ false). r.sound.full p (omega (arith, price_of_out (Some p) i)))
        (cases_Bool (marked R.reached p))

    cheap : (p : ℕ) → price S' p ≤ 2 ^ 30
    cheap p =
        ⊎_elim (λ (i : marked R.reached p ≡ true). omega (arith, raisable p i, price_of_in (Some p) i))
        (λ (i : marked R.reached p ≡ false). omega (arith, r.sound.cheap p, price_of_out (Some p) i))
        (cases_Bool (marked R.reached p))

    pub ready_rise : Ready T S'
    ready_rise =
        record {
          next = omega (arith, h.newcomer, r.next);
          sound = record {
            priced = priced;
            allowed = λ t l. subst (λ s. Allowed (list (row T t)) s) (sym (h.seats t)) (r.sound.allowed t (omega (arith, h.newcomer)));
            tight = λ t l. subst (λ s. weigh (row T t) s ≡ value S' t + price_of (price S') s) (sym (h.seats t)) (tight t (omega (arith, h.newcomer)));
            later = λ t l. h.seats t ∙ r.sound.later t (omega (arith, h.newcomer));
            counted = λ p l. h.counts p ∙ r.sound.counted p l ∙ sym (seated_at_alike (trainees_in T) (seat_of S') (seat_of S) p (λ t _. h.seats t));
            fits = λ p l. omega (arith, h.counts p, r.sound.fits p l);
            full = λ p z. ((full p z).0, h.counts p ∙ (full p z).1);
            cheap = cheap;
            modest = λ t. omega (arith, h.values t, r.sound.modest t);
          };
        }

-- who sits where the search has come was reached
pub inside_reached : (S : State) (R : Progress) (t : ℕ) → inside R.reached (seat_of S t) ≡ true → Reached S R.reached t
inside_reached S R t h = go (seat_of S t) refl h
  where
    go : (s : Seat) → seat_of S t ≡ s → inside R.reached s ≡ true → Reached S R.reached t
    go None e i = absurd (both_ways (inside R.reached None) refl i)
    go (Some p) e i = inr (p, e, i)
