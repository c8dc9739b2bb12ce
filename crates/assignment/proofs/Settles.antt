-- With the newcomer seated the state is sound again.
use Rattle.std.proofs.Common.{◌≡◌, ℕ, ◌+◌, ◌<◌, ◌≤◌, true, false, Some, None, sym, refl, ap, ◌∙◌, subst, inl, inr, ⊎_elim, arith}
use Rattle.std.proofs.lemmas.Bool.{cases_eq, cases_Bool}
use Rattle.voting.specs.Placements.{Seat, sits}
use Rattle.voting.specs.Totals.{one}
use Rattle.voting.specs.Weights.{price_of}
use Rattle.voting.proofs.Ranks.{sits_some}
use Rattle.assignment.specs.declared.table.Table.{Table}
use Rattle.assignment.specs.declared.state.State.{State}
use Rattle.assignment.specs.declared.state.End.{End}
use Rattle.assignment.specs.Moves.{mover, goal}
use Rattle.assignment.specs.Searches.{Progress, marked, Explored, Ended, Free}
use Rattle.assignment.specs.States.{trainees_in, capacity, price, count, seat_of, Tight, Sound, Ready}
use Rattle.assignment.specs.Steps.{Settled, Countable}
use Rattle.assignment.specs.Walks.{end_seat, Chain, Took, Under}
use Rattle.assignment.proofs.Counts.{none_some, many_le}

module _ (T : Table) (S : State) (R : Progress) (e : End) (r : Ready T S) (x : Explored T S R) (g : Ended T S R.reached e) where
  none_at : seat_of S S.newcomer ≡ None
  none_at = r.sound.later S.newcomer (omega arith)

  pub chained : Chain (seat_of S) R.moves e
  chained =
      record {
        known = λ j l. omega (arith, x.early j l, r.next, T.few);
        apart = x.apart;
        left = x.left;
        near = λ j l. ⊎_elim (λ (q : mover R.moves j ≡ S.newcomer). inl (ap (seat_of S) q ∙ none_at)) (λ q. inr q) (x.near j l);
        end_known = omega (arith, g.early, r.next, T.few);
        end_near = ⊎_elim (λ (q : e.trainee ≡ S.newcomer). inl (ap (seat_of S) q ∙ none_at))
            (λ (q : (p : ℕ) × (seat_of S e.trainee ≡ Some p) × (marked R.reached p ≡ true)).
            let f = x.found q.0 q.2 in inr (f.0, f.1, q.1 ∙ ap Some (sym f.2))) g.reached;
      }

  pub roomy : Countable S (end_seat e)
  roomy = go (end_seat e) g.ends.free
    where
      go : (s : Seat) → Free T S s → Countable S s
      go None f = tt
      go (Some p) f = (
        omega (arith, f.0, T.small),
        omega (arith, r.sound.counted p f.0, many_le (trainees_in T) (λ t. sits (seat_of S t) p), T.few),
      )

  took_best : (t : ℕ) (s : Seat) → Took R.moves e t s → Tight T S t s
  took_best t s (inl (j, l, q, k)) = subst (λ a. Tight T S a s) q (subst (λ a. Tight T S (mover R.moves j) a) (sym k) (x.tight j l))
  took_best t s (inr (q, k)) = subst (λ a. Tight T S a s) (sym q) (subst (λ a. Tight T S e.trainee a) (sym k) g.ends.tight)

  took_early : (t : ℕ) (s : Seat) → Took R.moves e t s → t ≤ S.newcomer
  took_early t s (inl (j, l, q, k)) = omega (arith, q, x.early j l)
  took_early t s (inr (q, k)) = omega (arith, q, g.early)

  -- who had no seat and was moved is the newcomer
  took_none : (t : ℕ) (s : Seat) → Took R.moves e t s → seat_of S t ≡ None → t ≡ S.newcomer
  took_none t s (inl (j, l, q, k)) n =
      ⊎_elim (λ (a : mover R.moves j ≡ S.newcomer). sym q ∙ a)
      (λ (a : (i : ℕ) × (i < j) × (seat_of S (mover R.moves j) ≡ Some (goal R.moves i))). absurd (none_some (goal R.moves a.0) (seat_of S t) n (ap (seat_of S) (sym q) ∙ a.2)))
      (x.near j l)
  took_none t s (inr (q, k)) n =
      ⊎_elim (λ (a : e.trainee ≡ S.newcomer). q ∙ a)
      (λ (a : (p : ℕ) × (seat_of S e.trainee ≡ Some p) × (marked R.reached p ≡ true)). absurd (none_some a.0 (seat_of S t) n (ap (seat_of S) q ∙ a.1)))
      g.reached

  free_at : (p : ℕ) → sits (end_seat e) p ≡ true → count S p < capacity T p
  free_at p k = let f = subst (λ s. Free T S s) (sits_some (end_seat e) p k) g.ends.free in f.1

  module _ (S' : State) (h : Settled S S' R.moves e) where
    price_of_is : (s : Seat) → price_of (price S') s ≡ price_of (price S) s
    price_of_is None = refl
    price_of_is (Some p) = h.prices p

    best : (t : ℕ) → t ≤ S.newcomer → Tight T S t (seat_of S' t)
    best t l =
        ⊎_elim
        (λ (q : t ≡ S.newcomer).
        let s = h.seats.starter in
        let same : s.0 ≡ t = took_none s.0 (seat_of S' s.0) s.2 s.1 ∙ sym q in
        subst (λ u. Tight T S u (seat_of S' u)) same (took_best s.0 (seat_of S' s.0) s.2))
        (λ (q : t ≡ S.newcomer → ⊥).
        ⊎_elim
        (λ (a : seat_of S' t ≡ seat_of S t).
        let l' : t < S.newcomer = omega arith in
        subst (λ s. Tight T S t s) (sym a) (record { allowed = r.sound.allowed t l'; exact = r.sound.tight t l' }))
        (took_best t (seat_of S' t)) (h.seats.moved t))
        (cases_eq t S.newcomer)

    counts_at : (p : ℕ) → sits (end_seat e) p ≡ true → count S' p ≡ count S p + 1
    counts_at p k = h.counts p ∙ ap (λ b. count S p + one b) k

    counts_off : (p : ℕ) → sits (end_seat e) p ≡ false → count S' p ≡ count S p
    counts_off p k = omega (arith, h.counts p, ap one k)

    under : Under (trainees_in T) R.moves e
    under = (omega (arith, g.early, r.next), λ j l. omega (arith, x.early j l, r.next))

    pub sound_settled : Sound T S'
    sound_settled =
        record {
          priced = λ t s k a. omega (arith, h.values t, price_of_is s, r.sound.priced t s k a);
          allowed = λ t l. (best t (omega (arith, h.newcomer))).allowed;
          tight = λ t l. omega (arith, (best t (omega (arith, h.newcomer))).exact, h.values t, price_of_is (seat_of S' t));
          later = λ t l. ⊎_elim (λ (a : seat_of S' t ≡ seat_of S t). a ∙ r.sound.later t (omega (arith, h.newcomer)))
              (λ (a : Took R.moves e t (seat_of S' t)). absurd (omega (arith, h.newcomer, took_early t (seat_of S' t) a))) (h.seats.moved t);
          counted = λ p l. omega (arith, h.counts p, r.sound.counted p l, h.seats.counted (trainees_in T) p under);
          fits = λ p l. ⊎_elim (λ (k : sits (end_seat e) p ≡ true). omega (arith, counts_at p k, free_at p k))
              (λ (k : sits (end_seat e) p ≡ false). omega (arith, counts_off p k, r.sound.fits p l)) (cases_Bool (sits (end_seat e) p));
          full = λ p z.
              let f = r.sound.full p (omega (arith, h.prices p)) in (
                f.0,
                ⊎_elim (λ (k : sits (end_seat e) p ≡ true). absurd (omega (arith, f.1, free_at p k)))
                    (λ (k : sits (end_seat e) p ≡ false). counts_off p k ∙ f.1) (cases_Bool (sits (end_seat e) p)),
              );
          cheap = λ p. omega (arith, h.prices p, r.sound.cheap p);
          modest = λ t. omega (arith, h.values t, r.sound.modest t);
        }
