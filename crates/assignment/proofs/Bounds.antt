-- Why there are slots enough: for the moves, and for those who wait.
use Rattle.std.proofs.Common.{◌≡◌, ℕ, ◌+◌, ◌*◌, ◌<◌, ◌≤◌, Bool, true, false, ◌||◌, eqb, List, length, Some, None, sym, refl, ap, ◌∙◌, subst, inl, inr, ⊎_elim, arith}
use Rattle.std.proofs.lemmas.Bool.{cases_Bool, cases_eq, cases_lt, eq-eqb, ne_eqb, both_ways}
use Rattle.voting.specs.Placements.{Seat, Allowed, sits, seated_at}
use Rattle.voting.specs.Totals.{one, many}
use Rattle.voting.specs.Weights.{price_of}
use Rattle.voting.proofs.Certificate.{Within, exchange}
use Rattle.voting.proofs.Ranks.{sits_some}
use Rattle.voting.proofs.Totals.{one_le, total_add, total_le, total_one}
use Rattle.assignment.specs.declared.table.Table.{Table}
use Rattle.assignment.specs.declared.state.State.{State}
use Rattle.assignment.specs.Rows.{list}
use Rattle.assignment.specs.Searches.{Progress, marked, inside, Reached, is_reached, Explored}
use Rattle.assignment.specs.States.{trainees_in, practices_in, row, capacity, seat_of, count, Ready}
use Rattle.assignment.proofs.Counts.{none_some, many_front, total_front}
use Rattle.assignment.proofs.Lists.{allowed_known}

-- each practice that was reached is full, so there are at most as many moves as trainees with a seat
pub moves_few : (T : Table) (S : State) (R : Progress) → Ready T S → Explored T S R → length R.moves ≤ S.newcomer
moves_few T S R r x =
    omega (
      arith,
      x.size,
      total_le (practices_in T) (λ p. one (marked R.reached p)) (λ p. seated_at (trainees_in T) (seat_of S) p * 1) each_one,
      exchange (trainees_in T) (practices_in T) (λ p. 1) (seat_of S) (λ t l. there t l (seat_of S t) refl),
      total_front (trainees_in T) S.newcomer (λ t. price_of (λ p. 1) (seat_of S t)) (λ t. at_most_one (seat_of S t))
          (λ t l. ap (price_of (λ p. 1)) (r.sound.later t l)),
    )
  where
    at_most_one : (s : Seat) → price_of (λ p. 1) s ≤ 1
    at_most_one None = omega arith
    at_most_one (Some p) = omega arith

    there : (t : ℕ) → t < trainees_in T → (s : Seat) → seat_of S t ≡ s → Within (practices_in T) s
    there t l None e = tt
    there t l (Some p) e =
        ⊎_elim
        (λ (k : t < S.newcomer). allowed_known (practices_in T) (row T t) (T.stands t l) p (subst (λ s. Allowed (list (row T t)) s) e (r.sound.allowed t k)))
        (λ (k : S.newcomer ≤ t). absurd (none_some p (seat_of S t) (r.sound.later t k) e))
        (cases_lt t S.newcomer)

    each_one : (p : ℕ) → p < practices_in T → one (marked R.reached p) ≤ seated_at (trainees_in T) (seat_of S) p * 1
    each_one p l =
        ⊎_elim
        (λ (s : marked R.reached p ≡ true).
        let f = x.found p s in
        let full : count S p ≡ capacity T p = subst (λ q. count S q ≡ capacity T q) f.2 (x.full f.0 f.1) in
        omega (arith, ap one s, full, T.roomy p l, r.sound.counted p l))
        (λ (s : marked R.reached p ≡ false). omega (arith, ap one s))
        (cases_Bool (marked R.reached p))

pub reached_passes : (S : State) (V : List Bool) (t : ℕ) → Reached S V t → is_reached S V t ≡ true
reached_passes S V t (inl e) = ap (λ b. b || inside V (seat_of S t)) (eq-eqb t S.newcomer e)
reached_passes S V t (inr (p, e, y)) = go (eqb t S.newcomer)
  where
    go : (b : Bool) → (b || inside V (seat_of S t)) ≡ true
    go true = refl
    go false = ap (inside V) e ∙ y

pub passes_reached : (S : State) (V : List Bool) (t : ℕ) → is_reached S V t ≡ true → Reached S V t
passes_reached S V t h =
    ⊎_elim (λ (e : t ≡ S.newcomer). inl e)
    (λ (ne : t ≡ S.newcomer → ⊥). inr (sat (seat_of S t) refl (sym (ap (λ b. b || inside V (seat_of S t)) (ne_eqb t S.newcomer ne)) ∙ h)))
    (cases_eq t S.newcomer)
  where
    sat : (s : Seat) → seat_of S t ≡ s → inside V s ≡ true → (p : ℕ) × (seat_of S t ≡ Some p) × (marked V p ≡ true)
    sat None e i = absurd (both_ways (inside V None) refl i)
    sat (Some p) e i = (p, e, i)

pub reached_early : (T : Table) (S : State) (V : List Bool) → Ready T S → (t : ℕ) → Reached S V t → t ≤ S.newcomer
reached_early T S V r t (inl e) = omega arith
reached_early T S V r t (inr (p, e, m)) =
    ⊎_elim (λ (l : t < S.newcomer). omega arith) (λ (l : S.newcomer ≤ t). absurd (none_some p (seat_of S t) (r.sound.later t l) e)) (cases_lt t S.newcomer)

-- who sits where the search has not come was not reached, if it is not the newcomer
module _ (T : Table) (S : State) (V : List Bool) (r : Ready T S) (p : ℕ) (new : marked V p ≡ false) where
  unreached : (t : ℕ) → sits (seat_of S t) p ≡ true → is_reached S V t ≡ false
  unreached t k =
      let e = sits_some (seat_of S t) p k in
      let ne : t ≡ S.newcomer → ⊥ = λ i. none_some p (seat_of S t) (r.sound.later t (omega arith)) e in
      ap (λ b. b || inside V (seat_of S t)) (ne_eqb t S.newcomer ne) ∙ ap (inside V) e ∙ new

  -- so there is room for all who sit at p
  pub spots_left : many (trainees_in T) (is_reached S V) + seated_at S.newcomer (seat_of S) p ≤ trainees_in T
  spots_left =
      omega (
        arith,
        many_front S.newcomer (trainees_in T) (λ t. sits (seat_of S t) p) (omega (arith, r.next)),
        total_add (trainees_in T) (λ t. one (is_reached S V t)) (λ t. one (sits (seat_of S t) p)),
        total_le (trainees_in T) (λ t. one (is_reached S V t) + one (sits (seat_of S t) p)) (λ t. 1) (λ t _. each t),
        total_one (trainees_in T),
      )
    where
      each : (t : ℕ) → one (is_reached S V t) + one (sits (seat_of S t) p) ≤ 1
      each t =
          ⊎_elim (λ (k : sits (seat_of S t) p ≡ true). omega (arith, ap one k, ap one (unreached t k)))
          (λ (k : sits (seat_of S t) p ≡ false). omega (arith, ap one k, one_le (is_reached S V t)))
          (cases_Bool (sits (seat_of S t) p))

  module _ (V' : List Bool) (mark : marked V' p ≡ true) (still : (q : ℕ) → marked V q ≡ true → marked V' q ≡ true) where
    passes_still : (t : ℕ) → is_reached S V t ≡ true → is_reached S V' t ≡ true
    passes_still t = go (eqb t S.newcomer) (seat_of S t)
      where
        go : (b : Bool) (s : Seat) → (b || inside V s) ≡ true → (b || inside V' s) ≡ true
        go true s e = refl
        go false None e = e
        go false (Some q) e = still q e

    -- once p is reached they all were
    pub more_reached : many (trainees_in T) (is_reached S V) + seated_at S.newcomer (seat_of S) p ≤ many (trainees_in T) (is_reached S V')
    more_reached =
        omega (
          arith,
          many_front S.newcomer (trainees_in T) (λ t. sits (seat_of S t) p) (omega (arith, r.next)),
          total_add (trainees_in T) (λ t. one (is_reached S V t)) (λ t. one (sits (seat_of S t) p)),
          total_le (trainees_in T) (λ t. one (is_reached S V t) + one (sits (seat_of S t) p)) (λ t. one (is_reached S V' t)) (λ t _. each t),
        )
      where
        each : (t : ℕ) → one (is_reached S V t) + one (sits (seat_of S t) p) ≤ one (is_reached S V' t)
        each t =
            ⊎_elim
            (λ (k : sits (seat_of S t) p ≡ true).
            omega (arith, ap one k, ap one (unreached t k), ap one (reached_passes S V' t (inr (p, sits_some (seat_of S t) p k, mark)))))
            (λ (k : sits (seat_of S t) p ≡ false).
            ⊎_elim (λ (a : is_reached S V t ≡ true). omega (arith, ap one k, ap one a, ap one (passes_still t a)))
            (λ (a : is_reached S V t ≡ false). omega (arith, ap one k, ap one a)) (cases_Bool (is_reached S V t)))
            (cases_Bool (sits (seat_of S t) p))
