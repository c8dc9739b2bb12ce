-- An unbeaten placement is well-formed.
use Rattle.std.proofs.Common.{◌≡◌, ℕ, ◌+◌, ◌<◌, ◌≤◌, Bool, true, false, not, ◌&&◌, eqb, ◌⊎◌, List, length, Some, None, sym, refl, ap, ◌∙◌, subst, inl, inr, ⊎_elim, arith}
use Rattle.std.proofs.lemmas.Bool.{cases_lt, cases_eq, cases_order, cases_Bool, eq-eqb, ne_eqb, ltb-true, ltb-false, both_ways, and_parts, and_from, not_from_false, not-true}
use Rattle.rules.specs.Meaning.{Entries, trainees, places_of, list_of}
use Rattle.rules.specs.Questions.{position}
use Rattle.voting.specs.Totals.{one, many}
use Rattle.voting.specs.Placements.{Seat, Placement, Allowed, sits, seated_at, Feasible}
use Rattle.voting.specs.Votes.{prefers, votes, Beats, Unbeaten}
use Rattle.voting.specs.Local.{first_choice, first_count, fallback, WellFormed}
use Rattle.voting.proofs.Totals.{total_le, total_lt, total_add, find_one, one_le}
use Rattle.voting.proofs.Ranks.{rank, spare, on_list, list_on, prefers_yes, prefers_no, prefers_itself, rank_le, rank_first, first_from_rank, first_on, same_rank, earliest_passes, earliest_le, earliest_on, earliest_allowed, sits_some}
use Rattle.voting.proofs.Majorities.{more_beats}
use Rattle.voting.proofs.Moves.{Moved, put, moved_put, seated_moved, votes_moved, against_moved, votes_itself, allowed_moved, free_move_beats}

-- who is not on the first choice prefers it
pub first_better :
    (l : List ℕ) (s : Seat) (p : ℕ) → Allowed l s → first_choice l ≡ Some p → (s ≡ Some p → ⊥) → position l p < rank l s
first_better l s p a first other =
    ⊎_elim (λ (k : 0 < rank l s). omega (arith, ap (rank l) (sym first) ∙ rank_first l))
    (λ (k : rank l s ≤ 0). absurd (other (first_from_rank l s a (omega arith) ∙ first)))
    (cases_lt 0 (rank l s))

sits_mono : (a b : Seat) (p : ℕ) → (a ≡ Some p → b ≡ Some p) → one (sits a p) ≤ one (sits b p)
sits_mono a b p h =
    ⊎_elim (λ (k : sits a p ≡ true). rw (h (sits_some a p k), eq-eqb p p refl) (one_le (sits a p)))
    (λ (k : sits a p ≡ false). rw k (omega arith)) (cases_Bool (sits a p))

split : (a b : Bool) → one a ≤ one b + one (a && not b)
split true true = omega arith
split true false = omega arith
split false b = omega arith

-- r moves to p, and t, who has p, from there to the first choice q
module _ (e : Entries) (M : Placement) (f : Feasible e M) (r p t q : ℕ) (lr : r < trainees e) (lt : t < trainees e)
    (there : M t ≡ Some p) (better : position (list_of e r) p < rank (list_of e r) (M r)) (on : position (list_of e r) p < length (list_of e r))
    (first : first_choice (list_of e t) ≡ Some q) (apart : p ≡ q → ⊥) (place : 0 < places_of e q) where
  abbrev one_moved : Placement
  one_moved = put M r (Some p)

  abbrev two_moved : Placement
  two_moved = put one_moved t (Some q)

  step_one : Moved r (Some p) M one_moved
  step_one = moved_put M r (Some p)

  step_two : Moved t (Some q) one_moved two_moved
  step_two = moved_put one_moved t (Some q)

  others : t ≡ r → ⊥
  others k = omega (arith, ap (rank (list_of e r)) (ap M (sym k) ∙ there))

  still : one_moved t ≡ M t
  still = step_one.else t others

  still_there : one_moved t ≡ Some p
  still_there = still ∙ there

  two_seated : (x : ℕ) → seated_at (trainees e) two_moved x + one (sits (M r) x) ≡ seated_at (trainees e) M x + one (eqb q x)
  two_seated x =
      omega (
        arith,
        seated_moved (trainees e) r (Some p) M one_moved x lr step_one,
        seated_moved (trainees e) t (Some q) one_moved two_moved x lt step_two,
        ap (λ s. one (sits s x)) still_there,
      )

  two_likes : position (list_of e t) q < rank (list_of e t) (M t)
  two_likes = first_better (list_of e t) (M t) q (f.allowed t lt) first (λ k. apart (cc))

  two_for : votes e two_moved M ≡ 2
  two_for =
      omega (
        arith,
        votes_itself e M,
        votes_moved e r (Some p) M one_moved M lr step_one,
        ap one (prefers_itself (list_of e r) (M r)),
        ap one (prefers_yes (list_of e r) (Some p) (M r) (list_on (list_of e r) p on) better),
        votes_moved e t (Some q) one_moved two_moved M lt step_two,
        ap (λ s. one (prefers (list_of e t) s (M t))) still,
        ap one (prefers_itself (list_of e t) (M t)),
        ap one (prefers_yes (list_of e t) (Some q) (M t) (list_on (list_of e t) q (first_on (list_of e t) q first)) two_likes),
      )

  two_against : votes e M two_moved ≡ 0
  two_against =
      omega (
        arith,
        votes_itself e M,
        against_moved e r (Some p) M one_moved M lr step_one,
        ap one (prefers_no (list_of e r) (M r) (Some p) (f.allowed r lr) (omega (arith, better))),
        against_moved e t (Some q) one_moved two_moved M lt step_two,
        ap one (prefers_no (list_of e t) (M t) (Some q) (f.allowed t lt) (omega (arith, two_likes))),
      )

  two_allowed : (x : ℕ) → x < trainees e → Allowed (list_of e x) (two_moved x)
  two_allowed =
      allowed_moved e t (Some q) one_moved two_moved (list_on (list_of e t) q (first_on (list_of e t) q first)) step_two
      (allowed_moved e r (Some p) M one_moved (list_on (list_of e r) p on) step_one f.allowed)

  -- there is places_of at q
  two_beats : seated_at (trainees e) two_moved q ≤ places_of e q → (N : Placement) × Feasible e N × Beats e N M
  two_beats free = (two_moved, record { allowed = two_allowed; fits = fits }, more_beats e two_moved M (omega (arith, two_for, two_against)))
    where
      fits : (x : ℕ) → seated_at (trainees e) two_moved x ≤ places_of e x
      fits x =
          ⊎_elim (λ (k : q ≡ x). subst (λ y. seated_at (trainees e) two_moved y ≤ places_of e y) k free)
          (λ (k : q ≡ x → ⊥). omega (arith, two_seated x, f.fits x, ap one (ne_eqb q x k))) (cases_eq q x)

  -- there is none, so u leaves q
  three_beats : places_of e q < seated_at (trainees e) two_moved q → (u : ℕ) → u < trainees e → one_moved u ≡ Some q → (N : Placement) × Feasible e N × Beats e N M
  three_beats none u lu at-q = (three_moved, record { allowed = allowed_moved e u None two_moved three_moved tt step two_allowed; fits = fits }, more_beats e three_moved M beats)
    where
      three_moved : Placement
      three_moved = put two_moved u None

      step : Moved u None two_moved three_moved
      step = moved_put two_moved u None

      not_t : u ≡ t → ⊥
      not_t k = apart (let h : one_moved t ≡ Some q = ap one_moved (sym k) ∙ at-q in let g : one_moved t ≡ Some p = still_there in cc)

      not_r : u ≡ r → ⊥
      not_r k = apart (let h : one_moved r ≡ Some q = ap one_moved (sym k) ∙ at-q in let g : one_moved r ≡ Some p = step_one.here in cc)

      was : two_moved u ≡ Some q
      was = step_two.else u not_t ∙ at-q

      was_m : two_moved u ≡ M u
      was_m = step_two.else u not_t ∙ step_one.else u not_r

      here : (x : ℕ) → seated_at (trainees e) three_moved x + one (eqb q x) ≡ seated_at (trainees e) two_moved x
      here x = omega (arith, seated_moved (trainees e) u None two_moved three_moved x lu step, ap (λ s. one (sits s x)) was)

      at_fits : seated_at (trainees e) three_moved q ≤ places_of e q
      at_fits = omega (arith, here q, two_seated q, f.fits q, ap one (eq-eqb q q refl))

      fits : (x : ℕ) → seated_at (trainees e) three_moved x ≤ places_of e x
      fits x =
          ⊎_elim (λ (k : q ≡ x). subst (λ y. seated_at (trainees e) three_moved y ≤ places_of e y) k at_fits)
          (λ (k : q ≡ x → ⊥). omega (arith, here x, two_seated x, f.fits x, ap one (ne_eqb q x k))) (cases_eq q x)

      beats : votes e M three_moved < votes e three_moved M
      beats =
          omega (
            arith,
            two_for,
            two_against,
            votes_moved e u None two_moved three_moved M lu step,
            ap (λ s. one (prefers (list_of e u) s (M u))) was_m,
            ap one (prefers_itself (list_of e u) (M u)),
            against_moved e u None two_moved three_moved M lu step,
            one_le (prefers (list_of e u) (M u) None),
          )

  chain_beats : (N : Placement) × Feasible e N × Beats e N M
  chain_beats =
      ⊎_elim
      (λ (none : places_of e q < seated_at (trainees e) two_moved q).
      let some : 0 < seated_at (trainees e) one_moved q =
      omega (arith, seated_moved (trainees e) t (Some q) one_moved two_moved q lt step_two, ap one (eq-eqb q q refl)) in
      let u = find_one (trainees e) (λ x. sits (one_moved x) q) some in
      three_beats none u.0 u.1 (sits_some (one_moved u.0) q u.2))
      two_beats
      (cases_lt (places_of e q) (seated_at (trainees e) two_moved q))

module _ (e : Entries) (M : Placement) (sound : (t q : ℕ) → t < trainees e → first_choice (list_of e t) ≡ Some q → 0 < places_of e q) (un : Unbeaten e M) where
  f : Feasible e M
  f = un.feasible

  -- where r would rather be, there is no free place
  full : (r p : ℕ) → r < trainees e → position (list_of e r) p < rank (list_of e r) (M r) → position (list_of e r) p < length (list_of e r) → seated_at (trainees e) M p ≡ places_of e p
  full r p l better on =
      ⊎_elim
      (λ (k : seated_at (trainees e) M p < places_of e p).
      let b = free_move_beats e M (put M r (Some p)) r p f l (moved_put M r (Some p)) better on k in
      absurd (un.never (put M r (Some p)) b.0 b.1))
      (λ (k : places_of e p ≤ seated_at (trainees e) M p). omega (arith, f.fits p))
      (cases_lt (seated_at (trainees e) M p) (places_of e p))

  -- and all who are there have it as their first choice
  theirs : (r p : ℕ) → r < trainees e → position (list_of e r) p < rank (list_of e r) (M r) → position (list_of e r) p < length (list_of e r) → (t : ℕ) → t < trainees e → M t ≡ Some p → first_choice (list_of e t) ≡ Some p
  theirs r p l better on t lt there = go (first_choice (list_of e t)) refl
    where
      go : (s : Seat) → first_choice (list_of e t) ≡ s → first_choice (list_of e t) ≡ Some p
      go None k = absurd (omega (arith, ap (rank (list_of e t)) k, rank_first (list_of e t), on_list (list_of e t) p (subst (λ s. Allowed (list_of e t) s) there (f.allowed t lt))))
      go (Some q) k =
          ⊎_elim (λ (h : p ≡ q). k ∙ ap Some (sym h))
          (λ (h : p ≡ q → ⊥). let b = chain_beats e M f r p t q l lt there better on k h (sound t q lt k) in absurd (un.never b.0 b.1 b.2))
          (cases_eq p q)

  given : (p t : ℕ) → t < trainees e → first_count e p ≤ places_of e p → first_choice (list_of e t) ≡ Some p → M t ≡ Some p
  given p r l k first =
      ⊎_elim (λ (h : sits (M r) p ≡ true). sits_some (M r) p h) (λ (h : sits (M r) p ≡ false). absurd (away h)) (cases_Bool (sits (M r) p))
    where
      away : sits (M r) p ≡ false → ⊥
      away h =
          let better : position (list_of e r) p < rank (list_of e r) (M r) = first_better (list_of e r) (M r) p (f.allowed r l) first (λ m. both_ways (sits (M r) p) h (rw (m, eq-eqb p p refl))) in
          let on : position (list_of e r) p < length (list_of e r) = first_on (list_of e r) p first in
          omega (
            arith,
            full r p l better on,
            total_lt (trainees e) (λ t. one (sits (M t) p)) (λ t. one (sits (first_choice (list_of e t)) p)) r l
                (λ t lt. sits_mono (M t) (first_choice (list_of e t)) p (λ m. theirs r p l better on t lt m))
                (rw (h, first, eq-eqb p p refl) (omega arith)),
          )

  -- of a practice that is wanted by more than it has places for, someone who wants it is not there
  left_out : (p : ℕ) → places_of e p < first_count e p → (r : ℕ) × (r < trainees e) × (first_choice (list_of e r) ≡ Some p) × (sits (M r) p ≡ false)
  left_out p k =
      let test = λ (t : ℕ). sits (first_choice (list_of e t)) p && not (sits (M t) p) in
      let some : 0 < many (trainees e) test =
      omega (
        arith,
        f.fits p,
        total_le (trainees e) (λ t. one (sits (first_choice (list_of e t)) p)) (λ t. one (sits (M t) p) + one (test t)) (λ t l. split (sits (first_choice (list_of e t)) p) (sits (M t) p)),
        total_add (trainees e) (λ t. one (sits (M t) p)) (λ t. one (test t)),
      ) in
      let u = find_one (trainees e) test some in
      let b = and_parts _ _ u.2 in
      (u.0, u.1, sits_some (first_choice (list_of e u.0)) p b.0, not-true _ b.1)

  crowded : (p : ℕ) → places_of e p < first_count e p → (seated_at (trainees e) M p ≡ places_of e p) × ((t : ℕ) → t < trainees e → M t ≡ Some p → first_choice (list_of e t) ≡ Some p)
  crowded p k =
      let u = left_out p k in
      let r : ℕ = u.0 in
      let better : position (list_of e r) p < rank (list_of e r) (M r) = first_better (list_of e r) (M r) p (f.allowed r u.1) u.2 (λ m. both_ways (sits (M r) p) u.3 (rw (m, eq-eqb p p refl))) in
      let on : position (list_of e r) p < length (list_of e r) = first_on (list_of e r) p u.2 in
      (full r p u.1 better on, theirs r p u.1 better on)

  -- a practice with no spare place seats only those whose first choice it is
  no_spare_theirs : (q t : ℕ) → t < trainees e → spare e q ≡ false → M t ≡ Some q → sits (first_choice (list_of e t)) q ≡ false → ⊥
  no_spare_theirs q t l k m n =
      ⊎_elim
      (λ (h : places_of e q < first_count e q). both_ways (sits (first_choice (list_of e t)) q) n (rw ((crowded q h).1 t l m, eq-eqb q q refl)))
      (λ (h : first_count e q ≤ places_of e q).
      omega (
        arith,
        f.fits q,
        ltb-false (first_count e q) (places_of e q) k,
        total_lt (trainees e) (λ t. one (sits (first_choice (list_of e t)) q)) (λ t. one (sits (M t) q)) t l
            (λ u lu. sits_mono (first_choice (list_of e u)) (M u) q (given q u lu h))
            (rw (n, m, eq-eqb q q refl) (omega arith)),
      ))
      (cases_lt (places_of e q) (first_count e q))

  module _ (t : ℕ) (l : t < trainees e) where
    not_before : (s : Seat) → M t ≡ s → 0 < rank (list_of e t) s → rank (list_of e t) s < rank (list_of e t) (fallback e t) → ⊥
    not_before None m h c = omega (arith, rank_le (list_of e t) (fallback e t))
    not_before (Some q) m h c =
        ⊎_elim
        (λ (n : sits (first_choice (list_of e t)) q ≡ true). omega (arith, h, rank_first (list_of e t), ap (rank (list_of e t)) (sits_some (first_choice (list_of e t)) q n)))
        (λ (n : sits (first_choice (list_of e t)) q ≡ false).
        ⊎_elim
        (λ (k : spare e q ≡ true).
        omega (
          arith,
          c,
          earliest_le (λ x. not (sits (first_choice (list_of e t)) x) && spare e x) (list_of e t) q (and_from _ _ (not_from_false _ n) k)
              (on_list (list_of e t) q (subst (λ s. Allowed (list_of e t) s) m (f.allowed t l))),
        ))
        (λ (k : spare e q ≡ false). no_spare_theirs q t l k m n)
        (cases_Bool (spare e q)))
        (cases_Bool (sits (first_choice (list_of e t)) q))

    not_behind : (s : Seat) → fallback e t ≡ s → rank (list_of e t) s < rank (list_of e t) (M t) → ⊥
    not_behind None b c = omega (arith, rank_le (list_of e t) (M t))
    not_behind (Some g) b c =
        let test = λ (x : ℕ). not (sits (first_choice (list_of e t)) x) && spare e x in
        let passes : test g ≡ true = earliest_passes test (list_of e t) g b in
        let on : position (list_of e t) g < length (list_of e t) = earliest_on test (list_of e t) g b in
        omega (
          arith,
          ltb-true (first_count e g) (places_of e g) (and_parts _ _ passes).1,
          full t g l c on,
          total_le (trainees e) (λ u. one (sits (M u) g)) (λ u. one (sits (first_choice (list_of e u)) g))
              (λ u lu. sits_mono (M u) (first_choice (list_of e u)) g (theirs t g l c on u lu)),
        )

    second : 0 < rank (list_of e t) (M t) → M t ≡ fallback e t
    second h =
        ⊎_elim (λ k. same_rank (list_of e t) (M t) (fallback e t) (f.allowed t l) (earliest_allowed _ (list_of e t)) k)
        (λ o. ⊎_elim (λ k. absurd (not_before (M t) refl h k)) (λ k. absurd (not_behind (fallback e t) refl k)) o)
        (cases_order (rank (list_of e t) (M t)) (rank (list_of e t) (fallback e t)))

  chosen : (t : ℕ) → t < trainees e → 0 < length (list_of e t) → (M t ≡ first_choice (list_of e t)) ⊎ (M t ≡ fallback e t)
  chosen t l k =
      ⊎_elim (λ (h : 0 < rank (list_of e t) (M t)). inr (second t l h))
      (λ (h : rank (list_of e t) (M t) ≤ 0). inl (first_from_rank (list_of e t) (M t) (f.allowed t l) (omega arith)))
      (cases_lt 0 (rank (list_of e t) (M t)))

pub unbeaten_well_formed :
    (e : Entries) (M : Placement) → ((t q : ℕ) → t < trainees e → first_choice (list_of e t) ≡ Some q → 0 < places_of e q) →
    Unbeaten e M → WellFormed e M
unbeaten_well_formed e M sound un =
    record { chosen = chosen e M sound un; given = given e M sound un; filled = λ p k. (crowded e M sound un p k).0; only = λ p t l k. (crowded e M sound un p k).1 t l }
