-- A well-formed feasible placement is unbeaten, by prices.
use Rattle.std.proofs.Common.{◌≡◌, ℕ, ◌+◌, ◌<◌, ◌≤◌, true, false, cond, not, ◌&&◌, length, Some, None, sym, refl, ap, ◌∙◌, ⊎_elim, arith}
use Rattle.std.proofs.lemmas.Bool.{cases_lt, cases_order, cases_Bool, eq-eqb, ltb-true, ltb-false, and_parts, and_from, not_from_false}
use Rattle.rules.specs.Meaning.{Entries, trainees, places_of, list_of}
use Rattle.voting.specs.Totals.{one}
use Rattle.voting.specs.Placements.{Seat, Placement, Allowed, Feasible, sits, seated_at}
use Rattle.voting.specs.Votes.{Unbeaten}
use Rattle.voting.specs.Local.{first_choice, first_count, fallback, WellFormed}
use Rattle.voting.specs.Weights.{price_of}
use Rattle.voting.specs.Ballots.{ballot}
use Rattle.voting.proofs.Totals.{total_le}
use Rattle.voting.proofs.Ranks.{rank, spare, rank_le, rank_first, on_list, first_from_rank, same_rank, earliest_passes, earliest_le, sits_some}
use Rattle.voting.proofs.Certificate.{prices_certify}
use Rattle.voting.proofs.Ballots.{ballot_itself, ballot_above, ballot_below, unbeaten_by_ballots}

-- a place at a practice with no spare place costs 1
abbrev cost : Entries → ℕ → ℕ
cost e p = cond (spare e p) 0 1

cost_spare : (e : Entries) (p : ℕ) → spare e p ≡ true → cost e p ≡ 0
cost_spare e p k = rw k

cost_none : (e : Entries) (p : ℕ) → spare e p ≡ false → cost e p ≡ 1
cost_none e p k = rw k

cost_le_one : (e : Entries) (s : Seat) → price_of (cost e) s ≤ 1
cost_le_one e None = omega arith
cost_le_one e (Some p) = ⊎_elim (λ k. omega (arith, cost_spare e p k)) (λ k. omega (arith, cost_none e p k)) (cases_Bool (spare e p))

module _ (e : Entries) (M : Placement) where
  -- a fallback costs nothing
  not_fallback : (t : ℕ) → 0 < price_of (cost e) (M t) → M t ≡ fallback e t → ⊥
  not_fallback t c q = go (M t) refl c
    where
      go : (s : Seat) → M t ≡ s → 0 < price_of (cost e) s → ⊥
      go None k c = omega arith
      go (Some p) k c =
          let test = λ (q : ℕ). not (sits (first_choice (list_of e t)) q) && spare e q in
          let passes : test p ≡ true = earliest_passes test (list_of e t) p (sym q ∙ k) in
          omega (arith, cost_spare e p (and_parts _ _ passes).1)

  module _ (f : Feasible e M) (h : WellFormed e M) where
    -- who has a place that costs has the first choice
    top : (t : ℕ) → t < trainees e → 0 < price_of (cost e) (M t) → M t ≡ first_choice (list_of e t)
    top t l c =
        ⊎_elim
        (λ (k : 0 < length (list_of e t)). ⊎_elim (λ (q : M t ≡ first_choice (list_of e t)). q) (λ (q : M t ≡ fallback e t). absurd (not_fallback t c q)) (h.chosen t l k))
        (λ (k : length (list_of e t) ≤ 0). first_from_rank (list_of e t) (M t) (f.allowed t l) (omega (arith, rank_le (list_of e t) (M t))))
        (cases_lt 0 (length (list_of e t)))

    -- what is preferred to the own seat costs
    better : (t : ℕ) (s : Seat) → t < trainees e → Allowed (list_of e t) s → rank (list_of e t) s < rank (list_of e t) (M t) → 0 < price_of (cost e) s
    better t None l a c = omega (arith, rank_le (list_of e t) (M t))
    better t (Some p) l a c = ⊎_elim (λ (k : spare e p ≡ true). absurd (by_spare k)) (λ (k : spare e p ≡ false). omega (arith, cost_none e p k)) (cases_Bool (spare e p))
      where
        by_first : M t ≡ first_choice (list_of e t) → ⊥
        by_first q = omega (arith, ap (rank (list_of e t)) q, rank_first (list_of e t))

        by_given : spare e p ≡ true → sits (first_choice (list_of e t)) p ≡ true → ⊥
        by_given k q =
            let m : M t ≡ Some p = h.given p t l (omega (arith, ltb-true (first_count e p) (places_of e p) k)) (sits_some (first_choice (list_of e t)) p q) in
            omega (arith, ap (rank (list_of e t)) m)

        by_earliest : spare e p ≡ true → M t ≡ fallback e t → sits (first_choice (list_of e t)) p ≡ false → ⊥
        by_earliest k m q =
            omega (
              arith,
              ap (rank (list_of e t)) m,
              earliest_le (λ q. not (sits (first_choice (list_of e t)) q) && spare e q) (list_of e t) p (and_from _ _ (not_from_false _ q) k) (on_list (list_of e t) p a),
            )

        by_spare : spare e p ≡ true → ⊥
        by_spare k =
            ⊎_elim by_first (λ m. ⊎_elim (by_given k) (by_earliest k m) (cases_Bool (sits (first_choice (list_of e t)) p))) (h.chosen t l (omega (arith, on_list (list_of e t) p a)))

    best : (t : ℕ) (s : Seat) → t < trainees e → Allowed (list_of e t) s → ballot e M t s + price_of (cost e) (M t) ≤ ballot e M t (M t) + price_of (cost e) s
    best t s l a = ⊎_elim level (λ o. ⊎_elim above below o) (cases_order (rank (list_of e t) s) (rank (list_of e t) (M t)))
      where
        level : rank (list_of e t) s ≡ rank (list_of e t) (M t) → ballot e M t s + price_of (cost e) (M t) ≤ ballot e M t (M t) + price_of (cost e) s
        level k = let same : s ≡ M t = same_rank (list_of e t) s (M t) a (f.allowed t l) k in rw same (omega arith)

        above : rank (list_of e t) s < rank (list_of e t) (M t) → ballot e M t s + price_of (cost e) (M t) ≤ ballot e M t (M t) + price_of (cost e) s
        above k =
            ⊎_elim
            (λ (c : 0 < price_of (cost e) (M t)). absurd (omega (arith, ap (rank (list_of e t)) (top t l c), rank_first (list_of e t))))
            (λ (c : price_of (cost e) (M t) ≤ 0). omega (arith, ballot_itself e M t, ballot_above e M t s a k, better t s l a k))
            (cases_lt 0 (price_of (cost e) (M t)))

        below : rank (list_of e t) (M t) < rank (list_of e t) s → ballot e M t s + price_of (cost e) (M t) ≤ ballot e M t (M t) + price_of (cost e) s
        below k = omega (arith, ballot_itself e M t, ballot_below e M t s a (f.allowed t l) k, cost_le_one e (M t))

    there : (p t : ℕ) → t < trainees e → first_count e p ≤ places_of e p → one (sits (first_choice (list_of e t)) p) ≤ one (sits (M t) p)
    there p t l k =
        ⊎_elim
        (λ (q : sits (first_choice (list_of e t)) p ≡ true). rw (q, h.given p t l k (sits_some (first_choice (list_of e t)) p q), eq-eqb p p refl) (omega arith))
        (λ (q : sits (first_choice (list_of e t)) p ≡ false). rw q (omega arith))
        (cases_Bool (sits (first_choice (list_of e t)) p))

    full : (p : ℕ) → 0 < cost e p → seated_at (trainees e) M p ≡ places_of e p
    full p c =
        ⊎_elim
        (λ (k : places_of e p < first_count e p). h.filled p k)
        (λ (k : first_count e p ≤ places_of e p).
        omega (
          arith,
          f.fits p,
          no_spare,
          total_le (trainees e) (λ t. one (sits (first_choice (list_of e t)) p)) (λ t. one (sits (M t) p)) (λ t l. there p t l k),
        ))
        (cases_lt (places_of e p) (first_count e p))
      where
        no_spare : places_of e p ≤ first_count e p
        no_spare =
            ⊎_elim (λ (k : spare e p ≡ true). absurd (omega (arith, cost_spare e p k))) (λ (k : spare e p ≡ false). ltb-false (first_count e p) (places_of e p) k)
            (cases_Bool (spare e p))

pub well_formed_unbeaten : (e : Entries) (M : Placement) → Feasible e M → WellFormed e M → Unbeaten e M
well_formed_unbeaten e M f h = unbeaten_by_ballots e M (prices_certify e (ballot e M) (cost e) M f (record { best = best e M f h; full = full e M f h }))
