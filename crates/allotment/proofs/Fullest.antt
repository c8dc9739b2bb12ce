-- A heaviest placement by allot's weights is a fullest unbeaten one, or shows that there is none.
use Rattle.std.proofs.Common.{◌≡◌, ℕ, ◌+◌, ◌*◌, ◌<◌, ◌≤◌, Bool, true, false, not, ◌&&◌, eqb, ltb, ◌⊎◌, List, [], ◌∷◌, length, Some, None, sym, refl, ap, ◌∙◌, subst, inl, inr, ⊎_elim, arith}
use Rattle.std.proofs.lemmas.Bool.{cases_lt, cases_eq, eq-eqb, ne_eqb, ltb-true, and_parts, both_ways, not-true}
use Rattle.rules.specs.Meaning.{Entries, Lawful, trainees, places_of, list_of}
use Rattle.voting.specs.Totals.{one, many}
use Rattle.voting.specs.Placements.{Seat, Placement, Allowed, Feasible, sits, placed, seated_at, seated}
use Rattle.voting.specs.Votes.{Beats, Unbeaten, Fullest, EachBeaten}
use Rattle.voting.specs.Local.{first_choice, first_count, fallback, WellFormed}
use Rattle.voting.specs.Weights.{weight, Heaviest}
use Rattle.voting.proofs.Totals.{total_add, total_le, total_same, total_change, total_mul, total_at, find_one, one_le, total_one}
use Rattle.voting.proofs.Ranks.{on_list, list_on, sits_some, earliest_passes, first_on}
use Rattle.allotment.specs.Tabled.{AllWeigh}
use Rattle.allotment.specs.Weights.{allot_weights}
use Rattle.allotment.proofs.Weighing.{has_list, is_first, Second, first_or_second, parts, at_most, first_weighs, other_weighs, fallback_weighs}
use Rattle.voting.proofs.Local.{local_description}
use Rattle.voting.proofs.Moves.{put, Moved, moved_put, seated_moved, allowed_moved}

-- how many have a list, and how many have the first choice
abbrev listing : Entries → ℕ
listing e = many (trainees e) (λ t. has_list (list_of e t))

abbrev happy : Entries → Placement → ℕ
happy e M = many (trainees e) (λ t. is_first (first_choice (list_of e t)) (M t))

pub many_most : (n : ℕ) (f : ℕ → Bool) → many n f ≤ n
many_most n f = omega (arith, total_le n (λ t. one (f t)) (λ t. 1) (λ t _. one_le (f t)), total_one n)

-- a first choice stands on a list
listing_first : (list : List ℕ) (p : ℕ) → first_choice list ≡ Some p → 0 < length list
listing_first list p e = omega (arith, first_on list p e)

no_first : (list : List ℕ) → first_choice list ≡ None → 0 < length list → ⊥
no_first [] k some = omega arith
no_first (x ∷ xs) k some = absurd cc

some_list : (list : List ℕ) → 0 < length list → has_list list ≡ true
some_list [] some = absurd (omega arith)
some_list (x ∷ xs) some = refl

split : (a b : Bool) → one a ≤ one b + one (a && not b)
split true true = omega arith
split true false = omega arith
split false b = omega arith

-- where more pass one test than another, somebody passes it and not the other
left_out : (n : ℕ) (f g : ℕ → Bool) → many n g < many n f → (t : ℕ) × (t < n) × (f t ≡ true) × (g t ≡ false)
left_out n f g h =
    let some : 0 < many n (λ t. f t && not (g t)) =
    omega (
      arith,
      total_le n (λ t. one (f t)) (λ t. one (g t) + one (f t && not (g t))) (λ t l. split (f t) (g t)),
      total_add n (λ t. one (g t)) (λ t. one (f t && not (g t))),
    ) in
    let u = find_one n (λ t. f t && not (g t)) some in
    let b = and_parts (f u.0) (not (g u.0)) u.2 in
    (u.0, u.1, b.0, not-true (g u.0) b.1)

weighs_parts :
    (e : Entries) (M : Placement) → Feasible e M → AllWeigh e (allot_weights e) M →
    weight e (allot_weights e) M ≡ listing e * 161202 + seated (trainees e) M * 401 + happy e M
weighs_parts e M f h =
    omega (
      arith,
      total_same (trainees e) (λ t. allot_weights e t (M t))
          (λ t. (one (has_list (list_of e t)) * 161202 + one (placed (M t)) * 401) + one (is_first (first_choice (list_of e t)) (M t))) each,
      total_add (trainees e) (λ t. one (has_list (list_of e t)) * 161202 + one (placed (M t)) * 401)
          (λ t. one (is_first (first_choice (list_of e t)) (M t))),
      total_add (trainees e) (λ t. one (has_list (list_of e t)) * 161202) (λ t. one (placed (M t)) * 401),
      total_mul (trainees e) 161202 (λ t. one (has_list (list_of e t))),
      total_mul (trainees e) 401 (λ t. one (placed (M t))),
    )
  where
    each :
        (t : ℕ) → t < trainees e →
        allot_weights e t (M t) ≡ (one (has_list (list_of e t)) * 161202 + one (placed (M t)) * 401) + one (is_first (first_choice (list_of e t)) (M t))
    each t l = omega (arith, parts (first_count e) (places_of e) (list_of e t) (M t) (f.allowed t l) (h t l))

-- a well-formed placement gives each trainee with a list a seat that weighs something
pub well_formed_weighs : (e : Entries) (M : Placement) → WellFormed e M → AllWeigh e (allot_weights e) M
well_formed_weighs e M w t l some = go (first_choice (list_of e t)) refl
  where
    at_first : (p : ℕ) → first_choice (list_of e t) ≡ Some p → M t ≡ Some p → 0 < allot_weights e t (M t)
    at_first p k m = rw m (omega (arith, first_weighs (first_count e) (places_of e) (list_of e t) p k))

    go : (s : Seat) → first_choice (list_of e t) ≡ s → 0 < allot_weights e t (M t)
    go None k = absurd (no_first (list_of e t) k some)
    go (Some p) k =
        ⊎_elim
        (λ (over : places_of e p < first_count e p).
        ⊎_elim (λ (m : M t ≡ first_choice (list_of e t)). at_first p k (m ∙ k))
        (λ (m : M t ≡ fallback e t). rw m (omega (arith, fallback_weighs (first_count e) (places_of e) (list_of e t) p k over)))
        (w.chosen t l some))
        (λ (fair : first_count e p ≤ places_of e p). at_first p k (w.given p t l fair k))
        (cases_lt (places_of e p) (first_count e p))

-- a heaviest placement in which each trainee with a list has a seat that weighs something is well-formed
module _ (e : Entries) (M : Placement) (best : Heaviest e (allot_weights e) M) (all : AllWeigh e (allot_weights e) M) where
  chosen : (t : ℕ) → t < trainees e → 0 < length (list_of e t) → (M t ≡ first_choice (list_of e t)) ⊎ (M t ≡ fallback e t)
  chosen t l some =
      ⊎_elim (λ (k : M t ≡ first_choice (list_of e t)). inl k) (λ (k : Second (first_count e) (places_of e) (list_of e t) (M t)). inr k.fallen)
      (first_or_second (first_count e) (places_of e) (list_of e t) (M t) (all t l some))

  given : (p t : ℕ) → t < trainees e → first_count e p ≤ places_of e p → first_choice (list_of e t) ≡ Some p → M t ≡ Some p
  given p t l fair k =
      ⊎_elim (λ (m : M t ≡ first_choice (list_of e t)). m ∙ k)
      (λ (m : Second (first_count e) (places_of e) (list_of e t) (M t)).
      let same : m.first ≡ p = cc (m.is, k) in absurd (omega (arith, m.over, ap (first_count e) same, ap (places_of e) same)))
      (first_or_second (first_count e) (places_of e) (list_of e t) (M t) (all t l (listing_first (list_of e t) p k)))

  only : (p t : ℕ) → t < trainees e → places_of e p < first_count e p → M t ≡ Some p → first_choice (list_of e t) ≡ Some p
  only p t l over k =
      ⊎_elim (λ (m : M t ≡ first_choice (list_of e t)). sym m ∙ k)
      (λ (m : M t ≡ fallback e t).
      let passes = earliest_passes (λ q. not (sits (first_choice (list_of e t)) q) && ltb (first_count e q) (places_of e q)) (list_of e t) p (sym m ∙ k) in
      absurd (omega (arith, ltb-true (first_count e p) (places_of e p) (and_parts (not (sits (first_choice (list_of e t)) p)) (ltb (first_count e p) (places_of e p)) passes).1)))
      (chosen t l (omega (arith, on_list (list_of e t) p (subst (Allowed (list_of e t)) k (best.feasible.allowed t l)))))

  -- who has not the first choice p, which has a free place, could have it
  improves :
      (p r : ℕ) → r < trainees e → first_choice (list_of e r) ≡ Some p → (M r ≡ Some p → ⊥) →
      seated_at (trainees e) M p < places_of e p → ⊥
  improves p r l k other free =
      omega (
        arith,
        best.most (put M r (Some p)) (record { allowed = allowed; fits = fits }),
        total_change (trainees e) r (λ t. allot_weights e t (M t)) (λ t. allot_weights e t (put M r (Some p) t)) l
            (λ t _ m. ap (allot_weights e t) (moved.else t m)),
        ap (allot_weights e r) moved.here,
        first_weighs (first_count e) (places_of e) (list_of e r) p k,
        other_weighs (first_count e) (places_of e) (list_of e r) p (M r) k other,
      )
    where
      moved : Moved r (Some p) M (put M r (Some p))
      moved = moved_put M r (Some p)

      allowed : (t : ℕ) → t < trainees e → Allowed (list_of e t) (put M r (Some p) t)
      allowed =
          allowed_moved e r (Some p) M (put M r (Some p)) (list_on (list_of e r) p (first_on (list_of e r) p k)) moved best.feasible.allowed

      fits : (q : ℕ) → seated_at (trainees e) (put M r (Some p)) q ≤ places_of e q
      fits q =
          ⊎_elim (λ (m : p ≡ q).
          subst (λ x. seated_at (trainees e) (put M r (Some p)) x ≤ places_of e x) m (omega (arith, seated_moved (trainees e) r (Some p) M (put M r (Some p)) p l moved, ap one (eq-eqb p p refl))))
          (λ (m : p ≡ q → ⊥). omega (arith, seated_moved (trainees e) r (Some p) M (put M r (Some p)) q l moved, best.feasible.fits q, ap one (ne_eqb p q m)))
          (cases_eq p q)

  filled : (p : ℕ) → places_of e p < first_count e p → seated_at (trainees e) M p ≡ places_of e p
  filled p over =
      ⊎_elim
      (λ (free : seated_at (trainees e) M p < places_of e p).
      let u = left_out (trainees e) (λ t. sits (first_choice (list_of e t)) p) (λ t. sits (M t) p) (omega arith) in
      absurd (
      improves p u.0 u.1 (sits_some (first_choice (list_of e u.0)) p u.2)
      (λ m. both_ways (sits (M u.0) p) u.3 (rw (m, eq-eqb p p refl))) free
      ))
      (λ (full : places_of e p ≤ seated_at (trainees e) M p). omega (arith, best.feasible.fits p))
      (cases_lt (seated_at (trainees e) M p) (places_of e p))

  pub heaviest_well_formed : WellFormed e M
  heaviest_well_formed = record { chosen = chosen; given = given; filled = filled; only = only }

-- of two placements in which each trainee with a list has a seat that weighs something, the heavier seats as many
seats_as_many :
    (e : Entries) (M N : Placement) → trainees e ≤ 400 → Feasible e M → Feasible e N → AllWeigh e (allot_weights e) M → AllWeigh e (allot_weights e) N →
    weight e (allot_weights e) N ≤ weight e (allot_weights e) M → seated (trainees e) N ≤ seated (trainees e) M
seats_as_many e M N few f g h k le =
    omega (arith, weighs_parts e M f h, weighs_parts e N g k, many_most (trainees e) (λ t. is_first (first_choice (list_of e t)) (M t)))

pub fullest_by_weights : (e : Entries) (M : Placement) → Lawful e → Heaviest e (allot_weights e) M → AllWeigh e (allot_weights e) M → Fullest e M
fullest_by_weights e M lawful best all = record { unbeaten = un; most = most }
  where
    un : Unbeaten e M
    un = (local_description e lawful M best.feasible).1 (heaviest_well_formed e M best all)

    most : (N : Placement) → Unbeaten e N → seated (trainees e) N ≤ seated (trainees e) M
    most N u =
        seats_as_many e M N lawful.few_trainees best.feasible u.feasible all
        (well_formed_weighs e N ((local_description e lawful N u.feasible).0 u)) (best.most N u.feasible)

-- where a trainee with a list has a seat that weighs nothing, no feasible placement is well-formed
none_well_formed :
    (e : Entries) (M : Placement) → trainees e ≤ 400 → Heaviest e (allot_weights e) M → (r : ℕ) → r < trainees e →
    0 < length (list_of e r) → allot_weights e r (M r) ≡ 0 → (N : Placement) → Feasible e N → WellFormed e N → ⊥
none_well_formed e M few best r l some nothing N f w =
    omega (
      arith,
      best.most N f,
      weighs_parts e N f (well_formed_weighs e N w),
      total_mul (trainees e) 161604 (λ t. one (has_list (list_of e t))),
      many_most (trainees e) (λ t. has_list (list_of e t)),
      total_le (trainees e) (λ t. allot_weights e t (M t) + one (eqb t r) * 161604) (λ t. one (has_list (list_of e t)) * 161604) each,
      total_add (trainees e) (λ t. allot_weights e t (M t)) (λ t. one (eqb t r) * 161604),
      total_at (trainees e) (λ t. one (eqb t r) * 161604) r l,
      ap one (eq-eqb r r refl),
    )
  where
    each : (t : ℕ) → t < trainees e → allot_weights e t (M t) + one (eqb t r) * 161604 ≤ one (has_list (list_of e t)) * 161604
    each t k =
        ⊎_elim
        (λ (m : t ≡ r). subst (λ x. allot_weights e x (M x) + one (eqb x r) * 161604 ≤ one (has_list (list_of e x)) * 161604) (sym m)
        (omega (arith, ap one (eq-eqb r r refl), ap one (some_list (list_of e r) some))))
        (λ (m : t ≡ r → ⊥). omega (arith, ap one (ne_eqb t r m), at_most (first_count e) (places_of e) (list_of e t) (M t)))
        (cases_eq t r)

pub each_beaten_by_weights :
    (e : Entries) (M : Placement) → Lawful e → Heaviest e (allot_weights e) M → (r : ℕ) → r < trainees e →
    0 < length (list_of e r) → allot_weights e r (M r) ≡ 0 → EachBeaten e
each_beaten_by_weights e M lawful best r l some nothing N f =
    ⊎_elim (λ (w : WellFormed e N). absurd (none_well_formed e M lawful.few_trainees best r l some nothing N f w))
    (λ (b : (O : Placement) × Feasible e O × Beats e O N). b) (local_description e lawful N f).2
