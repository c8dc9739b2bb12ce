-- The moves are carried out.
use Rattle.std.proofs.Common.{◌≡◌, ℕ, ◌+◌, ◌<◌, ◌≤◌, true, false, ◌⊎◌, List, [], ◌∷◌, ◌++◌, length, get_or, set, Some, None, sym, refl, ap, ◌∙◌, subst, inl, inr, ⊎_elim, arith}
use Rattle.std.proofs.lemmas.List.{length_push, get_or_push, get_or_append_left, get_or-set_same, get_or-set_other}
use Rattle.std.proofs.lemmas.Bool.{cases_eq, both_ways}
use Rattle.rules.specs.declared.words.Move.{Move}
use Rattle.voting.specs.Placements.{Seat, Placement, stored, sits, seated_at}
use Rattle.voting.specs.Totals.{one}
use Rattle.voting.proofs.Moves.{Moved, seated_moved}
use Rattle.voting.proofs.Ranks.{sits_some}
use Rattle.worklist.specs.Outcomes.{newest_outcome}
use Rattle.worklist.proofs.Ends.{newest_some}
use Rattle.assignment.specs.declared.state.End.{End}
use Rattle.assignment.specs.declared.state.TraineeState.{TraineeState}
use Rattle.assignment.specs.Moves.{no_move, mover, origin, goal}
use Rattle.assignment.specs.States.{no_trainee_state, seats_in, value_in}
use Rattle.assignment.specs.Walks.{end_seat, Front, Chain, Took, Under, Shifted, Walk}
use Rattle.assignment.proofs.Counts.{none_some, some_sits}

some_inj : (p q : ℕ) → ◌≡◌ {A = Seat} (Some p) (Some q) → p ≡ q
some_inj p q e = cc

-- one trainee written anew
pub moved_set :
    (ts : List TraineeState) (r : ℕ) (x : TraineeState) → r < length ts →
    Moved r (stored x.seat) (seats_in ts) (seats_in (set ts r x))
moved_set ts r x l =
    record {
      here = ap (λ (y : TraineeState). stored y.seat) (get_or-set_same ts r x no_trainee_state l);
      else = λ t k. ap (λ (y : TraineeState). stored y.seat) (get_or-set_other ts r t x no_trainee_state k);
    }

pub values_set :
    (ts : List TraineeState) (r : ℕ) (x : TraineeState) → r < length ts → x.value ≡ value_in ts r →
    (t : ℕ) → value_in (set ts r x) t ≡ value_in ts t
values_set ts r x l e t =
    ⊎_elim
    (λ (q : t ≡ r).
    ap (value_in (set ts r x)) q ∙ ap (λ (y : TraineeState). y.value) (get_or-set_same ts r x no_trainee_state l) ∙ e ∙ ap (value_in ts) (sym q))
    (λ (q : t ≡ r → ⊥). ap (λ (y : TraineeState). y.value) (get_or-set_other ts r t x no_trainee_state q))
    (cases_eq t r)

module _ (M : Placement) (ms : List Move) (e : End) (h : Chain M ms e) where
  -- a mover's own seat is not taken by a move that is no earlier
  unlike : (i j : ℕ) → j ≤ i → i < length ms → M (mover ms j) ≡ Some (goal ms i) → ⊥
  unlike i j l k q =
      ⊎_elim
      (λ (n : M (mover ms j) ≡ None). none_some (goal ms i) (M (mover ms j)) n q)
      (λ (n : (a : ℕ) × (a < j) × (M (mover ms j) ≡ Some (goal ms a))).
      h.apart n.0 i (omega (arith, n.1)) k (some_inj _ _ (sym n.2 ∙ q)))
      (h.near j (omega arith))

  pub walk_start : (N : Placement) → Moved e.trainee (end_seat e) M N → Walk M N ms e (M e.trainee) (length ms)
  walk_start N m =
      record {
        counted = λ n p u. seated_moved n e.trainee (end_seat e) M N p u.0 m;
        moved = λ t. ⊎_elim (λ (q : t ≡ e.trainee). inr (inr (q, ap N q ∙ m.here))) (λ (q : t ≡ e.trainee → ⊥). inl (m.else t q)) (cases_eq t e.trainee);
        hole = ⊎_elim (λ (q : M e.trainee ≡ None). inl (q, (e.trainee, q, inr (refl, m.here))))
            (λ (q : (i : ℕ) × (i < length ms) × (M e.trainee ≡ Some (goal ms i))). inr q) h.end_near;
        fresh = λ j l. ⊎_elim (λ (q : mover ms j ≡ e.trainee). inl (ap M q)) (λ (q : mover ms j ≡ e.trainee → ⊥). inr (m.else (mover ms j) q)) (cases_eq (mover ms j) e.trainee);
      }

  pub walk_skip : (N : Placement) (left : Seat) (j : ℕ) → Walk M N ms e left (j + 1) → sits left (goal ms j) ≡ false → Walk M N ms e left j
  walk_skip N left j w off =
      record {
        counted = w.counted;
        moved = w.moved;
        hole = ⊎_elim (λ q. inl q)
            (λ (q : (i : ℕ) × (i < j + 1) × (left ≡ Some (goal ms i))).
            let ne : q.0 ≡ j → ⊥ = λ k. both_ways (sits left (goal ms j)) off (some_sits left (goal ms j) (q.2 ∙ ap (λ i. Some (goal ms i)) k)) in
            inr (q.0, omega (arith, q.1), q.2)) w.hole;
        fresh = λ i l. w.fresh i (omega arith);
      }

  pub walk_take :
      (N N' : Placement) (left : Seat) (j : ℕ) → j < length ms → Walk M N ms e left (j + 1) → left ≡ Some (goal ms j) →
      Moved (mover ms j) (Some (goal ms j)) N N' → Walk M N' ms e (origin ms j) j
  walk_take N N' left j l w at m =
      subst (λ s. Walk M N' ms e s j) (same ∙ sym (h.left j l)) (record { counted = counted; moved = moved; hole = hole; fresh = fresh })
    where
      same : N (mover ms j) ≡ M (mover ms j)
      same = ⊎_elim (λ (q : M (mover ms j) ≡ left). absurd (unlike j j (omega arith) l (q ∙ at))) (λ q. q) (w.fresh j (omega arith))

      counted : (n p : ℕ) → Under n ms e → seated_at n N' p + one (sits (N (mover ms j)) p) ≡ seated_at n M p + one (sits (end_seat e) p)
      counted n p u =
          omega (arith, w.counted n p u, ap (λ s. one (sits s p)) at, seated_moved n (mover ms j) (Some (goal ms j)) N N' p (u.1 j l) m)

      moved : (t : ℕ) → (N' t ≡ M t) ⊎ Took ms e t (N' t)
      moved t =
          ⊎_elim (λ (q : t ≡ mover ms j). inr (inl (j, l, sym q, ap N' q ∙ m.here)))
          (λ (q : t ≡ mover ms j → ⊥). subst (λ s. (s ≡ M t) ⊎ Took ms e t s) (sym (m.else t q)) (w.moved t))
          (cases_eq t (mover ms j))

      hole : ((N (mover ms j) ≡ None) × ((t : ℕ) × (M t ≡ None) × Took ms e t (N' t))) ⊎ ((i : ℕ) × (i < j) × (N (mover ms j) ≡ Some (goal ms i)))
      hole =
          ⊎_elim (λ (q : M (mover ms j) ≡ None). inl (same ∙ q, (mover ms j, q, inl (j, l, refl, m.here))))
          (λ (q : (i : ℕ) × (i < j) × (M (mover ms j) ≡ Some (goal ms i))). inr (q.0, q.1, same ∙ q.2))
          (h.near j l)

      fresh : (i : ℕ) → i < j → (M (mover ms i) ≡ N (mover ms j)) ⊎ (N' (mover ms i) ≡ M (mover ms i))
      fresh i k =
          ⊎_elim (λ (q : mover ms i ≡ mover ms j). inl (ap M q ∙ sym same))
          (λ (q : mover ms i ≡ mover ms j → ⊥).
          ⊎_elim (λ (a : M (mover ms i) ≡ left). absurd (unlike j i (omega arith) l (a ∙ at)))
          (λ (a : N (mover ms i) ≡ M (mover ms i)). inr (m.else (mover ms i) q ∙ a)) (w.fresh i (omega arith)))
          (cases_eq (mover ms i) (mover ms j))

  pub walk_done : (N : Placement) (left : Seat) → Walk M N ms e left 0 → Shifted M N ms e
  walk_done N left w =
      ⊎_elim
      (λ (q : (left ≡ None) × ((t : ℕ) × (M t ≡ None) × Took ms e t (N t))).
      record { counted = λ n p u. omega (arith, w.counted n p u, ap (λ s. one (sits s p)) q.0); moved = w.moved; starter = q.1 })
      (λ (q : (j : ℕ) × (j < 0) × (left ≡ Some (goal ms j))). absurd (omega (arith, q.1)))
      w.hole

-- the newest of the moves xs, which are the front of ys, is taken off
module _ (xs ys zs : List Move) (x : Move) (f : Front xs ys) (o : newest_outcome xs ≡ (Some x, zs)) where
  e : xs ≡ zs ++ x ∷ []
  e = newest_some xs zs x o

  pub front_length : length xs ≡ length zs + 1
  front_length = ap length e ∙ length_push zs x

  pub front_less : Front zs ys
  front_less =
      record {
        within = omega (arith, f.within, front_length);
        same = λ j l. sym (get_or_append_left zs (x ∷ []) no_move j l) ∙ ap (λ us. get_or us j no_move) (sym e) ∙ f.same j (omega (arith, front_length));
      }

  pub front_last : get_or ys (length zs) no_move ≡ x
  front_last =
      sym (f.same (length zs) (omega (arith, front_length))) ∙ ap (λ us. get_or us (length zs) no_move) e ∙ get_or_push zs x no_move (length zs) refl

  pub front_known : ((j : ℕ) → j < length ys → mover ys j < 400) → x.trainee.0 < 400
  front_known h = subst (λ (y : Move). y.trainee.0 < 400) front_last (h (length zs) (omega (arith, f.within, front_length)))

  module _ (M : Placement) (e' : End) (h : Chain M ys e') (N : Placement) (left : Seat) (w : Walk M N ys e' left (length xs)) where
    before : Walk M N ys e' left (length zs + 1)
    before = subst (λ i. Walk M N ys e' left i) front_length w

    pub front_take :
        (N' : Placement) → Moved x.trainee.0 (Some x.taken.0) N N' → sits left x.taken.0 ≡ true → Walk M N' ys e' (stored x.left) (length zs)
    front_take N' m at =
        let j = length zs in
        let l : j < length ys = omega (arith, f.within, front_length) in
        subst (λ (y : Move). Walk M N' ys e' (stored y.left) j) front_last
        (walk_take M ys e' h N N' left j l before (sits_some left (goal ys j) (subst (λ (y : Move). sits left y.taken.0 ≡ true) (sym front_last) at))
        (subst (λ (y : Move). Moved y.trainee.0 (Some y.taken.0) N N') (sym front_last) m))

    pub front_skip : sits left x.taken.0 ≡ false → Walk M N ys e' left (length zs)
    front_skip off =
        walk_skip M ys e' h N left (length zs) before
        (subst (λ (y : Move). sits left y.taken.0 ≡ false) (sym front_last) off)
