-- A search with a move more.
use Rattle.std.proofs.Common.{◌≡◌, ℕ, ◌+◌, ◌<◌, ◌≤◌, true, false, ◌⊎◌, List, [], ◌∷◌, ◌++◌, length, get_or, set, Some, sym, refl, ap, ◌∙◌, subst, inl, inr, ⊎_elim, arith}
use Rattle.std.proofs.lemmas.List.{length_push, get_or_push, get_or_append_left, get_or-set_same, get_or-set_other}
use Rattle.std.proofs.lemmas.Bool.{cases_eq, cases_lt, both_ways}
use Rattle.rules.specs.declared.words.Move.{Move}
use Rattle.voting.specs.Placements.{stored, seated_at}
use Rattle.voting.specs.Totals.{one, many}
use Rattle.voting.proofs.Totals.{total_change}
use Rattle.assignment.specs.declared.table.Table.{Table}
use Rattle.assignment.specs.declared.state.State.{State}
use Rattle.assignment.specs.Moves.{no_move, mover, goal}
use Rattle.assignment.specs.Searches.{Progress, marked, Reached, is_reached, Waits, Queued, Noted, Explored, Grown}
use Rattle.assignment.specs.States.{trainees_in, practices_in, capacity, seat_of, count, Ready, Tight}
use Rattle.assignment.proofs.Bounds.{more_reached}
use Rattle.assignment.proofs.Counts.{none_some}

-- a move is noted: it stands behind the others, its practice is marked, and who sits there waits
pub noted :
    (S : State) (R R' : Progress) (x : Move) → x.taken.0 < length R.reached → R'.moves ≡ R.moves ++ x ∷ [] →
    R'.reached ≡ set R.reached x.taken.0 true → Queued S S.newcomer x.taken.0 R.queue R'.queue → R'.slots ≡ R.slots → R'.spots ≡ R.spots →
    Noted S R R' x
noted S R R' x l m v q slots spots =
    record {
      moves = m;
      mark = ap (λ V. marked V x.taken.0) v ∙ get_or-set_same R.reached x.taken.0 true false l;
      rest = λ p n. ap (λ V. marked V p) v ∙ get_or-set_other R.reached x.taken.0 p true false n;
      queue = q;
      slots = slots;
      spots = spots;
    }

-- what holds of each move, and of one behind them, holds of each then
each_push :
    (P : ℕ → Move → Type 0) (xs : List Move) (x : Move) → ((j : ℕ) → j < length xs → P j (get_or xs j no_move)) → P (length xs) x →
    (j : ℕ) → j < length (xs ++ x ∷ []) → P j (get_or (xs ++ x ∷ []) j no_move)
each_push P xs x old last j k =
    ⊎_elim (λ (l : j < length xs). subst (P j) (sym (get_or_append_left xs (x ∷ []) no_move j l)) (old j l))
    (λ (l : length xs ≤ j).
    let here : length xs ≡ j = omega (arith, length_push xs x) in
    subst (P j) (sym (get_or_push xs x no_move j here)) (subst (λ i. P i x) here last))
    (cases_lt j (length xs))

-- the move y is noted, and its practice is new
module _ (T : Table) (S : State) (R R' : Progress) (y : Move) (h : Noted S R R' y) (r : Ready T S) (new : marked R.reached y.taken.0 ≡ false) where
  still : (q : ℕ) → marked R.reached q ≡ true → marked R'.reached q ≡ true
  still q s =
      ⊎_elim (λ (k : q ≡ y.taken.0). subst (λ u. marked R'.reached u ≡ true) (sym k) h.mark)
      (λ (k : q ≡ y.taken.0 → ⊥). h.rest q k ∙ s) (cases_eq q y.taken.0)

  crowd : many (trainees_in T) (is_reached S R.reached) + seated_at S.newcomer (seat_of S) y.taken.0 ≤ many (trainees_in T) (is_reached S R'.reached)
  crowd = more_reached T S R.reached r y.taken.0 new R'.reached h.mark still

  fresh : (t : ℕ) → t ≤ S.newcomer → Reached S R'.reached t → Reached S R.reached t ⊎ Waits R'.queue t
  fresh t k (inl i) = inl (inl i)
  fresh t k (inr (q, s, m)) =
      ⊎_elim
      (λ (i : q ≡ y.taken.0).
      ⊎_elim (λ (z : t < S.newcomer). inr (h.queue.all t z (s ∙ ap Some i)))
      (λ (z : S.newcomer ≤ t). absurd (none_some q (seat_of S t) (r.sound.later t z) s)) (cases_lt t S.newcomer))
      (λ (i : q ≡ y.taken.0 → ⊥). inl (inr (q, s, sym (h.rest q i) ∙ m)))
      (cases_eq q y.taken.0)

  pub grown_note : Grown T S R R'
  grown_note = record { still = still; waits = h.queue.kept; fresh = fresh; fair = omega (arith, crowd, h.queue.size) }

-- it is a tight seat at a full practice, for one who was reached
module _
    (T : Table) (S : State) (R R' : Progress) (y : Move) (h : Noted S R R' y) (r : Ready T S) (x : Explored T S R) (l : y.taken.0 < practices_in T)
    (new : marked R.reached y.taken.0 ≡ false) (b : Tight T S y.trainee.0 (Some y.taken.0)) (f : count S y.taken.0 ≡ capacity T y.taken.0)
    (e : y.trainee.0 ≤ S.newcomer) (o : stored y.left ≡ seat_of S y.trainee.0) (a : Reached S R.reached y.trainee.0) where
  more : length R'.moves ≡ length R.moves + 1
  more = ap length h.moves ∙ length_push R.moves y

  each : (P : ℕ → Move → Type 0) → ((j : ℕ) → j < length R.moves → P j (get_or R.moves j no_move)) → P (length R.moves) y → (j : ℕ) → j < length R'.moves → P j (get_or R'.moves j no_move)
  each P old last = subst (λ ms. (j : ℕ) → j < length ms → P j (get_or ms j no_move)) (sym h.moves) (each_push P R.moves y old last)

  goal_old : (j : ℕ) → j < length R.moves → goal R'.moves j ≡ goal R.moves j
  goal_old j k = ap (λ ms. goal ms j) h.moves ∙ ap (λ (z : Move). z.taken.0) (get_or_append_left R.moves (y ∷ []) no_move j k)

  goal_last : goal R'.moves (length R.moves) ≡ y.taken.0
  goal_last = ap (λ ms. goal ms (length R.moves)) h.moves ∙ ap (λ (z : Move). z.taken.0) (get_or_push R.moves y no_move (length R.moves) refl)

  found : (q : ℕ) → marked R'.reached q ≡ true → (j : ℕ) × (j < length R'.moves) × (goal R'.moves j ≡ q)
  found q s =
      ⊎_elim (λ (k : q ≡ y.taken.0). (length R.moves, omega (arith, more), goal_last ∙ sym k))
      (λ (k : q ≡ y.taken.0 → ⊥). let j = x.found q (sym (h.rest q k) ∙ s) in (j.0, omega (arith, more, j.1), goal_old j.0 j.1 ∙ j.2))
      (cases_eq q y.taken.0)

  apart : (i j : ℕ) → i < j → j < length R'.moves → goal R'.moves i ≡ goal R'.moves j → ⊥
  apart i j u k q =
      let i' : i < length R.moves = omega (arith, more) in
      ⊎_elim
      (λ (n : j ≡ length R.moves).
      let same : goal R.moves i ≡ y.taken.0 = sym (goal_old i i') ∙ q ∙ ap (goal R'.moves) n ∙ goal_last in
      both_ways (marked R.reached y.taken.0) new (subst (λ z. marked R.reached z ≡ true) same (x.marks i i')))
      (λ (n : j ≡ length R.moves → ⊥).
      let k' : j < length R.moves = omega (arith, more) in
      x.apart i j u k' (sym (goal_old i i') ∙ q ∙ goal_old j k'))
      (cases_eq j (length R.moves))

  near :
      (j : ℕ) → j < length R'.moves →
      (mover R'.moves j ≡ S.newcomer) ⊎ ((i : ℕ) × (i < j) × (seat_of S (mover R'.moves j) ≡ Some (goal R'.moves i)))
  near =
      each (λ j z. (z.trainee.0 ≡ S.newcomer) ⊎ ((i : ℕ) × (i < j) × (seat_of S z.trainee.0 ≡ Some (goal R'.moves i))))
      (λ j k. ⊎_elim (λ (q : mover R.moves j ≡ S.newcomer). inl q)
      (λ (q : (i : ℕ) × (i < j) × (seat_of S (mover R.moves j) ≡ Some (goal R.moves i))).
      inr (q.0, q.1, q.2 ∙ ap Some (sym (goal_old q.0 (omega (arith, q.1)))))) (x.near j k))
      (⊎_elim (λ (q : y.trainee.0 ≡ S.newcomer). inl q)
      (λ (q : (u : ℕ) × (seat_of S y.trainee.0 ≡ Some u) × (marked R.reached u ≡ true)).
      let j = x.found q.0 q.2 in
      inr (j.0, j.1, q.1 ∙ ap Some (sym (goal_old j.0 j.1 ∙ j.2)))) a)

  size : many (practices_in T) (marked R'.reached) ≡ length R'.moves
  size =
      omega (
        arith,
        x.size,
        more,
        ap one new,
        ap one h.mark,
        total_change (practices_in T) y.taken.0 (λ q. one (marked R.reached q)) (λ q. one (marked R'.reached q)) l (λ q _ n. ap one (h.rest q n)),
      )

  waiting : (t : ℕ) → Waits R'.queue t → (t ≤ S.newcomer) × Reached S R'.reached t
  waiting t w =
      ⊎_elim
      (λ (v : Waits R.queue t).
      let u = x.waiting t v in (
        u.0,
        ⊎_elim (λ (i : t ≡ S.newcomer). inl i)
            (λ (i : (q : ℕ) × (seat_of S t ≡ Some q) × (marked R.reached q ≡ true)). inr (i.0, i.1, still T S R R' y h r new i.0 i.2)) u.1,
      ))
      (λ (v : (t < S.newcomer) × (seat_of S t ≡ Some y.taken.0)). (omega (arith, v.0), inr (y.taken.0, v.1, h.mark)))
      (h.queue.only t w)

  pub explored_note : Explored T S R'
  explored_note =
      record {
        size = size;
        slots = omega (arith, h.slots, x.slots);
        spots = omega (arith, h.spots, x.spots);
        known = each (λ j z. z.taken.0 < practices_in T) x.known l;
        marks = each (λ j z. marked R'.reached z.taken.0 ≡ true) (λ j k. still T S R R' y h r new (goal R.moves j) (x.marks j k)) h.mark;
        found = found;
        apart = apart;
        tight = each (λ j z. Tight T S z.trainee.0 (Some z.taken.0)) x.tight b;
        full = each (λ j z. count S z.taken.0 ≡ capacity T z.taken.0) x.full f;
        early = each (λ j z. z.trainee.0 ≤ S.newcomer) x.early e;
        left = each (λ j z. stored z.left ≡ seat_of S z.trainee.0) x.left o;
        near = near;
        waiting = waiting;
        waited = omega (arith, crowd T S R R' y h r new, h.queue.size, x.waited);
      }
