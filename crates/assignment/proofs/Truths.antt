-- What a search's type says of it, taken out.
use Rattle.std.proofs.Common.{◌≡◌, ℕ, ◌<◌, ◌≤◌, Bool, true, ◌==◌, ◌⊎◌, length, Some, ap, inl, inr, ⊎_elim, arith}
use Rattle.std.proofs.Math.Logic.{∥∥₁_elim}
use Rattle.std.proofs.Props.{props}
use Rattle.std.proofs.lemmas.Bool.{cases_eq, eq-eqb, eqb-true}
use Rattle.voting.specs.Placements.{sits}
use Rattle.voting.specs.Totals.{one, many}
use Rattle.voting.proofs.Ranks.{sits_some}
use Rattle.voting.proofs.Totals.{find_one, total_at}
use Rattle.assignment.specs.declared.search.Search.{Search}
use Rattle.assignment.specs.declared.table.Table.{Table}
use Rattle.assignment.specs.declared.state.State.{State}
use Rattle.assignment.specs.Moves.{mover, goal}
use Rattle.assignment.specs.Progress.{progress}
use Rattle.assignment.specs.Searches.{Progress, marked, Reached, is_reached, Waits, Explored}
use Rattle.assignment.specs.States.{seat_of, Allowed-prop}
use Rattle.assignment.proofs.Bounds.{reached_passes, passes_reached}
use Rattle.assignment.proofs.Counts.{some_sits}
use Rattle.assignment.proofs.Growth.{along}

many_some : (n : ℕ) (f : ℕ → Bool) (i : ℕ) → i < n → f i ≡ true → 0 < many n f
many_some n f i l e = omega (arith, total_at n (λ t. one (f t)) i l, ap one e)

-- each fact is one that can hold in one way, or one that a test finds again
module _ (T : Table) (S : State) (R : Progress) (h : ∥ Explored T S R ∥₁) where
  found : (p : ℕ) → marked R.reached p ≡ true → (j : ℕ) × (j < length R.moves) × (goal R.moves j ≡ p)
  found p m =
      let k : 0 < many (length R.moves) (λ j. goal R.moves j == p) =
      ∥∥₁_elim h (Prim.hlevel props)
      (λ (x : Explored T S R). let f = x.found p m in many_some (length R.moves) (λ j. goal R.moves j == p) f.0 f.1 (eq-eqb _ _ f.2)) in
      let f = find_one (length R.moves) (λ j. goal R.moves j == p) k in
      (f.0, f.1, eqb-true _ _ f.2)

  near :
      (j : ℕ) → j < length R.moves →
      (mover R.moves j ≡ S.newcomer) ⊎ ((i : ℕ) × (i < j) × (seat_of S (mover R.moves j) ≡ Some (goal R.moves i)))
  near j l =
      ⊎_elim (λ (e : mover R.moves j ≡ S.newcomer). inl e)
      (λ (ne : mover R.moves j ≡ S.newcomer → ⊥).
      let k : 0 < many j (λ i. sits (seat_of S (mover R.moves j)) (goal R.moves i)) =
      ∥∥₁_elim h (Prim.hlevel props)
      (λ (x : Explored T S R).
      ⊎_elim (λ (e : mover R.moves j ≡ S.newcomer). absurd (ne e))
      (λ (f : (i : ℕ) × (i < j) × (seat_of S (mover R.moves j) ≡ Some (goal R.moves i))).
      many_some j (λ i. sits (seat_of S (mover R.moves j)) (goal R.moves i)) f.0 f.1 (some_sits _ _ f.2)) (x.near j l)) in
      let f = find_one j (λ i. sits (seat_of S (mover R.moves j)) (goal R.moves i)) k in
      inr (f.0, f.1, sits_some _ _ f.2))
      (cases_eq (mover R.moves j) S.newcomer)

  waiting : (t : ℕ) → Waits R.queue t → (t ≤ S.newcomer) × Reached S R.reached t
  waiting t w =
      let passes : is_reached S R.reached t ≡ true =
      ∥∥₁_elim h (Prim.hlevel props) (λ (x : Explored T S R). reached_passes S R.reached t (x.waiting t w).1) in
      (∥∥₁_elim h (Prim.hlevel props) (λ (x : Explored T S R). (x.waiting t w).0), passes_reached S R.reached t passes)

  pub explored_of : Explored T S R
  explored_of =
      record {
        size = ∥∥₁_elim h (Prim.hlevel props) (λ (x : Explored T S R). x.size);
        slots = ∥∥₁_elim h (Prim.hlevel props) (λ (x : Explored T S R). x.slots);
        spots = ∥∥₁_elim h (Prim.hlevel props) (λ (x : Explored T S R). x.spots);
        known = λ j l. ∥∥₁_elim h (Prim.hlevel props) (λ (x : Explored T S R). x.known j l);
        marks = λ j l. ∥∥₁_elim h (Prim.hlevel props) (λ (x : Explored T S R). x.marks j l);
        found = found;
        apart = λ i j u l e. ∥∥₁_elim h (Prim.hlevel props) (λ (x : Explored T S R). x.apart i j u l e);
        tight = λ j l. ∥∥₁_elim h (Prim.hlevel (props, Allowed-prop)) (λ (x : Explored T S R). x.tight j l);
        full = λ j l. ∥∥₁_elim h (Prim.hlevel props) (λ (x : Explored T S R). x.full j l);
        early = λ j l. ∥∥₁_elim h (Prim.hlevel props) (λ (x : Explored T S R). x.early j l);
        left = λ j l. ∥∥₁_elim h (Prim.hlevel props) (λ (x : Explored T S R). x.left j l);
        near = near;
        waiting = waiting;
        waited = ∥∥₁_elim h (Prim.hlevel props) (λ (x : Explored T S R). x.waited);
      }

-- the same of the table and the state that a search was begun with
pub explored_at : (s : Search) (T : Table) (S : State) → s.table.now ≡ T → s.state.now ≡ S → Explored T S (progress s)
explored_at s T S t u = along (λ A B. Explored A B (progress s)) t u (explored_of s.table.now s.state.now (progress s) s.explored)
