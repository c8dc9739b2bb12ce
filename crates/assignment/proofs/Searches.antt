-- A search begins, and goes from one who waits to the next.
use Rattle.std.proofs.Common.{◌≡◌, ℕ, ◌<◌, ◌≤◌, Bool, true, false, List, [], ◌∷◌, length, Some, None, Option, sym, refl, ap, ◌∙◌, subst, inl, inr, ⊎_elim, arith}
use Rattle.std.proofs.lemmas.Bool.{both_ways}
use Rattle.rules.specs.declared.words.Trainee.{Trainee}
use Rattle.voting.specs.Totals.{one}
use Rattle.voting.proofs.Totals.{total_at, total_none}
use Rattle.worklist.specs.Outcomes.{oldest_outcome}
use Rattle.assignment.specs.declared.table.Table.{Table}
use Rattle.assignment.specs.declared.state.State.{State}
use Rattle.assignment.specs.Searches.{Progress, marked, Reached, is_reached, Waits, Explored, Grown, Closed, Covered, Stuck}
use Rattle.assignment.specs.Rows.{size, GoodRow}
use Rattle.assignment.specs.States.{trainees_in, practices_in, row, choice, value, Ready, Tight}
use Rattle.assignment.proofs.Bounds.{reached_passes}
use Rattle.assignment.proofs.Growth.{closed_grown}
use Rattle.assignment.proofs.Lists.{allowed_choice}
use Rattle.assignment.proofs.Queues.{waits_first, waits_oldest, length_oldest}

-- the same search with other trainees waiting
abbrev pub with_queue : Progress → List Trainee → ℕ → Progress
with_queue R q s = record { moves = R.moves; reached = R.reached; queue = q; slots = R.slots; spots = s }

-- at first the newcomer alone waits
module _
    (T : Table) (S : State) (R : Progress) (x : Trainee) (r : Ready T S) (i : x.0 ≡ S.newcomer) (m : R.moves ≡ []) (e : R.queue ≡ x ∷ [])
    (u : (p : ℕ) → marked R.reached p ≡ false) (slots : trainees_in T ≤ R.slots) (spots : trainees_in T ≤ R.spots) where
  none : length R.moves ≡ 0
  none = ap length m

  alone : (t : ℕ) → Waits R.queue t → t ≡ S.newcomer
  alone t w =
      ⊎_elim (λ (a : t ≡ x.0). a ∙ i) (λ (a : Waits [] t). absurd (omega (arith, a.1))) (waits_first x [] t (subst (λ z. Waits z t) e w))

  pub explored_start : Explored T S R
  explored_start =
      record {
        size = omega (arith, none, total_none (practices_in T) (λ p. one (marked R.reached p)) (λ p _. ap one (u p)));
        slots = slots;
        spots = spots;
        known = λ j l. absurd (omega (arith, none));
        marks = λ j l. absurd (omega (arith, none));
        found = λ p k. absurd (both_ways (marked R.reached p) (u p) k);
        apart = λ a j _ l. absurd (omega (arith, none));
        tight = λ j l. absurd (omega (arith, none));
        full = λ j l. absurd (omega (arith, none));
        early = λ j l. absurd (omega (arith, none));
        left = λ j l. absurd (omega (arith, none));
        near = λ j l. absurd (omega (arith, none));
        waiting = λ t w. (omega (arith, alone t w), inl (alone t w));
        waited = omega (
          arith,
          ap length e,
          total_at (trainees_in T) (λ t. one (is_reached S R.reached t)) S.newcomer r.next,
          ap one (reached_passes S R.reached S.newcomer (inl refl)),
        );
      }

  pub covered_start : Covered T S R
  covered_start t l (inl a) = inl (subst (λ z. Waits z t) (sym e) (0, omega arith, i ∙ sym a))
  covered_start t l (inr (p, a, k)) = absurd (both_ways (marked R.reached p) (u p) k)

-- the oldest that waits, if there is one, is taken off
pub explored_rest :
    (T : Table) (S : State) (R : Progress) (o : Option Trainee) (q : List Trainee) (s : ℕ) → Explored T S R → oldest_outcome R.queue ≡ (o, q) →
    s ≡ R.spots → Explored T S (with_queue R q s)
explored_rest T S R o q s h e k =
    record {
      size = h.size;
      slots = h.slots;
      spots = omega (arith, k, h.spots);
      known = h.known;
      marks = h.marks;
      found = h.found;
      apart = h.apart;
      tight = h.tight;
      full = h.full;
      early = h.early;
      left = h.left;
      near = h.near;
      waiting = λ t w. h.waiting t (waits_oldest R.queue q o e t w);
      waited = omega (arith, h.waited, length_oldest R.queue q o e);
    }

module _ (T : Table) (S : State) (R : Progress) (x : Trainee) (q : List Trainee) (s : ℕ) (e : R.queue ≡ x ∷ q) where
  pub next_waits : Explored T S R → (x.0 ≤ S.newcomer) × Reached S R.reached x.0
  next_waits h = h.waiting x.0 (subst (λ z. Waits z x.0) (sym e) (0, omega arith, refl))

  -- once its seats were looked at, each who was reached waits or was looked at
  pub covered_next : (R' : Progress) → Covered T S R → Grown T S (with_queue R q s) R' → Closed T S R'.reached x.0 → Covered T S R'
  covered_next R' c g d t l a =
      ⊎_elim
      (λ (b : Reached S R.reached t).
      ⊎_elim
      (λ (w : Waits R.queue t).
      ⊎_elim (λ (i : t ≡ x.0). inr (subst (λ u. Closed T S R'.reached u) (sym i) d)) (λ (v : Waits q t). inl (g.waits t v))
      (waits_first x q t (subst (λ z. Waits z t) e w)))
      (λ (w : Closed T S R.reached t). inr (closed_grown T S (with_queue R q s) R' t g w))
      (c t l b))
      (λ (b : Waits R'.queue t). inl b)
      (g.fresh t l a)

-- nobody waits any more
pub stuck_done : (T : Table) (S : State) (R : Progress) → Covered T S R → R.queue ≡ [] → Stuck T S R.reached
stuck_done T S R c e t l a =
    ⊎_elim (λ (w : Waits R.queue t). absurd (omega (arith, w.1, ap length e))) (λ (w : Closed T S R.reached t). w) (c t l a)

-- who was looked at, choice by choice, is closed
pub closed_choices :
    (T : Table) (S : State) (V : List Bool) (t : ℕ) → GoodRow (practices_in T) (row T t) → ((row T t).none ≡ value S t → ⊥) →
    ((i : ℕ) → i < size (row T t) → Tight T S t (Some (choice T t i)) → marked V (choice T t i) ≡ true) → Closed T S V t
closed_choices T S V t g n h None b = absurd (n (omega (arith, b.exact)))
closed_choices T S V t g n h (Some p) b =
    let i = allowed_choice (practices_in T) (row T t) g p b.allowed in
    subst (λ q. marked V q ≡ true) i.2 (h i.0 i.1 (subst (λ q. Tight T S t (Some q)) (sym i.2) b))
