-- Who waits, as the queue grows and shrinks.
use Rattle.std.proofs.Common.{◌≡◌, ℕ, zero, suc, ◌+◌, ◌<◌, ◌≤◌, true, false, ◌⊎◌, List, [], ◌∷◌, ◌++◌, length, Some, Option, sym, refl, ap, ◌∙◌, subst, inl, inr, ⊎_elim, arith}
use Rattle.std.proofs.lemmas.List.{length_push, get_or_push, get_or_append_left}
use Rattle.std.proofs.lemmas.Bool.{cases_eq, cases_lt, both_ways}
use Rattle.rules.specs.declared.words.Trainee.{Trainee}
use Rattle.voting.specs.Placements.{sits}
use Rattle.voting.specs.Totals.{one}
use Rattle.voting.proofs.Ranks.{sits_some}
use Rattle.worklist.specs.Outcomes.{oldest_outcome}
use Rattle.assignment.specs.declared.state.State.{State}
use Rattle.assignment.specs.Searches.{no_trainee, Waits, Queued}
use Rattle.assignment.specs.States.{seat_of}
use Rattle.assignment.proofs.Counts.{many_more, some_sits}

pub waits_kept : (q : List Trainee) (x : Trainee) (t : ℕ) → Waits q t → Waits (q ++ x ∷ []) t
waits_kept q x t (j, l, e) =
    (j, omega (arith, length_push q x), ap (λ (y : Trainee). y.0) (get_or_append_left q (x ∷ []) no_trainee j l) ∙ e)

pub waits_last : (q : List Trainee) (x : Trainee) → Waits (q ++ x ∷ []) x.0
waits_last q x = (length q, omega (arith, length_push q x), ap (λ (y : Trainee). y.0) (get_or_push q x no_trainee (length q) refl))

pub waits_push : (q : List Trainee) (x : Trainee) (t : ℕ) → Waits (q ++ x ∷ []) t → Waits q t ⊎ (t ≡ x.0)
waits_push q x t (j, l, e) =
    ⊎_elim (λ (h : j < length q). inl (j, h, ap (λ (y : Trainee). y.0) (sym (get_or_append_left q (x ∷ []) no_trainee j h)) ∙ e))
    (λ (h : length q ≤ j).
    let here : length q ≡ j = omega (arith, length_push q x) in
    inr (sym e ∙ ap (λ (y : Trainee). y.0) (get_or_push q x no_trainee j here)))
    (cases_lt j (length q))

pub waits_rest : (x : Trainee) (q : List Trainee) (t : ℕ) → Waits q t → Waits (x ∷ q) t
waits_rest x q t (j, l, e) = (suc j, omega arith, e)

pub waits_first : (x : Trainee) (q : List Trainee) (t : ℕ) → Waits (x ∷ q) t → (t ≡ x.0) ⊎ Waits q t
waits_first x q t (zero, l, e) = inl (sym e)
waits_first x q t (suc j, l, e) = inr (j, omega arith, e)

-- what is left once the oldest was taken off
pub waits_oldest : (q r : List Trainee) (o : Option Trainee) → oldest_outcome q ≡ (o, r) → (t : ℕ) → Waits r t → Waits q t
waits_oldest [] r o e t w = let k : [] ≡ r = ap (λ z. z.1) e in subst (λ z. Waits z t) (sym k) w
waits_oldest (x ∷ xs) r o e t w = let k : xs ≡ r = ap (λ z. z.1) e in waits_rest x xs t (subst (λ z. Waits z t) (sym k) w)

pub length_oldest : (q r : List Trainee) (o : Option Trainee) → oldest_outcome q ≡ (o, r) → length r ≤ length q
length_oldest [] r o e = let k : [] ≡ r = ap (λ z. z.1) e in omega (arith, ap length k)
length_oldest (x ∷ xs) r o e = let k : xs ≡ r = ap (λ z. z.1) e in omega (arith, ap length k)

-- one trainee after another
module _ (S : State) (k p : ℕ) (old new : List Trainee) (h : Queued S k p old new) where
  pub queued_skip : sits (seat_of S k) p ≡ false → Queued S (k + 1) p old new
  queued_skip off =
      record {
        size = omega (arith, h.size, many_more k (λ t. sits (seat_of S t) p), ap one off);
        kept = h.kept;
        all = λ t l e.
            ⊎_elim (λ (i : t ≡ k). absurd (both_ways (sits (seat_of S k) p) off (some_sits (seat_of S k) p (ap (seat_of S) (sym i) ∙ e))))
            (λ (i : t ≡ k → ⊥). h.all t (omega arith) e) (cases_eq t k);
        only = λ t w. ⊎_elim (λ a. inl a) (λ (a : (t < k) × (seat_of S t ≡ Some p)). inr (omega (arith, a.0), a.1)) (h.only t w);
      }

  pub queued_more : (x : Trainee) (new' : List Trainee) → sits (seat_of S k) p ≡ true → x.0 ≡ k → new' ≡ new ++ x ∷ [] → Queued S (k + 1) p old new'
  queued_more x new' on i e =
      record {
        size = omega (arith, h.size, many_more k (λ t. sits (seat_of S t) p), ap one on, ap length e, length_push new x);
        kept = λ t w. subst (λ q. Waits q t) (sym e) (waits_kept new x t (h.kept t w));
        all = λ t l a.
            ⊎_elim (λ (c : t ≡ k). subst (λ q. Waits q t) (sym e) (subst (λ u. Waits (new ++ x ∷ []) u) (i ∙ sym c) (waits_last new x)))
            (λ (c : t ≡ k → ⊥). subst (λ q. Waits q t) (sym e) (waits_kept new x t (h.all t (omega arith) a))) (cases_eq t k);
        only = λ t w.
            ⊎_elim
            (λ (a : Waits new t).
            ⊎_elim (λ b. inl b) (λ (b : (t < k) × (seat_of S t ≡ Some p)). inr (omega (arith, b.0), b.1)) (h.only t a))
            (λ (a : t ≡ x.0). inr (omega (arith, a, i), ap (seat_of S) (a ∙ i) ∙ sits_some (seat_of S k) p on))
            (waits_push new x t (subst (λ q. Waits q t) e w));
      }

-- before the first trainee
pub queued_none : (S : State) (p : ℕ) (q : List Trainee) → Queued S 0 p q q
queued_none S p q = record { size = omega arith; kept = λ t w. w; all = λ t l. absurd (omega arith); only = λ t w. inl w }
