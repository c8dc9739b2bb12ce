-- With all trainees placed no feasible placement weighs more.
use Rattle.std.proofs.Common.{◌≡◌, ℕ, ◌<◌, ◌≤◌, Some, None, sym, refl, ap, ◌∙◌, subst, ⊎_elim, arith}
use Rattle.std.proofs.Math.Path.{fun_ext}
use Rattle.std.proofs.lemmas.Bool.{cases_lt, ne_eqb}
use Rattle.rules.specs.Meaning.{places_of}
use Rattle.voting.specs.Placements.{Seat, Allowed, seating, sits, seated_at, Feasible}
use Rattle.voting.specs.Totals.{one}
use Rattle.voting.specs.Weights.{Heaviest}
use Rattle.voting.proofs.Certificate.{Priced, Tight, heaviest_by_prices}
use Rattle.voting.proofs.Totals.{total_none}
use Rattle.assignment.specs.declared.table.Table.{Table}
use Rattle.assignment.specs.declared.state.State.{State}
use Rattle.assignment.specs.declared.placed.Placed.{Placed}
use Rattle.assignment.specs.Placing.{Best}
use Rattle.assignment.specs.Rows.{list}
use Rattle.assignment.specs.States.{trainees_in, practices_in, row, value, price, seat_of, Sound}
use Rattle.assignment.specs.Tables.{entries, weights}
use Rattle.assignment.proofs.Lists.{allowed_known}
use Rattle.assignment.proofs.Tables.{trainees_are, list_is}

module _ (T : Table) where
  off : (p : ℕ) → practices_in T ≤ p → (t : ℕ) → t < trainees_in T → (s : Seat) → Allowed (list (row T t)) s → one (sits s p) ≡ 0
  off p l t k None a = refl
  off p l t k (Some q) a = ap one (ne_eqb q p (omega (arith, allowed_known (practices_in T) (row T t) (T.stands t k) q a)))

  module _ (S : State) (s : Sound T S) (all : S.newcomer ≡ trainees_in T) where
    fits : (p : ℕ) → seated_at (trainees_in T) (seat_of S) p ≤ places_of (entries T) p
    fits p =
        ⊎_elim (λ (l : p < practices_in T). omega (arith, s.counted p l, s.fits p l))
        (λ (l : practices_in T ≤ p).
        omega (arith, total_none (trainees_in T) (λ t. one (sits (seat_of S t) p)) (λ t k. off p l t k (seat_of S t) (s.allowed t (omega arith)))))
        (cases_lt p (practices_in T))

    feasible : Feasible (entries T) (seat_of S)
    feasible =
        record {
          allowed = λ t l.
              let k : t < trainees_in T = omega (arith, trainees_are T) in
              subst (λ x. Allowed x (seat_of S t)) (sym (list_is T t k)) (s.allowed t (omega arith));
          fits = λ p. subst (λ n. seated_at n (seat_of S) p ≤ places_of (entries T) p) (sym (trainees_are T)) (fits p);
        }

    priced : Priced (entries T) (weights T) (value S) (price S)
    priced =
        record {
          pays = λ t x l a.
              let k : t < trainees_in T = omega (arith, trainees_are T) in
              s.priced t x k (subst (λ y. Allowed y x) (list_is T t k) a);
        }

    tight : Tight (entries T) (weights T) (value S) (price S) (seat_of S)
    tight =
        record {
          exact = λ t l. s.tight t (omega (arith, trainees_are T));
          full = λ p z.
              let f = s.full p z in
              ap (λ n. seated_at n (seat_of S) p) (trainees_are T) ∙ sym (s.counted p f.0) ∙ f.1;
        }

    pub best : (f : Placed) → ((t : ℕ) → seating f.seats t ≡ seat_of S t) → Best T f
    best f e =
        record {
          heaviest = subst (λ M. Heaviest (entries T) (weights T) M) (sym (fun_ext e))
              (heaviest_by_prices (entries T) (weights T) (value S) (price S) (seat_of S) priced feasible tight);
          rest = λ t l. e t ∙ s.later t (omega (arith, trainees_are T));
        }
