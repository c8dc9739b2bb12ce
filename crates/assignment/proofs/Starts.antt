-- The state at first.
use Rattle.std.proofs.Common.{◌≡◌, ℕ, ◌<◌, ◌≤◌, get_or, replicate, sym, ap, ◌∙◌, ⊎_elim, arith}
use Rattle.std.proofs.lemmas.List.{get_or-replicate, get_or_past, length-replicate}
use Rattle.std.proofs.lemmas.Bool.{cases_lt}
use Rattle.voting.specs.Placements.{sits}
use Rattle.voting.specs.Totals.{one}
use Rattle.voting.proofs.Totals.{total_none}
use Rattle.assignment.specs.declared.table.Table.{Table}
use Rattle.assignment.specs.declared.state.State.{State}
use Rattle.assignment.specs.States.{trainees_in, practices_in, row, seat_of, Sound}
use Rattle.assignment.specs.Steps.{Vacant}
use Rattle.assignment.proofs.Lists.{weigh_le}

pub get_or_all : {X : Type 0} (n p : ℕ) (a : X) → get_or (replicate n a) p a ≡ a
get_or_all n p a =
    ⊎_elim (λ (h : p < n). get_or-replicate n p a a h)
    (λ (h : n ≤ p). get_or_past (replicate n a) p a (omega (arith, length-replicate n a)))
    (cases_lt p n)

pub sound_vacant : (T : Table) (S : State) → Vacant S → Sound T S
sound_vacant T S v =
    record {
      priced = λ t s k a. omega (arith, weigh_le (practices_in T) (row T t) (T.stands t k) s a, v.values t (omega (arith, T.few)));
      allowed = λ t l. absurd (omega (arith, v.newcomer));
      tight = λ t l. absurd (omega (arith, v.newcomer));
      later = λ t l. v.seats t;
      counted = λ p l. v.counts p ∙ sym (total_none (trainees_in T) (λ t. one (sits (seat_of S t) p)) (λ t _. ap (λ s. one (sits s p)) (v.seats t)));
      fits = λ p l. omega (arith, v.counts p);
      full = λ p z. absurd (omega (arith, v.prices p));
      cheap = λ p. omega (arith, v.prices p);
      modest = v.modest;
    }
