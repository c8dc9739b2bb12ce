-- What seats lack to be tight.
use Rattle.std.proofs.Common.{◌≡◌, ℕ, ◌+◌, ◌<◌, ◌≤◌, Bool, false, List, Some, None, sym, refl, ap, ◌∙◌, subst, ⊎_elim, arith}
use Rattle.std.proofs.lemmas.Bool.{cases_lt, both_ways}
use Rattle.std.proofs.lemmas.List.{get_or_past}
use Rattle.assignment.specs.declared.row.Choice.{Choice}
use Rattle.assignment.specs.Progress.{IsChoice}
use Rattle.voting.specs.Placements.{Allowed}
use Rattle.assignment.specs.declared.table.Table.{Table}
use Rattle.assignment.specs.declared.state.State.{State}
use Rattle.assignment.specs.Raises.{Spare, SpareChoices}
use Rattle.assignment.specs.Rows.{no_row, size, weight_of, list, weigh}
use Rattle.assignment.specs.Searches.{marked, inside, Closed}
use Rattle.assignment.specs.States.{trainees_in, practices_in, row, choice, value, price, Ready, Tight}
use Rattle.assignment.proofs.Lists.{choice_allowed, choice_weight, allowed_choice}

module _ (T : Table) (S : State) (t : ℕ) (r : Ready T S) (k : t < trainees_in T) where
  pub choice_priced : (i : ℕ) → i < size (row T t) → weight_of (row T t) i ≤ value S t + price S (choice T t i)
  choice_priced i l =
      let g = T.stands t k in
      omega (
        arith,
        choice_weight (practices_in T) (row T t) g i l,
        r.sound.priced t (Some (choice T t i)) k (choice_allowed (practices_in T) (row T t) g i l),
      )

  pub none_priced : (row T t).none ≤ value S t
  none_priced = omega (arith, r.sound.priced t None k tt)

  module _ (V : List Bool) (c : Closed T S V t) where
    pub none_lacks : (row T t).none < value S t
    none_lacks =
        ⊎_elim (λ (h : (row T t).none < value S t). h)
        (λ (h : value S t ≤ (row T t).none).
        absurd (both_ways (inside V None) refl (c None (record { allowed = tt; exact = omega (arith, none_priced) }))))
        (cases_lt (row T t).none (value S t))

    pub choice_lacks : (i : ℕ) → i < size (row T t) → marked V (choice T t i) ≡ false → weight_of (row T t) i < value S t + price S (choice T t i)
    choice_lacks i l out =
        let g = T.stands t k in
        ⊎_elim (λ (h : weight_of (row T t) i < value S t + price S (choice T t i)). h)
        (λ (h : value S t + price S (choice T t i) ≤ weight_of (row T t) i).
        absurd (both_ways (marked V (choice T t i)) out
        (c (Some (choice T t i)) (record { allowed = choice_allowed (practices_in T) (row T t) g i l; exact = omega (arith, choice_priced i l, choice_weight (practices_in T) (row T t) g i l) }))))
        (cases_lt (weight_of (row T t) i) (value S t + price S (choice T t i)))

  pub spare_choices : (V : List Bool) (d : ℕ) → (row T t).none + d ≤ value S t → SpareChoices T S V t d (size (row T t)) → Spare T S V t d
  spare_choices V d n h None a out = omega arith
  spare_choices V d n h (Some p) a out =
      let g = T.stands t k in
      let i = allowed_choice (practices_in T) (row T t) g p a in
      subst (λ q. weigh (row T t) (Some q) + d ≤ value S t + price S q) i.2
      (omega (arith, h i.0 i.1 (subst (λ q. marked V q ≡ false) (sym i.2) out), choice_weight (practices_in T) (row T t) g i.0 i.1))

-- the same of a choice that stands on the row
module _ (T : Table) (S : State) (t : ℕ) (c : Choice) (h : IsChoice T t c) where
  pub choice_row : t < trainees_in T
  choice_row =
      ⊎_elim (λ (l : t < trainees_in T). l)
      (λ (l : trainees_in T ≤ t). absurd (omega (arith, h.1, ap size (get_or_past T.rows.items t no_row l))))
      (cases_lt t (trainees_in T))

  pub choice_small : c.practice.0 < practices_in T
  choice_small = let g = T.stands t choice_row in subst (λ (x : Choice). x.practice.0 < practices_in T) h.2 (g.known h.0 h.1)

  pub gap_priced : Ready T S → c.weight ≤ value S t + price S c.practice.0
  gap_priced r = subst (λ (x : Choice). x.weight ≤ value S t + price S x.practice.0) h.2 (choice_priced T S t r choice_row h.0 h.1)

  weighs : weigh (row T t) (Some c.practice.0) ≡ c.weight
  weighs = let g = T.stands t choice_row in subst (λ (x : Choice). weigh (row T t) (Some x.practice.0) ≡ x.weight) h.2 (choice_weight (practices_in T) (row T t) g h.0 h.1)

  -- it is tight just where it lacks nothing
  pub gap_tight : c.weight ≡ value S t + price S c.practice.0 → Tight T S t (Some c.practice.0)
  gap_tight e =
      let g = T.stands t choice_row in
      record {
        allowed = subst (λ (x : Choice). Allowed (list (row T t)) (Some x.practice.0)) h.2 (choice_allowed (practices_in T) (row T t) g h.0 h.1);
        exact = weighs ∙ e;
      }

  pub tight_gap : Tight T S t (Some c.practice.0) → c.weight ≡ value S t + price S c.practice.0
  tight_gap b = sym weighs ∙ b.exact

-- who can spare so much can spare less
pub spare_less : (T : Table) (S : State) (t : ℕ) (V : List Bool) (d e : ℕ) → e ≤ d → Spare T S V t d → Spare T S V t e
spare_less T S t V d e l h s a out = omega (arith, h s a out)

pub spare_choices_less : (T : Table) (S : State) (V : List Bool) (t d e i : ℕ) → e ≤ d → SpareChoices T S V t d i → SpareChoices T S V t e i
spare_choices_less T S V t d e i l h j k out = omega (arith, h j k out)
