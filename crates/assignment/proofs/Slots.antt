-- Whether there are slots enough, and what `place` answers then.
use Rattle.std.proofs.Common.{◌≡◌, ℕ, ◌<◌, ◌≤◌, Bool, true, false, ◌&&◌, leb, ◌⊎◌, Ok, Err, sym, refl, ap, ◌∙◌, subst, inl, inr, arith}
use Rattle.std.proofs.lemmas.Bool.{le-leb, lt-leb}
use Rattle.rules.specs.declared.words.Reason.TheVariants.{WrongLength}
use Rattle.rules.specs.Words.{of_round}
use Rattle.rules.specs.Meaning.{trainees}
use Rattle.assignment.specs.declared.placed.Placed.{Placed}
use Rattle.assignment.specs.declared.table.Table.{Table}
use Rattle.assignment.specs.Placing.{enough, Best, Answer}
use Rattle.assignment.specs.States.{trainees_in}
use Rattle.assignment.specs.Tables.{entries}
use Rattle.assignment.proofs.Tables.{trainees_are}

module _ (T : Table) (waiting moves : ℕ) where
  pub enough_yes : trainees_in T ≤ waiting → trainees_in T ≤ moves → enough T waiting moves ≡ true
  enough_yes l k =
      ap (λ b. b && leb (trainees (entries T)) moves) (le-leb (trainees (entries T)) waiting (omega (arith, trainees_are T))) ∙
      le-leb (trainees (entries T)) moves (omega (arith, trainees_are T))

  pub enough_no : (waiting < trainees_in T) ⊎ (moves < trainees_in T) → enough T waiting moves ≡ false
  enough_no (inl l) = ap (λ b. b && leb (trainees (entries T)) moves) (lt-leb (trainees (entries T)) waiting (omega (arith, trainees_are T)))
  enough_no (inr l) = go (leb (trainees (entries T)) waiting)
    where
      few : leb (trainees (entries T)) moves ≡ false
      few = lt-leb (trainees (entries T)) moves (omega (arith, trainees_are T))

      go : (b : Bool) → (b && leb (trainees (entries T)) moves) ≡ false
      go true = few
      go false = refl

  pub answer_yes : (f : Placed) → trainees_in T ≤ waiting → trainees_in T ≤ moves → Best T f → Answer T (enough T waiting moves) (Ok f)
  answer_yes f l k b = subst (λ e. Answer T e (Ok f)) (sym (enough_yes l k)) (f, refl, b)

  pub answer_no : (waiting < trainees_in T) ⊎ (moves < trainees_in T) → Answer T (enough T waiting moves) (Err (of_round WrongLength (trainees_in T)))
  answer_no l = subst (λ e. Answer T e (Err (of_round WrongLength (trainees_in T)))) (sym (enough_no l)) (ap (λ n. Err (of_round WrongLength n)) (sym (trainees_are T)))
