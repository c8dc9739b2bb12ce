-- What the outcome of a call tells, and how it is made.
use Rattle.std.proofs.Common.{◌≡◌, ℕ, Some, None, Ok, Err, Option, Result, sym, refl, ap, arith}
use Rattle.rules.specs.declared.words.Refusal.{Refusal}
use Rattle.rules.specs.Refusals.{answer_of, outcome}

-- the answer alone
pub outcome_answer : {X : Type 0} (o : Option Refusal) (before changed : X) → (outcome o before changed).0 ≡ answer_of o
outcome_answer None before changed = refl
outcome_answer (Some r) before changed = refl

pub none_from_ok : (o : Option Refusal) → Ok tt ≡ answer_of o → o ≡ None
none_from_ok None h = refl
none_from_ok (Some r) h = let z : ◌≡◌ {A = ℕ} 0 1 = cc in absurd (omega arith)

pub some_from_err : (o : Option Refusal) (r : Refusal) → Err r ≡ answer_of o → o ≡ Some r
some_from_err None r h = let z : ◌≡◌ {A = ℕ} 0 1 = cc in absurd (omega arith)
some_from_err (Some q) r h = let e : r ≡ q = cc in ap Some (sym e)

module _ {X : Type 0} (before changed : X) where
  pub outcome_none : (o : Option Refusal) → o ≡ None → outcome o before changed ≡ (Ok tt, changed)
  outcome_none o h = ap (λ p. outcome p before changed) h

  pub outcome_some : (o : Option Refusal) (r : Refusal) → o ≡ Some r → outcome o before changed ≡ (Err r, before)
  outcome_some o r h = ap (λ p. outcome p before changed) h

  pub accepted : (o : Option Refusal) (x : X) → outcome o before changed ≡ (Ok tt, x) → (o ≡ None) × (changed ≡ x)
  accepted None x h = (refl, ap (λ (y : Result (Unit {0}) Refusal × X). y.1) h)
  accepted (Some r) x h = let e : Err r ≡ Ok tt = ap (λ (y : Result (Unit {0}) Refusal × X). y.0) h in let z : ◌≡◌ {A = ℕ} 0 1 = cc in absurd (omega arith)

  pub rejected : (o : Option Refusal) (r : Refusal) (x : X) → outcome o before changed ≡ (Err r, x) → (o ≡ Some r) × (before ≡ x)
  rejected None r x h = let e : Ok tt ≡ Err r = ap (λ (y : Result (Unit {0}) Refusal × X). y.0) h in let z : ◌≡◌ {A = ℕ} 0 1 = cc in absurd (omega arith)
  rejected (Some q) r x h = let e : Err q ≡ Err r = ap (λ (y : Result (Unit {0}) Refusal × X). y.0) h in let d : q ≡ r = cc in (ap Some d, ap (λ (y : Result (Unit {0}) Refusal × X). y.1) h)

-- what is seen through a function
pub outcome_through : {X Y : Type 0} (f : X → Y) (o : Option Refusal) (before changed at_exit : X) (r : Result (Unit {0}) Refusal) → outcome o before changed ≡ (r, at_exit) → outcome o (f before) (f changed) ≡ (r, f at_exit)
outcome_through f None before changed at_exit r h = ap (λ (y : Result (Unit {0}) Refusal × _). (y.0, f y.1)) h
outcome_through f (Some q) before changed at_exit r h = ap (λ (y : Result (Unit {0}) Refusal × _). (y.0, f y.1)) h
