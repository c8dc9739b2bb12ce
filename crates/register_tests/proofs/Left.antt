-- What a list entered in a register just opened leaves in the memory.
use Rattle.std.proofs.Common.{◌≡◌, ℕ, List, Result, sym, refl, ap, ◌∙◌}
use Rattle.rules.specs.declared.words.Refusal.{Refusal}
use Rattle.rules.specs.Meaning.{Entries, Meaning, with_list}
use Rattle.rules.specs.Refusals.{entry_refusal, enter_outcome, outcome}
use Rattle.register_tests.specs.After.{after}
use Rattle.rules.proofs.Outcomes.{outcome_through}

-- a call that leaves memory as its entries say, over memory that the opening left as its own say
pub left : {X : Type 0} (holding : Entries → List X → List X) (m n x : Meaning) (memory opened then : List X) (t : ℕ) (list : List ℕ) (r : Result (Unit {0}) Refusal)
    → (((e f : Entries) → f ≡ e → holding f (holding e memory) ≡ holding f memory) × (holding (with_list n t list).entries (holding n.entries memory) ≡ holding (with_list n t list).entries memory))
    → m ≡ n → opened ≡ holding m.entries memory → enter_outcome m t list ≡ (r, x) → then ≡ holding x.entries opened
    → after holding n memory t list ≡ (r, then)
left {X} holding m n x memory opened then t list r again same first enters last =
    let e : opened ≡ holding n.entries memory = first ∙ ap (λ (y : Meaning). holding y.entries memory) same in
    let h : enter_outcome n t list ≡ (r, x) = ap (λ (y : Meaning). enter_outcome y t list) (sym same) ∙ enters in
    ap (λ (y : List X). outcome (entry_refusal n t list) y (holding (with_list n t list).entries memory)) (sym (again.0 n.entries n.entries refl))
    ∙ ap (λ (y : List X). outcome (entry_refusal n t list) (holding n.entries (holding n.entries memory)) y) (sym again.1)
    ∙ outcome_through (λ (y : Meaning). holding y.entries (holding n.entries memory)) (entry_refusal n t list) n (with_list n t list) x r h
    ∙ ap (λ (y : List X). (r, y)) (ap (λ (y : List X). holding x.entries y) (sym e) ∙ sym last)
