-- The seats given, as bytes.
use Rattle.std.proofs.Common.{◌≡◌, ℕ, ◌<◌, ◌≤◌, true, ◌⊎◌, Some, None, Ok, sym, refl, ap, ◌∙◌, subst, inl, inr, arith}
use Rattle.std.proofs.lemmas.Bool.{cases_lt}
use Rattle.rules.specs.Meaning.{Entries, Lawful, trainees, list_of}
use Rattle.rules.specs.Questions.{position, listed}
use Rattle.rules.proofs.Positions.{listed_at}
use Rattle.voting.specs.Placements.{Placement, Allowed}
use Rattle.voting.specs.Votes.{Fullest}
use Rattle.round.specs.Steps.{State, answered, seats_told, Allots}
use Rattle.round.specs.Making.{Narrow}
use Rattle.round.proofs.Going.{ended, told, to_stranger}

-- a practice on a list is one of the practices
offered : (e : Entries) → Lawful e → (t p : ℕ) → t < trainees e → listed (list_of e t) p ≡ true → p < 256
offered e law t p l h =
    let at = listed_at (list_of e t) p h in
    let b = (law.lists_strict t l).below (position (list_of e t) p) at.0 in
    omega (arith, at.1, law.few_practices)

pub narrow : (s s' : State) (w k n : ℕ) → Lawful s.meaning.entries → Allots s w k (Ok n) s' → Narrow (seats_told s')
narrow s s' w k n law h = ended (λ r s'. r ≡ Ok n → Narrow (seats_told s')) s w k (Ok n) s' h (λ q z. absurd (cc)) (λ q b z. absurd (cc)) (λ M q f z. gives M f) refl
  where
    gives : (M : Placement) → Fullest s.meaning.entries M → Narrow (seats_told (record { meaning = s.meaning; placement = Some M }))
    gives M f t p m = on (cases_lt t (trainees s.meaning.entries))
      where
        s₁ : State
        s₁ = record { meaning = s.meaning; placement = Some M }

        on : (t < trainees s.meaning.entries) ⊎ (trainees s.meaning.entries ≤ t) → p < 256
        on (inl l) = offered s.meaning.entries law t p l (subst (Allowed (list_of s.meaning.entries t)) (told s₁ t M refl l ∙ m) (f.unbeaten.feasible.allowed t l))
        on (inr l) = let none : None ≡ Some p = sym (ap answered (to_stranger s₁ t l)) ∙ m in absurd (cc)
