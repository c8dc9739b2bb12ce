-- A number that is checked, and read behind.
use Rattle.std.proofs.Common.{◌≡◌, ℕ, true, Ok, Err, Option, None, Some, Result, refl}
use Rattle.std.specs.Result.{MatchResult, is_ok}
use Rattle.rules.specs.declared.words.Reason.{Reason}
use Rattle.rules.specs.declared.words.Refusal.{Refusal}
use Rattle.rules.specs.Words.{of_sheet}
use Rattle.rules.specs.Refusals.{answer_of}

-- what a check's error became
pub became : (Made : Reason → Type 0) (r : Result (Unit {0}) Reason) (d : Refusal) (place : ℕ) → MatchResult r (λ x. ◌≡◌ {A = Result (Unit {0}) Refusal} (Err d) (Ok x)) Made → ((e : Reason) → Made e → d ≡ of_sheet e place) → (e : Reason) × (r ≡ Err e) × (d ≡ of_sheet e place)
became Made (Ok x) d place h f = absurd (cc)
became Made (Err e) d place h f = (e, refl, f e h)

-- and what stayed is no error
pub stayed : (r : Result (Unit {0}) Reason) → true ≡ is_ok r → Ok tt ≡ r
stayed (Ok x) h = refl
stayed (Err e) h = absurd (cc)

-- what a check says of its number
pub wrong_some : (o : Option Reason) (e : Reason) → Err e ≡ answer_of o → o ≡ Some e
wrong_some None e h = absurd (cc)
wrong_some (Some f) e h = cc

pub wrong_none : (o : Option Reason) → Ok tt ≡ answer_of o → o ≡ None
wrong_none None h = refl
wrong_none (Some f) h = absurd (cc)
