-- What a round does with what is found.
use Rattle.std.proofs.Common.{◌≡◌, ℕ, ◌<◌, ◌≤◌, min, Bool, true, false, cond, ◌&&◌, leb, ◌⊎◌, is_some, Some, Ok, Err, count_by, Option, Result, sym, refl, ap, ◌∙◌, subst, inl, inr, arith, le-leb}
use Rattle.std.proofs.lemmas.Bool.{cases_lt}
use borrow.Author.Tests.{lt-leb}
use Rattle.rules.specs.declared.words.Refusal.{Refusal}
use Rattle.rules.specs.declared.words.Reason.TheVariants.{WrongLength}
use Rattle.rules.specs.Words.{of_round}
use Rattle.rules.specs.Meaning.{Entries, trainees}
use Rattle.voting.specs.Placements.{Placement, seating}
use Rattle.allotment.specs.declared.found.Found.{Found}
use Rattle.allotment.specs.Calls.{enough, Finds, Verdict}
use Rattle.round.specs.Account.{allots}
use Rattle.round.specs.Steps.{State, on_verdict, Allots, given}
use Rattle.round.specs.Telling.{GoesOn}
use Rattle.round.proofs.Going.{goes_on}
use Rattle.round.proofs.Counting.{taken}

-- nothing is found where there are too few slots
pub enough_found : (e : Entries) (w k : ℕ) (f : Found) → Finds e w k (Ok f) → enough e w k ≡ true
enough_found e w k f h = by (enough e w k) refl
  where
    by : (b : Bool) → enough e w k ≡ b → enough e w k ≡ true
    by true q = q
    by false q = let p = h.few q in let z : ◌≡◌ {A = ℕ} 0 1 = cc in absurd (let v : ⊥ = omega arith in v)

-- the number found is that of the seats taken
pub found_counted : (e : Entries) (w k : ℕ) (f : Found) → Finds e w k (Ok f) → f.seated ≡ count_by is_some f.seats
found_counted e w k f h = let d = h.decided (enough_found e w k f h) in d.1 ∙ sym (taken (trainees e) f.seats d.2)

pub found_stands : (s : State) (w k : ℕ) (f : Found) → Finds s.meaning.entries w k (Ok f) →
    Allots s w k (Ok f.seated) (record { meaning = s.meaning; placement = Some (seating f.seats) })
found_stands s w k f h =
    let q = enough_found s.meaning.entries w k f h in
    let d = h.decided q in
    (Some (seating f.seats), λ _. d.0, rw q (ap (λ n. (Ok n, record { meaning = s.meaning; placement = Some (seating f.seats) })) (sym d.1)))

leb_most : (n w : ℕ) → n ≤ 400 → leb n (min w 400) ≡ leb n w
leb_most n w h = by (cases_lt w n)
  where
    by : (w < n) ⊎ (n ≤ w) → leb n (min w 400) ≡ leb n w
    by (inl l) = rw (lt-leb n (min w 400) (omega arith), lt-leb n w l)
    by (inr l) = rw (le-leb n (min w 400) (omega arith), le-leb n w l)

-- no roll needs more than 400 slots
pub enough_most : (e : Entries) (w k : ℕ) → trainees e ≤ 400 → enough e (min w 400) (min k 400) ≡ enough e w k
enough_most e w k h = ap (λ b. b && leb (trainees e) (min k 400)) (leb_most (trainees e) w h) ∙ ap (λ b. leb (trainees e) w && b) (leb_most (trainees e) k h)

-- and with them allot does what it does with more
most_slots : (s s' : State) (w k w₁ k₁ : ℕ) (a : Result ℕ Refusal) → trainees s.meaning.entries ≤ 400 → Allots s w₁ k₁ a s' → w₁ ≡ min w 400 → k₁ ≡ min k 400 → Allots s w k a s'
most_slots s s' w k w₁ k₁ a l h p q =
    let same : enough s.meaning.entries w₁ k₁ ≡ enough s.meaning.entries w k = rw (p, q) (enough_most s.meaning.entries w k l) in
    subst (λ b. (v : Option Placement) × (b ≡ true → Verdict s.meaning.entries v) × (cond b (on_verdict s v) (Err (of_round WrongLength (trainees s.meaning.entries)), s) ≡ (a, s'))) same h

pub goes_on_most : (s s' : State) (w k w₁ k₁ : ℕ) (a : Result ℕ Refusal) → trainees s.meaning.entries ≤ 400 → Allots s w₁ k₁ a s' → w₁ ≡ min w 400 → k₁ ≡ min k 400 → GoesOn s (allots w k (given a s')) s'
goes_on_most s s' w k w₁ k₁ a l h p q = goes_on s (allots w k (given a s')) s' (a, most_slots s s' w k w₁ k₁ a l h p q, refl)
