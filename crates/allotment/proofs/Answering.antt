-- What the engine answers, and what the calls answer then.
use Rattle.std.proofs.Common.{◌≡◌, ℕ, ◌≤◌, Bool, true, false, ◌&&◌, eqb, leb, List, length, Some, None, Ok, Err, Option, Result, sym, refl, ap, ◌∙◌, subst, ap₂, ⊎_elim}
use Rattle.std.proofs.lemmas.Bool.{both_ways, cond-true, cond-false, and_from, and_cases, le-leb}
use Rattle.rules.specs.declared.words.Refusal.{Refusal}
use Rattle.rules.specs.declared.words.Reason.TheVariants.{WrongLength}
use Rattle.rules.specs.Words.{of_round}
use Rattle.rules.specs.Meaning.{Entries, trainees}
use Rattle.voting.specs.Placements.{Placement, seating}
use Rattle.assignment.specs.declared.table.Table.{Table}
use Rattle.assignment.specs.declared.placed.Placed.{Placed}
use Rattle.assignment.specs.Placing.{Best, Answer}
use Rattle.allotment.specs.declared.found.Found.{Found}
use Rattle.allotment.specs.Bytes.{offered_by, written}
use Rattle.allotment.specs.Calls.{enough, Decided, Finds, Verdict, told, roomy, allot_outcome, first_unfit, not_feasible, challenge_refusal, challenge_answer, challenge_outcome, Rival}

pub answer_ok : (T : Table) (b : Bool) (r : Result Placed Refusal) (p : Placed) → Answer T b r → r ≡ Ok p → (b ≡ true) × Best T p
answer_ok T true r p a e = let k : a.0 ≡ p = cc a.1 in (refl, subst (Best T) k a.2)
answer_ok T false r p a e = absurd cc

-- what allot answers, and what its buffer holds then
abbrev pub Allots : Entries → ℕ → ℕ → List ℕ → Result ℕ Refusal → List ℕ → Type 0
Allots e w m B r B' =
    (v : Option Placement) × (roomy e w m B ≡ true → Verdict e v) × (allot_outcome e w m B v ≡ (r, B'))

-- find refuses
pub allots_refused :
    (e : Entries) (w m : ℕ) (B : List ℕ) (x : Refusal) → trainees e ≤ length B → Finds e w m (Err x) → Allots e w m B (Err x) B
allots_refused e w m B x l f = go (enough e w m) refl
  where
    go : (b : Bool) → enough e w m ≡ b → Allots e w m B (Err x) B
    go true k =
        let d = f.decided k in
        let room : roomy e w m B ≡ true = and_from (enough e w m) (leb (trainees e) (length B)) k (le-leb (trainees e) (length B) l) in (
          None,
          λ _. d.0,
          cond-true (roomy e w m B) (told e B None) (Err (of_round WrongLength (trainees e)), B) room ∙ ap (λ y. (Err y, B)) (sym d.1),
        )
    go false k =
        let i : x ≡ of_round WrongLength (trainees e) = cc (f.few k) in
        let none : roomy e w m B ≡ false = rw k refl in (
          None,
          λ h. absurd (both_ways (roomy e w m B) none h),
          cond-false (roomy e w m B) (told e B None) (Err (of_round WrongLength (trainees e)), B) none ∙ ap (λ y. (Err y, B)) (sym i),
        )

-- find found
pub found_decided : (e : Entries) (w m : ℕ) (p : Found) → Finds e w m (Ok p) → (enough e w m ≡ true) × Decided e (Ok p)
found_decided e w m p f = go (enough e w m) refl
  where
    go : (b : Bool) → enough e w m ≡ b → (enough e w m ≡ true) × Decided e (Ok p)
    go true k = (k, f.decided k)
    go false k = absurd (cc (f.few k))

pub allots_found :
    (e : Entries) (w m : ℕ) (B B' : List ℕ) (p : Found) → trainees e ≤ length B → Finds e w m (Ok p) →
    B' ≡ written (trainees e) (seating p.seats) B → Allots e w m B (Ok p.seated) B'
allots_found e w m B B' p l f i =
    let d = found_decided e w m p f in
    let room : roomy e w m B ≡ true = and_from (enough e w m) (leb (trainees e) (length B)) d.0 (le-leb (trainees e) (length B) l) in (
      Some (seating p.seats),
      λ _. d.1.0,
      cond-true (roomy e w m B) (told e B (Some (seating p.seats))) (Err (of_round WrongLength (trainees e)), B) room ∙
          ap₂ (λ (y : ℕ) (z : List ℕ). (Ok y, z)) (sym d.1.1) (sym i),
    )

-- slots are as they were where the call is refused for want of room
pub cramped_slots :
    (e : Entries) (w m : ℕ) (B : List ℕ) → trainees e ≤ length B → roomy e w m B ≡ false → enough e w m ≡ false
cramped_slots e w m B l k =
    ⊎_elim (λ (i : enough e w m ≡ false). i)
    (λ (i : leb (trainees e) (length B) ≡ false). absurd (both_ways (leb (trainees e) (length B)) i (le-leb (trainees e) (length B) l)))
    (and_cases (enough e w m) (leb (trainees e) (length B)) k)

-- what challenge answers, and what its buffer holds then
abbrev pub Challenges : Entries → List ℕ → List ℕ → Result ℕ Refusal → List ℕ → Type 0
Challenges e offered B r B' =
    (k : ℕ) × (N : Placement) × Rival e offered (length B) k N × (challenge_outcome e offered B k N ≡ (r, B'))

refused :
    (e : Entries) (offered B : List ℕ) (x : Refusal) → challenge_refusal e offered (length B) ≡ Some x → Challenges e offered B (Err x) B
refused e offered B x i =
    (0, λ t. None, λ h. absurd cc, ap (λ o. challenge_answer o e B 0 (λ t. None)) i)

-- the lengths
pub challenges_short :
    (e : Entries) (offered B : List ℕ) (x : Refusal) → (eqb (length offered) (trainees e) && leb (trainees e) (length B)) ≡ false →
    x ≡ of_round WrongLength (trainees e) → Challenges e offered B (Err x) B
challenges_short e offered B x k i =
    refused e offered B x
    (cond-false (eqb (length offered) (trainees e) && leb (trainees e) (length B)) (not_feasible (first_unfit e (offered_by offered) (trainees e))) (Some (of_round WrongLength (trainees e))) k ∙ ap Some (sym i))

module _ (e : Entries) (offered B : List ℕ) (fit : (eqb (length offered) (trainees e) && leb (trainees e) (length B)) ≡ true) where
  refusal : challenge_refusal e offered (length B) ≡ not_feasible (first_unfit e (offered_by offered) (trainees e))
  refusal = cond-true _ _ _ fit

  -- the first seat that does not fit
  pub challenges_unfit : (x : Refusal) → not_feasible (first_unfit e (offered_by offered) (trainees e)) ≡ Some x → Challenges e offered B (Err x) B
  challenges_unfit x u = refused e offered B x (refusal ∙ u)

-- where nothing is refused all seats fit
pub none_unfit : (o : Option ℕ) → not_feasible o ≡ None → o ≡ None
none_unfit None h = refl
none_unfit (Some t) h = absurd cc
