-- What the tests of the reader say in words.
use Rattle.std.proofs.Common.{◌≡◌, ℕ, zero, suc, ◌<◌, ◌≤◌, Bool, true, false, cond, eqb, ltb, leb, ◌⊎◌, List, [], ◌∷◌, ◌++◌, length, get_or, take, Some, None, sym, refl, ◌∙◌, inl, inr, arith}
use Rattle.std.proofs.lemmas.Bool.{leb-true, ltb-true, eqb-true, le-leb, lt-ltb, eq-eqb}
use Rattle.std.proofs.lemmas.List.{append_assoc, append-nil, get_or-take, length-take-le}
use Rattle.rules.specs.declared.words.Reason.{Reason}
use Rattle.rules.specs.declared.words.Reason.TheVariants.{CountOutOfBounds, PracticeNotOffered}
use Rattle.rules.specs.Meaning.{Strict}
use Rattle.rules.specs.Questions.{listed}
use Rattle.rules.specs.Refusals.{off_places}
use Rattle.rules.proofs.Positions.{not_listed, unlisted}
use Rattle.rules.proofs.Checking.{passed, passed_not}
use Rattle.sheet.specs.Reading.{above, off_choice, off_count, off_filed}
use Rattle.sheet.proofs.Readers.{Each}
use Rattle.sheet.proofs.Lists.{Apart, FineList}

pub each_at : {X : Type 0} (P : X → Type 0) (d : X) (xs : List X) → Each P xs → (k : ℕ) → k < length xs → P (get_or xs k d)
each_at P d [] h k l = absurd (omega arith)
each_at P d (x ∷ xs) h zero l = h.0
each_at P d (x ∷ xs) h (suc k) l = each_at P d xs h.1 k (omega arith)

pub each_from : {X : Type 0} (P : X → Type 0) (d : X) (xs : List X) → ((k : ℕ) → k < length xs → P (get_or xs k d)) → Each P xs
each_from P d [] h = tt
each_from P d (x ∷ xs) h = (h 0 (omega arith), each_from P d xs (λ k l. h (suc k) (omega arith)))

pub above_most : (most n : ℕ) → above most n ≡ None → n ≤ most
above_most most n e = leb-true n most (passed (leb n most) None CountOutOfBounds e).0

pub above_fine : (most n : ℕ) → n ≤ most → above most n ≡ None
above_fine most n h = rw (le-leb n most h)

pub places_fine : (n : ℕ) → (1 ≤ n) × (n ≤ 400) → off_places n ≡ None
places_fine n h = rw (le-leb 1 n h.0, le-leb n 400 h.1)

-- one of two tests lets a number pass
either_passed : (b c : Bool) (r : Reason) → cond b None (cond c None (Some r)) ≡ None → (b ≡ true) ⊎ (c ≡ true)
either_passed true c r e = inl refl
either_passed false c r e = inr (passed c None r e).0

either_passes : (b c : Bool) (r : Reason) → (b ≡ true) ⊎ (c ≡ true) → cond b None (cond c None (Some r)) ≡ None
either_passes true c r h = refl
either_passes false true r h = refl
either_passes false false r (inl h) = absurd (cc)
either_passes false false r (inr h) = absurd (cc)

pub count_either : (trainees n : ℕ) → off_count trainees n ≡ None → (n ≡ 0) ⊎ (n ≡ trainees)
count_either trainees n e = go (either_passed (eqb n 0) (eqb n trainees) CountOutOfBounds e)
  where
    go : (eqb n 0 ≡ true) ⊎ (eqb n trainees ≡ true) → (n ≡ 0) ⊎ (n ≡ trainees)
    go (inl h) = inl (eqb-true n 0 h)
    go (inr h) = inr (eqb-true n trainees h)

pub count_fine : (trainees n : ℕ) → (n ≡ 0) ⊎ (n ≡ trainees) → off_count trainees n ≡ None
count_fine trainees n (inl h) = either_passes (eqb n 0) (eqb n trainees) CountOutOfBounds (inl (eq-eqb n 0 h))
count_fine trainees n (inr h) = either_passes (eqb n 0) (eqb n trainees) CountOutOfBounds (inr (eq-eqb n trainees h))

pub filed_either : (practices p : ℕ) → off_filed practices p ≡ None → (p ≡ 255) ⊎ (p < practices)
filed_either practices p e = go (either_passed (eqb p 255) (ltb p practices) PracticeNotOffered e)
  where
    go : (eqb p 255 ≡ true) ⊎ (ltb p practices ≡ true) → (p ≡ 255) ⊎ (p < practices)
    go (inl h) = inl (eqb-true p 255 h)
    go (inr h) = inr (ltb-true p practices h)

pub filed_fine : (practices p : ℕ) → (p ≡ 255) ⊎ (p < practices) → off_filed practices p ≡ None
filed_fine practices p (inl h) = either_passes (eqb p 255) (ltb p practices) PracticeNotOffered (inl (eq-eqb p 255 h))
filed_fine practices p (inr h) = either_passes (eqb p 255) (ltb p practices) PracticeNotOffered (inr (lt-ltb p practices h))

list_fine : (practices p : ℕ) (earlier : List ℕ) → p < practices → listed earlier p ≡ false → off_choice practices earlier p ≡ None
list_fine practices p earlier h n = rw (lt-ltb p practices h, n)

list_both : (practices p : ℕ) (earlier : List ℕ) → off_choice practices earlier p ≡ None → (p < practices) × (listed earlier p ≡ false)
list_both practices p earlier e =
    let a = passed (ltb p practices) _ _ e in
    (ltb-true p practices a.0, (passed_not (listed earlier p) _ _ a.1).0)

-- Apart, choice by choice
pub apart_at : (practices : ℕ) (earlier ps : List ℕ) → Apart practices earlier ps → (k : ℕ) → k < length ps → (get_or ps k 0 < practices) × (listed (earlier ++ take k ps) (get_or ps k 0) ≡ false)
apart_at practices earlier [] h k l = absurd (omega arith)
apart_at practices earlier (p ∷ ps) h zero l =
    let b = list_both practices p earlier h.0 in (b.0, rw (append-nil earlier) b.1)
apart_at practices earlier (p ∷ ps) h (suc k) l =
    let r = apart_at practices (earlier ++ (p ∷ [])) ps h.1 k (omega arith) in
    (r.0, rw (append_assoc earlier (p ∷ []) (take k ps)) at r.1)

pub apart_from : (practices : ℕ) (earlier ps : List ℕ) → ((k : ℕ) → k < length ps → (get_or ps k 0 < practices) × (listed (earlier ++ take k ps) (get_or ps k 0) ≡ false)) → Apart practices earlier ps
apart_from practices earlier [] h = tt
apart_from practices earlier (p ∷ ps) h =
    let f = h 0 (omega arith) in
    let n : listed earlier p ≡ false = rw (append-nil earlier) at f.1 in (
      list_fine practices p earlier f.0 n,
      apart_from practices (earlier ++ (p ∷ [])) ps (λ k l.
          let r = h (suc k) (omega arith) in
          (r.0, rw (append_assoc earlier (p ∷ []) (take k ps)) r.1)),
    )

pub strict_of : (practices : ℕ) (ps : List ℕ) → FineList practices ps → Strict practices ps
strict_of practices ps h =
    record {
      short = above_most 12 (length ps) h.0;
      below = λ k l. (apart_at practices [] ps h.1 k l).0;
      distinct = λ j k i l e.
          let n = (apart_at practices [] ps h.1 k l).1 in
          let t = length-take-le k ps (omega arith) in
          not_listed (take k ps) (get_or ps k 0) n j (omega arith) (get_or-take k ps j 0 i ∙ e);
    }

pub fine_of : (practices : ℕ) (ps : List ℕ) → Strict practices ps → FineList practices ps
fine_of practices ps s = (
  above_fine 12 (length ps) s.short,
  apart_from practices [] ps (λ k l. (
    s.below k l,
    unlisted (take k ps) (get_or ps k 0) (λ j i e.
        let t = length-take-le k ps (omega arith) in
        let i2 : j < k = omega arith in
        s.distinct j k i2 l (sym (get_or-take k ps j 0 i2) ∙ e)),
  )),
)
