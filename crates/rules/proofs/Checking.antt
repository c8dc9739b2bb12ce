-- The check of an entry, step by step, and what it tells.
use Rattle.std.proofs.Common.{◌≡◌, ℕ, zero, suc, ◌+◌, ◌<◌, ◌≤◌, Bool, true, false, cond, ltb, leb, List, [], ◌∷◌, ◌++◌, length, get_or, take, drop, Some, None, Option, sym, refl, ap, ◌∙◌, arith}
use Rattle.std.proofs.lemmas.List.{drop_more, drop_all, take_more, length-take-le, append_assoc, get_or_append_left, length-append}
use Rattle.std.proofs.lemmas.Bool.{lt-ltb, le-ltb, le-leb, lt-leb, ltb-true, leb-true, false≢true}
use Rattle.rules.specs.declared.words.Reason.{Reason}
use Rattle.rules.specs.declared.words.Reason.TheVariants.{CountOutOfBounds, PracticeNotOffered, Repeated, NoSuchTrainee}
use Rattle.rules.specs.Words.{of_register}
use Rattle.rules.specs.Meaning.{Meaning, Strict, trainees, practices, is_open}
use Rattle.rules.specs.Questions.{listed}
use Rattle.rules.specs.Refusals.{choice_refusal, entry_refusal, places_refusal, off_places, because}
use Rattle.rules.proofs.Positions.{not_listed}

-- the choice at i, after those before it
module _ (m : Meaning) (xs : List ℕ) (i : ℕ) (l : i < length xs) where
  here : choice_refusal m (take i xs) (drop i xs) ≡ choice_refusal m (take i xs) (get_or xs i 0 ∷ drop (i + 1) xs)
  here = ap (choice_refusal m (take i xs)) (drop_more xs i 0 l)

  pub step_on : is_open m (get_or xs i 0) ≡ true → listed (take i xs) (get_or xs i 0) ≡ false → choice_refusal m (take i xs) (drop i xs) ≡ choice_refusal m (take (i + 1) xs) (drop (i + 1) xs)
  step_on a b = here ∙ rw (a, b, take_more xs i 0 l)

  pub step_shut : is_open m (get_or xs i 0) ≡ false → choice_refusal m (take i xs) (drop i xs) ≡ Some (of_register PracticeNotOffered i)
  step_shut a = here ∙ rw (a, length-take-le i xs (omega arith))

  pub step_again : is_open m (get_or xs i 0) ≡ true → listed (take i xs) (get_or xs i 0) ≡ true → choice_refusal m (take i xs) (drop i xs) ≡ Some (of_register Repeated i)
  step_again a b = here ∙ rw (a, b, length-take-le i xs (omega arith))

pub step_end : (m : Meaning) (xs : List ℕ) (i : ℕ) → length xs ≤ i → choice_refusal m (take i xs) (drop i xs) ≡ None
step_end m xs i l = ap (choice_refusal m (take i xs)) (drop_all i xs l)

module _ (m : Meaning) (t : ℕ) (xs : List ℕ) where
  pub no_trainee : trainees m.entries ≤ t → entry_refusal m t xs ≡ Some (of_register NoSuchTrainee t)
  no_trainee h = rw (le-ltb t (trainees m.entries) h)

  pub too_long : t < trainees m.entries → m.rules.longest < length xs → entry_refusal m t xs ≡ Some (of_register CountOutOfBounds m.rules.longest)
  too_long h l = rw (lt-ltb t (trainees m.entries) h, lt-leb (length xs) m.rules.longest l)

  pub by_choices : t < trainees m.entries → length xs ≤ m.rules.longest → entry_refusal m t xs ≡ choice_refusal m [] xs
  by_choices h l = rw (lt-ltb t (trainees m.entries) h, le-leb (length xs) m.rules.longest l)

-- what is not refused has passed each test
pub passed : {A : Type 0} (b : Bool) (x : Option A) (y : A) → cond b x (Some y) ≡ None → (b ≡ true) × (x ≡ None)
passed true x y h = (refl, h)
passed false x y h = let z : ◌≡◌ {A = ℕ} 0 1 = cc in absurd (omega arith)

pub passed_not : {A : Type 0} (b : Bool) (x : Option A) (y : A) → cond b (Some y) x ≡ None → (b ≡ false) × (x ≡ None)
passed_not true x y h = let z : ◌≡◌ {A = ℕ} 0 1 = cc in absurd (omega arith)
passed_not false x y h = (refl, h)

open_both : (b a : Bool) → cond b a false ≡ true → b ≡ true
open_both true a h = refl
open_both false a h = absurd (false≢true h)

-- an open practice is one that there is
pub open_below : (m : Meaning) (p : ℕ) → is_open m p ≡ true → p < practices m.entries
open_below m p h = ltb-true p (practices m.entries) (open_both (ltb p (practices m.entries)) (get_or m.rules.opened p false) h)

pub none_open : (m : Meaning) (earlier ps : List ℕ) → choice_refusal m earlier ps ≡ None → (k : ℕ) → k < length ps → is_open m (get_or ps k 0) ≡ true
none_open m earlier [] h k l = absurd (omega arith)
none_open m earlier (p ∷ ps) h zero l = (passed (is_open m p) _ _ h).0
none_open m earlier (p ∷ ps) h (suc k) l =
    let g = passed_not (listed earlier p) _ _ (passed (is_open m p) _ _ h).1 in
    none_open m (earlier ++ p ∷ []) ps g.1 k (omega arith)

-- no choice is among those before it
pub none_repeated : (m : Meaning) (earlier ps : List ℕ) → choice_refusal m earlier ps ≡ None → (j k : ℕ) → j < length earlier + k → k < length ps → get_or (earlier ++ ps) j 0 ≡ get_or ps k 0 → ⊥
none_repeated m earlier [] h j k a l e = omega arith
none_repeated m earlier (p ∷ ps) h j zero a l e =
    let g = passed_not (listed earlier p) _ _ (passed (is_open m p) _ _ h).1 in
    let b : j < length earlier = omega arith in
    not_listed earlier p g.0 j b (sym (get_or_append_left earlier (p ∷ ps) 0 j b) ∙ e)
none_repeated m earlier (p ∷ ps) h j (suc k) a l e =
    let g = passed_not (listed earlier p) _ _ (passed (is_open m p) _ _ h).1 in
    none_repeated m (earlier ++ p ∷ []) ps g.1 j k (simp length-append (omega arith)) (omega arith) (rw (append_assoc earlier (p ∷ []) ps) e)

-- what the check of an entry lets through
pub record Admitted (m : Meaning) (t : ℕ) (list : List ℕ) : Type 0 where
  pub trainee : t < trainees m.entries
  pub long : length list ≤ m.rules.longest
  pub choices : choice_refusal m [] list ≡ None

pub admitted : (m : Meaning) (t : ℕ) (list : List ℕ) → entry_refusal m t list ≡ None → Admitted m t list
admitted m t list h =
    let a = passed (ltb t (trainees m.entries)) _ _ h in
    let b = passed (leb (length list) m.rules.longest) _ _ a.1 in
    record {
      trainee = ltb-true t (trainees m.entries) a.0;
      long = leb-true (length list) m.rules.longest b.0;
      choices = b.1;
    }

-- what the check of an entry lets through is strict
pub strict_from_none : (m : Meaning) (t : ℕ) (list : List ℕ) → m.rules.longest ≤ 12 → entry_refusal m t list ≡ None → Strict (practices m.entries) list
strict_from_none m t list most h =
    let a = admitted m t list h in
    record {
      short = omega (arith, a.long);
      below = λ k l. open_below m (get_or list k 0) (none_open m [] list a.choices k l);
      distinct = λ j k n l q. none_repeated m [] list a.choices j k (omega arith) l q;
    }

-- one meaning that is more open than another refuses no choice that the other takes
pub choices_wider : (m n : Meaning) → ((p : ℕ) → is_open m p ≡ true → is_open n p ≡ true) → (earlier ps : List ℕ) → choice_refusal m earlier ps ≡ None → choice_refusal n earlier ps ≡ None
choices_wider m n w earlier [] h = refl
choices_wider m n w earlier (p ∷ ps) h =
    let a = passed (is_open m p) _ _ h in
    let b = passed_not (listed earlier p) _ _ a.1 in
    rw (w p a.0, b.0) (choices_wider m n w (earlier ++ p ∷ []) ps b.1)

-- a change of places
because_none : (o : Option Reason) (p : ℕ) → because o p ≡ None → o ≡ None
because_none None p h = refl
because_none (Some r) p h = let z : ◌≡◌ {A = ℕ} 0 1 = cc in absurd (omega arith)

pub on_places : (n : ℕ) → off_places n ≡ None → (1 ≤ n) × (n ≤ 400)
on_places n h =
    let a = passed (leb 1 n) _ _ h in
    let b = passed (leb n 400) _ _ a.1 in
    (leb-true 1 n a.0, leb-true n 400 b.0)

-- what the check of places lets through
pub record Placeable (m : Meaning) (p n : ℕ) : Type 0 where
  pub practice : p < practices m.entries
  pub least : 1 ≤ n
  pub most : n ≤ 400

pub placeable : (m : Meaning) (p n : ℕ) → places_refusal m p n ≡ None → Placeable m p n
placeable m p n h =
    let a = passed (ltb p (practices m.entries)) _ _ h in
    let b = on_places n (because_none (off_places n) p a.1) in
    record { practice = ltb-true p (practices m.entries) a.0; least = b.0; most = b.1 }
