-- Lists of a lawful roll: what stands on them, and what the questions answer from them.
use Rattle.std.proofs.Common.{◌≡◌, ℕ, zero, suc, ◌<◌, ◌≤◌, Bool, true, false, cond, ltb, List, [], ◌∷◌, length, get_or, is_some, Some, None, Option, sym, refl, ap, ◌∙◌, subst, ⊎_elim, arith}
use Rattle.std.proofs.lemmas.List.{get_or_past}
use Rattle.std.proofs.lemmas.Bool.{cases_lt, cond-true, lt-ltb, le-ltb, both_ways}
use Rattle.std.specs.List.{find}
use Rattle.std.specs.Option.{unwrap_or}
use Rattle.rules.specs.declared.words.Practice.{Practice}
use Rattle.rules.specs.Meaning.{Entries, Lawful, trainees, practices, list_of}
use Rattle.rules.specs.Questions.{position, listed, choice_in, position_in, numbers}
use Rattle.rules.proofs.Numbers.{length_numbers}
use Rattle.rules.proofs.Positions.{position_most}
use Rattle.voting.specs.Placements.{Seat, stored}
use Rattle.voting.specs.Local.{first_choice, earliest}
use Rattle.allotment.specs.Counts.{Below}
use Rattle.assignment.proofs.Lists.{position_get}
use Rattle.voting.proofs.Ranks.{on_list, first_on}

-- a practice of a list is one of the roll's, and so one of 100
pub on_list_known : (e : Entries) → Lawful e → (t p : ℕ) → position (list_of e t) p < length (list_of e t) → p < practices e
on_list_known e lawful t p h =
    ⊎_elim
    (λ (l : t < trainees e).
    subst (λ x. x < practices e) (position_get (list_of e t) p h) ((lawful.lists_strict t l).below (position (list_of e t) p) h))
    (λ (l : trainees e ≤ t). absurd (omega (arith, ap length (get_or_past e.lists t [] l))))
    (cases_lt t (trainees e))

pub listed_few : (e : Entries) → Lawful e → (t p : ℕ) → listed (list_of e t) p ≡ true → p < 100
listed_few e lawful t p h = omega (arith, on_list_known e lawful t p (on_list (list_of e t) p h), lawful.few_practices)

-- the question for a position finds where the practice is listed
pub position_listed : (list : List ℕ) (p : ℕ) (o : Option ℕ) → o ≡ position_in list p → is_some o ≡ true → listed list p ≡ true
position_listed list p o e k = go (listed list p) refl
  where
    go : (b : Bool) → listed list p ≡ b → listed list p ≡ true
    go true h = h
    go false h = let z : o ≡ None = rw h at e in let m : is_some o ≡ false = cc in absurd (both_ways (is_some o) m k)

-- a practice that stands nowhere has the list's length for its position
pub position_or_end : (ps : List Practice) (p : ℕ) → unwrap_or (position_in (numbers ps) p) (length ps) ≡ position (numbers ps) p
position_or_end ps p =
    ⊎_elim
    (λ (l : position (numbers ps) p < length (numbers ps)). ap (λ b. unwrap_or (cond b (Some (position (numbers ps) p)) None) (length ps)) (lt-ltb _ _ l))
    (λ (l : length (numbers ps) ≤ position (numbers ps) p).
    ap (λ b. unwrap_or (cond b (Some (position (numbers ps) p)) None) (length ps)) (le-ltb _ _ l) ∙
    omega (arith, position_most (numbers ps) p, length_numbers ps))
    (cases_lt (position (numbers ps) p) (length (numbers ps)))

-- the first practice that an iterator finds is the earliest on the list
pub found_earliest : (f : ℕ → Bool) (ps : List Practice) → stored (find (λ (p : Practice). f p.0) ps) ≡ earliest f (numbers ps)
found_earliest f [] = refl
found_earliest f (p ∷ ps) = go (f p.0) (found_earliest f ps)
  where
    go :
        (b : Bool) → stored (find (λ (p : Practice). f p.0) ps) ≡ earliest f (numbers ps) →
        stored (cond b (Some p) (find (λ (p : Practice). f p.0) ps)) ≡ cond b (Some p.0) (earliest f (numbers ps))
    go true h = refl
    go false h = h

-- the question for the first position answers the first choice
pub first_question : (list : List ℕ) (o : Option Practice) → o ≡ choice_in list 0 → stored o ≡ first_choice list
first_question [] o e = ap stored e
first_question (x ∷ xs) o e = ap stored e ∙ ap stored (cond-true (ltb 0 (suc (length xs))) (Some (record { 0 = x })) None (lt-ltb 0 (suc (length xs)) (omega arith)))

pub first_few : (e : Entries) → Lawful e → (t : ℕ) (s : Seat) → s ≡ first_choice (list_of e t) → Below 100 s
first_few e lawful t None k = tt
first_few e lawful t (Some p) k = omega (arith, on_list_known e lawful t p (first_on (list_of e t) p (sym k)), lawful.few_practices)

-- where none passes before, and this one does
pub earliest_is :
    (f : ℕ → Bool) (list : List ℕ) (i : ℕ) → i < length list → ((k : ℕ) → k < i → f (get_or list k 0) ≡ false) → f (get_or list i 0) ≡ true →
    earliest f list ≡ Some (get_or list i 0)
earliest_is f [] i l before here = absurd (omega arith)
earliest_is f (x ∷ xs) zero l before here = rw here
earliest_is f (x ∷ xs) (suc i) l before here =
    rw (before 0 (omega arith)) (earliest_is f xs i (omega arith) (λ k h. before (suc k) (omega arith)) here)

pub earliest_none : (f : ℕ → Bool) (list : List ℕ) → ((k : ℕ) → k < length list → f (get_or list k 0) ≡ false) → earliest f list ≡ None
earliest_none f [] none = refl
earliest_none f (x ∷ xs) none = rw (none 0 (omega arith)) (earliest_none f xs (λ k h. none (suc k) (omega arith)))
