-- The table of refusals of every register and layer: what an entry is refused with, and what a call does then.
use Rattle.std.specs.Prelude.{ℕ, cond, List, [], ◌∷◌, ◌++◌, length, Some, None, Ok, Err, Option, Result, nat_le, nat_lt}
use Rattle.rules.specs.declared.words.Refusal.{Refusal}
use Rattle.rules.specs.declared.words.Reason.{Reason}
use Rattle.rules.specs.declared.words.Reason.TheVariants.{CountOutOfBounds, PlacesOutOfBounds, PracticeNotOffered, Repeated, NoSuchTrainee, NoSuchPractice}
use Rattle.rules.specs.Words.{of_register}
use Rattle.rules.specs.Meaning.{Meaning, trainees, practices, is_open, with_list, with_places}
use Rattle.rules.specs.Questions.{listed}

-- places are 1 to 400
abbrev pub off_places : ℕ → Option Reason
off_places n = cond (nat_le 1 n) (cond (nat_le n 400) None (Some PlacesOutOfBounds)) (Some PlacesOutOfBounds)

-- each choice in turn, after those that came earlier on the list: offered, not named before
abbrev pub choice_refusal : Meaning → List ℕ → List ℕ → Option Refusal
choice_refusal m earlier [] = None
choice_refusal m earlier (p ∷ ps) =
    cond (is_open m p)
    (cond (listed earlier p) (Some (of_register Repeated (length earlier))) (choice_refusal m (earlier ++ p ∷ []) ps))
    (Some (of_register PracticeNotOffered (length earlier)))

-- enter: the trainee, then the length of the list, then each choice
abbrev pub entry_refusal : Meaning → ℕ → List ℕ → Option Refusal
entry_refusal m t list =
    cond (nat_lt t (trainees m.entries))
    (cond (nat_le (length list) m.rules.longest) (choice_refusal m [] list) (Some (of_register CountOutOfBounds m.rules.longest)))
    (Some (of_register NoSuchTrainee t))

-- a refusal for this reason, if there is one
abbrev pub because : Option Reason → ℕ → Option Refusal
because None place = None
because (Some reason) place = Some (of_register reason place)

-- places: the practice, then the number
abbrev pub places_refusal : Meaning → ℕ → ℕ → Option Refusal
places_refusal m p n = cond (nat_lt p (practices m.entries)) (because (off_places n) p) (Some (of_register NoSuchPractice p))

-- the answer of a call that is refused with this, if with anything
abbrev pub answer_of : {E : Type 0} → Option E → Result (Unit {0}) E
answer_of None = Ok tt
answer_of (Some e) = Err e

-- the answer of a call, and what stands after it: what stood before, where it is refused
abbrev pub outcome : {X : Type 0} → Option Refusal → X → X → Result (Unit {0}) Refusal × X
outcome None before changed = (Ok tt, changed)
outcome (Some r) before changed = (Err r, before)

abbrev pub enter_outcome : Meaning → ℕ → List ℕ → Result (Unit {0}) Refusal × Meaning
enter_outcome m t list = outcome (entry_refusal m t list) m (with_list m t list)

abbrev pub places_outcome : Meaning → ℕ → ℕ → Result (Unit {0}) Refusal × Meaning
places_outcome m p n = outcome (places_refusal m p n) m (with_places m p n)
