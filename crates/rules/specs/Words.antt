-- The number of each reason, the word of each layer, and refusals by layer.
use Rattle.std.specs.Prelude.{ℕ, List, codes}
use Rattle.rules.specs.declared.words.Layer.{Layer}
use Rattle.rules.specs.declared.words.Layer.TheVariants.{Sheet, Register, Round}
use Rattle.rules.specs.declared.words.Reason.{Reason}
use Rattle.rules.specs.declared.words.Reason.TheVariants.{SheetEnds, BytesFollow, CountOutOfBounds, PlacesOutOfBounds, PracticeNotOffered, Repeated, NoSuchTrainee, NoSuchPractice, WrongLength, NoneUnbeaten, NothingStands, NotFeasible}
use Rattle.rules.specs.declared.words.Refusal.{Refusal}

abbrev pub number_of : Reason → ℕ
number_of SheetEnds = 1
number_of BytesFollow = 2
number_of CountOutOfBounds = 3
number_of PlacesOutOfBounds = 4
number_of PracticeNotOffered = 5
number_of Repeated = 6
number_of NoSuchTrainee = 7
number_of NoSuchPractice = 8
number_of WrongLength = 9
number_of NoneUnbeaten = 10
number_of NothingStands = 11
number_of NotFeasible = 12

abbrev pub word_of : Layer → List ℕ
word_of Sheet = codes "sheet"
word_of Register = codes "register"
word_of Round = codes "round"

abbrev pub of_sheet : Reason → ℕ → Refusal
of_sheet reason place = record { reason = reason; layer = Sheet; place = place }

abbrev pub of_register : Reason → ℕ → Refusal
of_register reason place = record { reason = reason; layer = Register; place = place }

abbrev pub of_round : Reason → ℕ → Refusal
of_round reason place = record { reason = reason; layer = Round; place = place }
