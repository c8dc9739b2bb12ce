-- What vectors of places and of lists mean.
use Rattle.std.specs.Prelude.{ℕ, List, map}
use Rattle.arrayvec.specs.ArrayVec.{ArrayVec}
use Rattle.rules.specs.declared.words.Practice.{Practice}
use Rattle.rules.specs.Meaning.{Entries}
use Rattle.rules.specs.Questions.{numbers}

abbrev pub no_practice : Practice
no_practice = record { 0 = 0 }

-- the practices of a list
abbrev pub chosen : ArrayVec Practice → List ℕ
chosen list = numbers list.items

abbrev pub copied : ArrayVec ℕ → ArrayVec (ArrayVec Practice) → Entries
copied places lists = record { places = places.items; lists = map chosen lists.items }
