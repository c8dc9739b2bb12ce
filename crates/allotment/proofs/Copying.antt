-- What a question finds in the vectors of a roll that was read.
use Rattle.std.proofs.Common.{◌≡◌, ℕ, ◌<◌, List, [], map, length, get_or, sym, ap, ◌∙◌, arith}
use Rattle.std.proofs.lemmas.List.{length-map, get_or-map}
use Rattle.arrayvec.specs.ArrayVec.{ArrayVec}
use Rattle.rules.specs.declared.words.Practice.{Practice}
use Rattle.rules.specs.Meaning.{Lawful, trainees, list_of}
use Rattle.rules.specs.Questions.{numbers}
use Rattle.rules.proofs.Lawfully.{lawful_from}
use Rattle.allotment.specs.declared.lists.Lists.{Lists}
use Rattle.allotment.specs.Vectors.{chosen}
use Rattle.allotment.specs.Copies.{entries}

pub lawful_in : (L : Lists) → Lawful (entries L)
lawful_in L = lawful_from L.lawful

pub trainees_in : (L : Lists) → trainees (entries L) ≡ length L.lists.items
trainees_in L = length-map L.lists.items chosen

abbrev pub no_list : ArrayVec Practice
no_list = record { items = [] }

pub list_in : (L : Lists) (t : ℕ) → t < length L.lists.items → list_of (entries L) t ≡ chosen (get_or L.lists.items t no_list)
list_in L t l = get_or-map chosen L.lists.items t no_list [] l

-- a list that a loop over the lists comes to, and reads as a slice
module _ (L : Lists) (lists : List (ArrayVec Practice)) (same : lists ≡ L.lists.items) (t : ℕ) (l : t < length lists) where
  pub list_read : (list : ArrayVec Practice) (ps : List Practice) → list ≡ get_or lists t list → ps ≡ list.items → numbers ps ≡ list_of (entries L) t
  list_read list ps e k = ap numbers k ∙ ap chosen e ∙ sym (get_or-map chosen lists t list [] l) ∙ ap (λ xs. get_or (map chosen xs) t []) same

  pub trainee_read : t < trainees (entries L)
  trainee_read = omega (arith, ap length same, trainees_in L)
