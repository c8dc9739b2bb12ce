-- What a sheet looks like: the one definition that the reader and the writer are held to.
use Rattle.std.specs.Prelude.{ℕ, ◌/◌, ◌%◌, List, [], ◌∷◌, ◌++◌, length}
use Rattle.std.specs.List.{flat_map}
use Rattle.rules.specs.Meaning.{Entries}
use Rattle.sheet.specs.Filing.{Filing}

-- one byte
abbrev pub single : ℕ → List ℕ
single n = n ∷ []

-- two bytes, the high one first
abbrev pub pair : ℕ → List ℕ
pair n = n / 256 ∷ (n % 256 ∷ [])

-- a trainee's list: its length in one byte, and a byte for each choice
abbrev pub measured : List ℕ → List ℕ
measured list = length list ∷ list

-- a section: how many in two bytes, and then each
abbrev pub section : {X : Type 0} → (X → List ℕ) → List X → List ℕ
section shown xs = pair (length xs) ++ flat_map shown xs

-- the places of each practice, the list of each trainee, and what is filed
abbrev pub sheet : Entries → Filing → List ℕ
sheet e f = section pair e.places ++ (section measured e.lists ++ section single f)
