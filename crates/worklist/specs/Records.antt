-- What a work list holds: its records, oldest first, and how many slots it has.
use Rattle.std.specs.Prelude.{ℕ, List, ◌++◌, length, take, drop}
use Rattle.worklist.specs.declared.WorkList.{WorkList}

module _ {T : Type 0} where
  -- the slots from `head` on, and round to the start
  abbrev pub turned : List T → ℕ → List T
  turned slots head = drop head slots ++ take head slots

  abbrev pub contents : List T → ℕ → ℕ → List T
  contents slots head len = take len (turned slots head)

  abbrev pub records : WorkList T → List T
  records w = contents w.slots.now w.head w.len

  abbrev pub room : WorkList T → ℕ
  room w = length w.slots.now
