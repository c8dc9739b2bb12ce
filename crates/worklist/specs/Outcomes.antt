-- What each call of a work list answers, and the records after it.
use Rattle.std.specs.Prelude.{ℕ, cond, List, [], ◌∷◌, ◌++◌, length, take, Some, None, Ok, Err, Option, Result, nat_lt, slice_index_or}
use Rattle.rules.specs.declared.words.Refusal.{Refusal}
use Rattle.rules.specs.declared.words.Reason.TheVariants.{WrongLength}
use Rattle.rules.specs.Words.{of_round}

module _ {T : Type 0} where
  -- one more behind the newest, where a slot is free
  abbrev pub add_outcome : List T → ℕ → T → Result (Unit {0}) Refusal × List T
  add_outcome xs room x = cond (nat_lt (length xs) room) (Ok tt, xs ++ x ∷ []) (Err (of_round WrongLength room), xs)

  abbrev pub oldest_outcome : List T → Option T × List T
  oldest_outcome [] = (None, [])
  oldest_outcome (x ∷ xs) = (Some x, xs)

  -- the last, and all before it
  abbrev pub newest_outcome : List T → Option T × List T
  newest_outcome [] = (None, [])
  newest_outcome (x ∷ xs) = (Some (slice_index_or (x ∷ xs) (length xs) x), take (length xs) (x ∷ xs))
