-- What a filed placement is, and when it fits the entries of a roll.
use Rattle.std.specs.Prelude.{◌≡◌, ℕ, ◌<◌, ◌⊎◌, List, length, slice_index}
use Rattle.rules.specs.Meaning.{Entries, trainees, practices}

-- a byte for each trainee, a practice or 255 for no seat; or nothing at all
abbrev pub Filing : Type 0
Filing = List ℕ

pub record Fitting (e : Entries) (f : Filing) : Type 0 where
  pub many : (length f ≡ 0) ⊎ (length f ≡ trainees e)
  pub known : (t : ℕ) → t < length f → (slice_index f t ≡ 255) ⊎ (slice_index f t < practices e)
