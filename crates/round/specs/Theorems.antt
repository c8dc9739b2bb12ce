-- Which placement stands is never in doubt.
use Rattle.std.specs.Prelude.{◌≡◌, ℕ, ◌⊎◌, List}
use Rattle.voting.specs.Placements.{Placement}
use Rattle.round.specs.Account.{Event, Stands}

-- no two placements stand before one call
abbrev pub OneStands : Type 0
OneStands = (account : List Event) (i j k : ℕ) (M N : Placement) → Stands account i j M → Stands account i k N → (j ≡ k) × (M ≡ N)

-- before each call one stands, or none does
abbrev pub StandsOrNot : Type 0
StandsOrNot = (account : List Event) (i : ℕ) → ((j : ℕ) × (M : Placement) × Stands account i j M) ⊎ ((j : ℕ) (M : Placement) → Stands account i j M → ⊥)
