-- Majorities and what beats, in natural numbers.
use Rattle.std.proofs.Common.{◌≡◌, ℕ, ◌+◌, ◌<◌, ◌≤◌, pos, ◌-ℤ◌, ◌≤ℤ◌, arith}
use Rattle.std.proofs.lemmas.Int.{ints}
use Rattle.rules.specs.Meaning.{Entries}
use Rattle.voting.specs.Placements.{Placement}
use Rattle.voting.specs.Votes.{votes, majority, Beats}

pub beats_more : (e : Entries) (N M : Placement) → Beats e N M → votes e M N < votes e N M
beats_more e N M b = go (votes e N M) (votes e M N) b
  where
    go : (a b : ℕ) → pos 1 ≤ℤ (pos a -ℤ pos b) → b < a
    go a b h = omega (arith, ints)

pub more_beats : (e : Entries) (N M : Placement) → votes e M N < votes e N M → Beats e N M
more_beats e N M h = go (votes e N M) (votes e M N) h
  where
    go : (a b : ℕ) → b < a → pos 1 ≤ℤ (pos a -ℤ pos b)
    go a b h = omega (arith, ints)

pub majority_at_most : (e : Entries) (N M : Placement) (k : ℕ) → votes e N M ≤ votes e M N + k → majority e N M ≤ℤ pos k
majority_at_most e N M k h = go (votes e N M) (votes e M N) h
  where
    go : (a b : ℕ) → a ≤ b + k → (pos a -ℤ pos b) ≤ℤ pos k
    go a b h = omega (arith, ints)

pub at_most_majority : (e : Entries) (N M : Placement) (k : ℕ) → majority e N M ≤ℤ pos k → votes e N M ≤ votes e M N + k
at_most_majority e N M k h = go (votes e N M) (votes e M N) h
  where
    go : (a b : ℕ) → (pos a -ℤ pos b) ≤ℤ pos k → a ≤ b + k
    go a b h = omega (arith, ints)

pub majority_exact : (e : Entries) (N M : Placement) (k : ℕ) → votes e N M ≡ votes e M N + k → majority e N M ≡ pos k
majority_exact e N M k h = go (votes e N M) (votes e M N) h
  where
    go : (a b : ℕ) → a ≡ b + k → (pos a -ℤ pos b) ≡ pos k
    go a b h = omega (arith, ints)

pub exact_majority : (e : Entries) (N M : Placement) (k : ℕ) → majority e N M ≡ pos k → votes e N M ≡ votes e M N + k
exact_majority e N M k h = go (votes e N M) (votes e M N) h
  where
    go : (a b : ℕ) → (pos a -ℤ pos b) ≡ pos k → a ≡ b + k
    go a b h = omega (arith, ints)
