-- At most one placement stands, and whether one does is known.
use Rattle.std.proofs.Common.{◌≡◌, ℕ, zero, suc, ◌<◌, ◌≤◌, Bool, true, false, ◌⊎◌, Some, None, Option, refl, ap, ◌∙◌, inl, inr, arith}
use Rattle.std.proofs.lemmas.Bool.{both_ways, cases_lt}
use Rattle.voting.specs.Placements.{Placement}
use Rattle.round.specs.Account.{at, given_by, settles, Stands}
use Rattle.round.specs.Theorems.{StandsOrNot}

-- what stands before the next call
pub stands_or_not : StandsOrNot
stands_or_not account zero = inr (λ j M s. omega (arith, s.before))
stands_or_not account (suc i) = by (given_by (at account i)) refl (settles (at account i)) refl (stands_or_not account i)
  where
    earlier : (j : ℕ) (M : Placement) → given_by (at account i) ≡ None → Stands account (suc i) j M → Stands account i j M
    earlier j M q s = record { before = less (cases_lt j i); gave = s.gave; since = λ k a b. s.since k a (omega arith) }
      where
        less : (j < i) ⊎ (i ≤ j) → j < i
        less (inl l) = l
        less (inr l) = let p : j ≡ i = omega (arith, s.before) in let same = ap (λ x. given_by (at account x)) p in let gave = s.gave in absurd (cc)

    by :
        (o : Option Placement) → given_by (at account i) ≡ o → (b : Bool) → settles (at account i) ≡ b →
        ((j : ℕ) × (M : Placement) × Stands account i j M) ⊎ ((j : ℕ) (M : Placement) → Stands account i j M → ⊥) →
        ((j : ℕ) × (M : Placement) × Stands account (suc i) j M) ⊎ ((j : ℕ) (M : Placement) → Stands account (suc i) j M → ⊥)
    by (Some M) q b y h = inl (i, M, record { before = omega arith; gave = q; since = λ k l m. absurd (let v : ⊥ = omega arith in v) })
    by None q true y h = inr (λ j M s. both_ways (settles (at account i)) (s.since i (earlier j M q s).before (omega arith)) y)
    by None q false y (inl (j, M, s)) = inl (j, M, record { before = omega (arith, s.before); gave = s.gave; since = λ k l m. last k l (cases_lt k i) m })
      where
        last : (k : ℕ) → j < k → (k < i) ⊎ (i ≤ k) → k < suc i → settles (at account k) ≡ false
        last k l (inl n) m = s.since k l n
        last k l (inr n) m = let p : k ≡ i = omega arith in ap (λ x. settles (at account x)) p ∙ y
    by None q false y (inr f) = inr (λ j M s. f j M (earlier j M q s))
