-- What single seats weigh by first counts and places.
use Rattle.std.proofs.Common.{◌≡◌, ℕ, ◌+◌, ◌*◌, ◌<◌, ◌≤◌, Bool, true, false, cond, ltb, ◌⊎◌, List, [], ◌∷◌, length, Some, None, refl, subst, inl, inr, arith}
use Rattle.std.proofs.lemmas.Bool.{eq-eqb, ltb-true, lt-ltb}
use Rattle.voting.specs.Totals.{one}
use Rattle.voting.specs.Placements.{Seat, Allowed, sits, placed}
use Rattle.voting.specs.Local.{first_choice}
use Rattle.voting.proofs.Ranks.{on_list, sits_some}
use Rattle.allotment.specs.Weights.{fallback_on, fallback_weight, by_firsts}

-- whether there is a list, and whether the seat is the first choice
abbrev pub has_list : List ℕ → Bool
has_list [] = false
has_list (x ∷ xs) = true

abbrev pub is_first : Seat → Seat → Bool
is_first None s = false
is_first (Some p) s = sits s p

-- why a seat weighs something
pub record Second (counts places : ℕ → ℕ) (list : List ℕ) (s : Seat) : Type 0 where
  pub first : ℕ
  pub is : first_choice list ≡ Some first
  pub over : places first < counts first
  pub fallen : s ≡ fallback_on counts places list

fallen : (f s : Seat) → 0 < fallback_weight f s → (s ≡ f) × (fallback_weight f s ≡ 161202 + 401 * one (placed s))
fallen None None h = (refl, refl)
fallen None (Some p) h = absurd (omega arith)
fallen (Some q) s h = go (sits s q) refl h
  where
    go :
        (b : Bool) → sits s q ≡ b → 0 < cond b 161603 0 → (s ≡ Some q) × (cond b 161603 0 ≡ 161202 + 401 * one (placed s))
    go true k h = let e = sits_some s q k in (e, rw e refl)
    go false k h = absurd (omega arith)

fallback_least : (f : Seat) → 161202 ≤ fallback_weight f f
fallback_least None = omega arith
fallback_least (Some q) = rw (eq-eqb q q refl) (omega arith)

pub fallback_most : (f s : Seat) → fallback_weight f s ≤ 161603
fallback_most None None = omega arith
fallback_most None (Some p) = omega arith
fallback_most (Some q) s = go (sits s q)
  where
    go : (b : Bool) → cond b 161603 0 ≤ 161603
    go true = omega arith
    go false = omega arith

-- a seat that weighs something is the first choice, or the fallback where too many have the first choice
pub first_or_second :
    (counts places : ℕ → ℕ) (list : List ℕ) (s : Seat) → 0 < by_firsts counts places list s →
    (s ≡ first_choice list) ⊎ Second counts places list s
first_or_second counts places [] s h = absurd (omega arith)
first_or_second counts places (x ∷ xs) s h = go (sits s x) refl (ltb (places x) (counts x)) refl h
  where
    f : Seat
    f = fallback_on counts places (x ∷ xs)

    go :
        (a : Bool) → sits s x ≡ a → (b : Bool) → ltb (places x) (counts x) ≡ b →
        0 < cond a 161604 (cond b (fallback_weight (fallback_on counts places (x ∷ xs)) s) 0) →
        (s ≡ Some x) ⊎ Second counts places (x ∷ xs) s
    go true k b m h = inl (sits_some s x k)
    go false k true m h =
        inr (record { first = x; is = refl; over = ltb-true (places x) (counts x) m; fallen = (fallen (fallback_on counts places (x ∷ xs)) s h).0 })
    go false k false m h = absurd (omega arith)

-- the parts of what a seat weighs, if it weighs something
pub parts :
    (counts places : ℕ → ℕ) (list : List ℕ) (s : Seat) → Allowed list s → (0 < length list → 0 < by_firsts counts places list s) →
    by_firsts counts places list s ≡ 161202 * one (has_list list) + 401 * one (placed s) + one (is_first (first_choice list) s)
parts counts places [] None a h = refl
parts counts places [] (Some p) a h = absurd (omega (arith, on_list [] p a))
parts counts places (x ∷ xs) s a h = go (sits s x) refl (ltb (places x) (counts x)) (h (omega arith))
  where
    go :
        (a : Bool) → sits s x ≡ a → (b : Bool) →
        0 < cond a 161604 (cond b (fallback_weight (fallback_on counts places (x ∷ xs)) s) 0) →
        cond a 161604 (cond b (fallback_weight (fallback_on counts places (x ∷ xs)) s) 0) ≡ 161202 + 401 * one (placed s) + one a
    go true k b h = let e = sits_some s x k in rw e refl
    go false k true h = omega (arith, (fallen (fallback_on counts places (x ∷ xs)) s h).1)
    go false k false h = absurd (omega arith)

pub at_most : (counts places : ℕ → ℕ) (list : List ℕ) (s : Seat) → by_firsts counts places list s ≤ 161604 * one (has_list list)
at_most counts places [] s = omega arith
at_most counts places (x ∷ xs) s = go (sits s x) (ltb (places x) (counts x))
  where
    go : (a b : Bool) → cond a 161604 (cond b (fallback_weight (fallback_on counts places (x ∷ xs)) s) 0) ≤ 161604
    go true b = omega arith
    go false true = omega (arith, fallback_most (fallback_on counts places (x ∷ xs)) s)
    go false false = omega arith

pub first_weighs :
    (counts places : ℕ → ℕ) (list : List ℕ) (p : ℕ) → first_choice list ≡ Some p → by_firsts counts places list (Some p) ≡ 161604
first_weighs counts places list p e = rw (e, eq-eqb p p refl)

-- any other seat weighs less
pub other_weighs :
    (counts places : ℕ → ℕ) (list : List ℕ) (p : ℕ) (s : Seat) → first_choice list ≡ Some p → (s ≡ Some p → ⊥) →
    by_firsts counts places list s ≤ 161603
other_weighs counts places list p s e other =
    rw e (go (sits s p) refl (ltb (places p) (counts p)))
  where
    go : (a : Bool) → sits s p ≡ a → (b : Bool) → cond a 161604 (cond b (fallback_weight (fallback_on counts places list) s) 0) ≤ 161603
    go true k b = absurd (other (sits_some s p k))
    go false k true = fallback_most (fallback_on counts places list) s
    go false k false = omega arith

pub fallback_weighs :
    (counts places : ℕ → ℕ) (list : List ℕ) (p : ℕ) → first_choice list ≡ Some p → places p < counts p →
    161202 ≤ by_firsts counts places list (fallback_on counts places list)
fallback_weighs counts places [] p e over = absurd cc
fallback_weighs counts places (x ∷ xs) p e over =
    let k : p ≡ x = cc in
    let m : ltb (places x) (counts x) ≡ true = lt-ltb (places x) (counts x) (subst (λ y. places y < counts y) k over) in
    rw m (go (fallback_on counts places (x ∷ xs)) (sits (fallback_on counts places (x ∷ xs)) x))
  where
    go : (f : Seat) (a : Bool) → 161202 ≤ cond a 161604 (fallback_weight f f)
    go f true = omega arith
    go f false = fallback_least f
