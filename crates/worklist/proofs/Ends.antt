-- What the outcomes of the calls say of the records before and after.
use Rattle.std.proofs.Common.{◌≡◌, ℕ, ◌+◌, ◌<◌, ◌≤◌, List, [], ◌∷◌, ◌++◌, length, Some, None, Ok, Err, Option, Result, sym, refl, ap, ◌∙◌, add-one, arith}
use Rattle.std.proofs.lemmas.List.{length_push, get_or_push, take-append-le, take_all, take_more}
use Rattle.std.proofs.lemmas.Bool.{le-ltb, lt-ltb}
use Rattle.rules.specs.declared.words.Refusal.{Refusal}
use Rattle.rules.specs.declared.words.Reason.TheVariants.{WrongLength}
use Rattle.rules.specs.Words.{of_round}
use Rattle.worklist.specs.Outcomes.{add_outcome, oldest_outcome, newest_outcome}

module _ {T : Type 0} where
  -- the calls, where it is known which end they come to
  pub add_free : (xs : List T) (room : ℕ) (x : T) → length xs < room → add_outcome xs room x ≡ (Ok tt, xs ++ x ∷ [])
  add_free xs room x l = rw (lt-ltb (length xs) room l)

  pub add_full : (xs : List T) (room : ℕ) (x : T) → room ≤ length xs → add_outcome xs room x ≡ (Err (of_round WrongLength room), xs)
  add_full xs room x l = rw (le-ltb (length xs) room l)

  pub newest_push : (xs : List T) (x : T) → newest_outcome (xs ++ x ∷ []) ≡ (Some x, xs)
  newest_push [] x = refl
  newest_push (y ∷ ys) x =
      let l = length_push ys x ∙ add-one (length ys) in
      let g = get_or_push (y ∷ ys) x y (length (ys ++ x ∷ [])) (sym l) in
      let t = take-append-le (length (ys ++ x ∷ [])) (y ∷ ys) (x ∷ []) (omega (arith, l)) in
      let a = take_all (length (ys ++ x ∷ [])) (y ∷ ys) (omega (arith, l)) in
      cc

  -- what a caller learns
  answer : (p q : Option T × List T) → p ≡ q → (p.0 ≡ q.0) × (p.1 ≡ q.1)
  answer p q e = (ap (λ z. z.0) e, ap (λ z. z.1) e)

  pub added : (xs ys : List T) (room : ℕ) (x : T) (r : Result (Unit {0}) Refusal) → add_outcome xs room x ≡ (r, ys) → length xs < room → ys ≡ xs ++ x ∷ []
  added xs ys room x r e l = ap (λ (z : Result (Unit {0}) Refusal × List T). z.1) (sym e ∙ add_free xs room x l)

  pub oldest_some : (xs ys : List T) (x : T) → oldest_outcome xs ≡ (Some x, ys) → xs ≡ x ∷ ys
  oldest_some [] ys x e = let a = answer _ _ e in cc
  oldest_some (y ∷ zs) ys x e = let a = answer _ _ e in cc

  pub oldest_none : (xs ys : List T) → oldest_outcome xs ≡ (None, ys) → xs ≡ []
  oldest_none [] ys e = refl
  oldest_none (y ∷ zs) ys e = let a = answer _ _ e in cc

  pub newest_some : (xs ys : List T) (x : T) → newest_outcome xs ≡ (Some x, ys) → xs ≡ ys ++ x ∷ []
  newest_some [] ys x e = let a = answer _ _ e in cc
  newest_some (y ∷ zs) ys x e =
      let a = answer _ _ e in
      let m = take_more (y ∷ zs) (length zs) y (omega arith) in
      let n = take_all (length zs + 1) (y ∷ zs) (omega arith) in
      cc

  pub newest_none : (xs ys : List T) → newest_outcome xs ≡ (None, ys) → xs ≡ []
  newest_none [] ys e = refl
  newest_none (y ∷ zs) ys e = let a = answer _ _ e in cc
