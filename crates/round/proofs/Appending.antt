-- An account with one call more.
use Rattle.std.proofs.Common.{◌≡◌, ℕ, zero, suc, ◌+◌, ◌<◌, ◌≤◌, false, ◌⊎◌, List, [], ◌∷◌, ◌++◌, length, take, Some, sym, refl, ap, ◌∙◌, inl, inr, arith, length-append}
use Rattle.std.proofs.lemmas.Bool.{cases_lt}
use Rattle.rules.specs.Meaning.{Meaning}
use Rattle.voting.specs.Placements.{Placement}
use Rattle.round.specs.Account.{Event, at, changed, standing, given_by, settles, Stands}

infixl 20 ◌and◌
abbrev pub ◌and◌ : List Event → Event → List Event
account and e = account ++ (e ∷ [])

pub length_and : (account : List Event) (e : Event) → length (account and e) ≡ length account + 1
length_and account e = length-append account (e ∷ [])

pub at_old : (account : List Event) (e : Event) (i : ℕ) → i < length account → at (account and e) i ≡ at account i
at_old [] e i h = absurd (let z : ⊥ = omega arith in z)
at_old (x ∷ xs) e zero h = refl
at_old (x ∷ xs) e (suc i) h = at_old xs e i (omega arith)

pub at_new : (account : List Event) (e : Event) → at (account and e) (length account) ≡ Some e
at_new [] e = refl
at_new (x ∷ xs) e = at_new xs e

pub at_within : (account : List Event) (i : ℕ) (e : Event) → at account i ≡ Some e → i < length account
at_within [] i e h = absurd (cc)
at_within (x ∷ xs) zero e h = omega arith
at_within (x ∷ xs) (suc i) e h = let r = at_within xs i e h in omega arith

pub take_old : (account : List Event) (e : Event) → take (length account) (account and e) ≡ account
take_old [] e = refl
take_old (x ∷ xs) e = ap (λ r. x ∷ r) (take_old xs e)

pub standing_and : (m : Meaning) (account : List Event) (e : Event) → standing m (account and e) ≡ changed (standing m account) e
standing_and m [] e = refl
standing_and m (x ∷ xs) e = standing_and (changed m x) xs e

module _ (account : List Event) (e : Event) where
  pub stands_old : (i j : ℕ) (M : Placement) → i ≤ length account → Stands (account and e) i j M → Stands account i j M
  stands_old i j M l s =
      record {
        before = s.before;
        gave = sym (ap given_by (at_old account e j (omega (arith, s.before)))) ∙ s.gave;
        since = λ k a b. sym (ap settles (at_old account e k (omega (arith, b)))) ∙ s.since k a b;
      }

  pub stands_still : (i j : ℕ) (M : Placement) → i ≤ length account → Stands account i j M → Stands (account and e) i j M
  stands_still i j M l s =
      record {
        before = s.before;
        gave = ap given_by (at_old account e j (omega (arith, s.before))) ∙ s.gave;
        since = λ k a b. ap settles (at_old account e k (omega (arith, b))) ∙ s.since k a b;
      }

  -- a call that settles nothing leaves standing what stood
  pub stands_on : (j : ℕ) (M : Placement) → settles (Some e) ≡ false → Stands account (length account) j M → Stands (account and e) (length (account and e)) j M
  stands_on j M q s =
      record {
        before = omega (arith, length_and account e, s.before);
        gave = (stands_still (length account) j M (omega arith) s).gave;
        since = λ k a b. by k a b (cases_lt k (length account));
      }
    where
      by : (k : ℕ) → j < k → k < length (account and e) → (k < length account) ⊎ (length account ≤ k) → settles (at (account and e) k) ≡ false
      by k a b (inl l) = (stands_still (length account) j M (omega arith) s).since k a l
      by k a b (inr l) = let p : k ≡ length account = omega (arith, length_and account e) in ap (λ x. settles (at (account and e) x)) p ∙ (ap settles (at_new account e) ∙ q)

  -- what a successful allot gave stands
  pub stands_new : (M : Placement) → given_by (Some e) ≡ Some M → Stands (account and e) (length (account and e)) (length account) M
  stands_new M q =
      record {
        before = omega (arith, length_and account e);
        gave = ap given_by (at_new account e) ∙ q;
        since = λ k a b. absurd (let z : ⊥ = omega (arith, length_and account e) in z);
      }

  -- what stands after one call more: what it gave, or what stood and it settles nothing
  pub stands_which : (j : ℕ) (M : Placement) → Stands (account and e) (length (account and e)) j M → (given_by (Some e) ≡ Some M) ⊎ (Stands account (length account) j M × (settles (Some e) ≡ false))
  stands_which j M s = by (cases_lt j (length account))
    where
      by : (j < length account) ⊎ (length account ≤ j) → (given_by (Some e) ≡ Some M) ⊎ (Stands account (length account) j M × (settles (Some e) ≡ false))
      by (inl l) =
          inr (
            stands_old (length account) j M (omega arith)
                (record { before = l; gave = s.gave; since = λ k a b. s.since k a (omega (arith, length_and account e)) }),
            sym (ap settles (at_new account e)) ∙ s.since (length account) l (omega (arith, length_and account e)),
          )
      by (inr l) =
          let p : j ≡ length account = omega (arith, length_and account e, s.before) in
          inl (sym (ap given_by (at_new account e)) ∙ (sym (ap (λ x. given_by (at (account and e) x)) p) ∙ s.gave))
