-- That a roll is lawful is a proposition, and what keeps it so.
use Rattle.std.proofs.Common.{◌≡◌, ℕ, ◌<◌, ◌≤◌, ◌⊎◌, List, [], length, get_or, set, None, inl, inr, arith, length-set, get_or-set_other, get_or-set_same}
use mathlib.Core.Logic.{∥∥₁_elim}
use Rattle.std.proofs.lemmas.Bool.{cases_eq, cases_lt}
use Rattle.std.proofs.lemmas.List.{get_or_past}
use denote.Struct.Props.{props}
use std.HLevel.{Π_prop}
use native.Mathlib.Bridge.{le_prop}
use Rattle.rules.specs.Meaning.{Entries, Meaning, Strict, Lawful, trainees, practices, places_of, list_of, with_list, with_places}
use Rattle.rules.specs.Refusals.{entry_refusal, places_refusal}
use Rattle.rules.proofs.Checking.{admitted, strict_from_none, placeable}

pub strict_prop : (n : ℕ) (list : List ℕ) → IsProp (Strict n list)
strict_prop n list p q =
    λ i. record {
      short = le_prop p.short q.short i;
      below = Π_prop (λ k. Π_prop (λ h. le_prop)) p.below q.below i;
      distinct = (let P : IsProp ((j k : ℕ) → j < k → k < length list → get_or list j 0 ≡ get_or list k 0 → ⊥) = hlevel props in P) p.distinct q.distinct i;
    }

pub lawful_prop : (e : Entries) → IsProp (Lawful e)
lawful_prop e p q =
    λ i. record {
      few_trainees = le_prop p.few_trainees q.few_trainees i;
      few_practices = le_prop p.few_practices q.few_practices i;
      places_range = (let P : IsProp ((p : ℕ) → p < practices e → (1 ≤ places_of e p) × (places_of e p ≤ 400)) = hlevel props in P) p.places_range q.places_range i;
      lists_strict = Π_prop (λ t. Π_prop (λ h. strict_prop _ _)) p.lists_strict q.lists_strict i;
    }

-- what a ghost field that holds the law gives
pub lawful_from : {e : Entries} → ∥ Lawful e ∥₁ → Lawful e
lawful_from {e} h = ∥∥₁_elim h (lawful_prop e) (λ l. l)

pub strict_none : (n : ℕ) → Strict n []
strict_none n = record { short = omega arith; below = λ k l. absurd (omega arith); distinct = λ j k a l e. omega arith }

-- the list of anybody, also of a trainee that there is not
pub strict_of : (e : Entries) → Lawful e → (t : ℕ) → Strict (practices e) (list_of e t)
strict_of e h t = by (cases_lt t (trainees e))
  where
    by : (t < trainees e) ⊎ (trainees e ≤ t) → Strict (practices e) (list_of e t)
    by (inl l) = h.lists_strict t l
    by (inr l) = rw (get_or_past e.lists t [] l) (strict_none (practices e))

-- a strict list may be entered
pub lawful_listed : (m : Meaning) (t : ℕ) (list : List ℕ) → Lawful m.entries → t < trainees m.entries → Strict (practices m.entries) list → Lawful (with_list m t list).entries
lawful_listed m t list h l s =
    record {
      few_trainees = simp length-set h.few_trainees;
      few_practices = h.few_practices;
      places_range = h.places_range;
      lists_strict = λ u n. at u (cases_eq u t) (simp length-set at n);
    }
  where
    at : (u : ℕ) → (u ≡ t) ⊎ (u ≡ t → ⊥) → u < trainees m.entries → Strict (practices m.entries) (get_or (set m.entries.lists t list) u [])
    at u (inl p) n = rw (p, get_or-set_same m.entries.lists t list [] l) s
    at u (inr p) n = rw (get_or-set_other m.entries.lists t u list [] p) (h.lists_strict u n)

-- from 1 to 400 places may be set
pub lawful_placed : (m : Meaning) (p n : ℕ) → Lawful m.entries → p < practices m.entries → 1 ≤ n → n ≤ 400 → Lawful (with_places m p n).entries
lawful_placed m p n h l a b =
    record {
      few_trainees = h.few_trainees;
      few_practices = simp length-set h.few_practices;
      places_range = λ q k. at q (cases_eq q p) (simp length-set at k);
      lists_strict = λ t k. simp length-set (h.lists_strict t k);
    }
  where
    at : (q : ℕ) → (q ≡ p) ⊎ (q ≡ p → ⊥) → q < practices m.entries → (1 ≤ get_or (set m.entries.places p n) q 0) × (get_or (set m.entries.places p n) q 0 ≤ 400)
    at q (inl c) k = rw (c, get_or-set_same m.entries.places p n 0 l) (a, b)
    at q (inr c) k = rw (get_or-set_other m.entries.places p q n 0 c) (h.places_range q k)

-- what is entered without a refusal keeps the law
pub lawful_after_list : (m : Meaning) (t : ℕ) (list : List ℕ) → Lawful m.entries → m.rules.longest ≤ 12 → entry_refusal m t list ≡ None → Lawful (with_list m t list).entries
lawful_after_list m t list h most o = lawful_listed m t list h (admitted m t list o).trainee (strict_from_none m t list most o)

pub lawful_after_places : (m : Meaning) (p n : ℕ) → Lawful m.entries → places_refusal m p n ≡ None → Lawful (with_places m p n).entries
lawful_after_places m p n h o = let a = placeable m p n o in lawful_placed m p n h a.practice a.least a.most
