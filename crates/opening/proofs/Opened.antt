-- What the check of an opening lets through, and a register just opened.
use Rattle.std.proofs.Common.{◌≡◌, ℕ, ◌<◌, ◌≤◌, leb, List, [], length, replicate, Some, None, Option, refl, arith}
use lib.ListN.{length-replicate}
use Rattle.std.proofs.lemmas.List.{get_or-replicate}
use Rattle.std.proofs.lemmas.Bool.{leb-true}
use Rattle.rules.specs.declared.words.Refusal.{Refusal}
use Rattle.rules.specs.Meaning.{Meaning, Lawful, nobody, practices, trainees}
use Rattle.rules.proofs.Checking.{passed}
use Rattle.rules.proofs.Lawfully.{strict_none}
use Rattle.opening.specs.Opening.{opening_refusal, opened, plain_rules}

pub record Roomy (practices trainees needed lent : ℕ) : Type 0 where
  pub few_practices : practices ≤ 100
  pub few_trainees : trainees ≤ 400
  pub room : needed ≤ lent

roomy : (P T needed lent : ℕ) → opening_refusal P T needed lent ≡ None → Roomy P T needed lent
roomy P T needed lent h =
    let a = passed (leb P 100) _ _ h in
    let b = passed (leb T 400) _ _ a.1 in
    let d = passed (leb needed lent) _ _ b.1 in
    record { few_practices = leb-true P 100 a.0; few_trainees = leb-true T 400 b.0; room = leb-true needed lent d.0 }

-- what holds of so many that have room, and of nobody, holds of a register just opened
pub however : (P T needed lent : ℕ) (Q : Meaning → Type 0) → (Roomy P T needed lent → Q (opened None P T)) → Q (record { entries = nobody; rules = plain_rules 0 }) → Q (opened (opening_refusal P T needed lent) P T)
however P T needed lent Q room none = by (opening_refusal P T needed lent) refl
  where
    by : (o : Option Refusal) → opening_refusal P T needed lent ≡ o → Q (opened o P T)
    by None e = room (roomy P T needed lent e)
    by (Some r) e = none

lawful_opened : (P T : ℕ) → P ≤ 100 → T ≤ 400 → Lawful (opened None P T).entries
lawful_opened P T few many =
    record {
      few_trainees = simp length-replicate many;
      few_practices = simp length-replicate few;
      places_range = λ p l. let m : p < P = simp length-replicate at l in rw (get_or-replicate {A = ℕ} P p 1 0 m) (omega arith, omega arith);
      lists_strict = λ t l. let m : t < T = simp length-replicate at l in rw (get_or-replicate {A = List ℕ} T t [] [] m) (strict_none (length (replicate {A = ℕ} P 1)));
    }

-- a register just opened keeps the law, all its lists are empty, and all its practices are open
pub record Fresh (m : Meaning) : Type 0 where
  pub lawful : Lawful m.entries
  pub empty : m.entries.lists ≡ replicate (trainees m.entries) []
  pub plain : m.rules ≡ plain_rules (practices m.entries)

pub fresh : (P T needed lent : ℕ) → Fresh (opened (opening_refusal P T needed lent) P T)
fresh P T needed lent =
    however P T needed lent Fresh
    (λ r. record { lawful = lawful_opened P T r.few_practices r.few_trainees; empty = simp length-replicate; plain = simp length-replicate })
    (record { lawful = lawful_opened 0 0 (omega arith) (omega arith); empty = refl; plain = refl })
