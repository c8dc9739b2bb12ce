-- The run of each trainee of a lawful roll, and what it tells of the list.
use Rattle.std.proofs.Common.{◌≡◌, ℕ, ◌+◌, ◌-◌, ◌<◌, ◌≤◌, max, ◌==◌, true, false, Option, None, Some, option_map, unwrap_or, ◌⊎◌, List, [], length, get_or, refl, ap, ◌∙◌, inl, inr, arith}
use Rattle.std.specs.List.{reduce, position as first_passing}
use Rattle.std.specs.Option.{SomeIff}
use Rattle.std.proofs.lemmas.List.{get_or_past}
use Rattle.std.proofs.lemmas.Bool.{lt-ltb, le-ltb, cases_lt, cases_Bool}
use Rattle.rules.specs.Meaning.{Entries, Strict, Lawful, trainees, practices, list_of}
use Rattle.rules.specs.Questions.{listed, position, choice_in, position_in}
use Rattle.rules.proofs.Finding.{found_in}
use Rattle.rules.proofs.Lawfully.{strict_none}
use Rattle.rank_grid.specs.Ranks.{rank, ranks, run_of}
use Rattle.rank_grid.proofs.Ranking.{rank_listed, rank_unlisted, length_ranks, ranks_at, ranks_greatest, ranks_choice}

-- a run as wide as the grid, or no run
record Running (e : Entries) (run list : List ℕ) : Type 0 where
  wide : ℕ
  fits : wide ≤ practices e
  strict : Strict wide list
  is : run ≡ ranks wide list

running : (e : Entries) → Lawful e → (t : ℕ) → Running e (run_of e t) (list_of e t)
running e law t = by (cases_lt t (trainees e))
  where
    by : (t < trainees e) ⊎ (trainees e ≤ t) → Running e (run_of e t) (list_of e t)
    by (inl l) = record { wide = practices e; fits = omega arith; strict = law.lists_strict t l; is = rw (lt-ltb t (trainees e) l) }
    by (inr l) = record { wide = 0; fits = omega arith; strict = rw (get_or_past e.lists t [] l) (strict_none 0); is = rw (le-ltb t (trainees e) l) refl }

module _ (e : Entries) (law : Lawful e) (t : ℕ) where
  pub run_wide : length (run_of e t) ≤ practices e
  run_wide = let r = running e law t in omega (arith, ap length r.is, length_ranks r.wide (list_of e t), r.fits)

  pub run_greatest : unwrap_or (reduce max (run_of e t)) 0 ≡ length (list_of e t)
  run_greatest = let r = running e law t in rw r.is (ranks_greatest r.wide (list_of e t) r.strict)

  pub run_rank : (p : ℕ) → get_or (run_of e t) p 0 ≡ rank (list_of e t) p
  run_rank p = let r = running e law t in rw r.is (ranks_at r.wide (list_of e t) r.strict p)

  pub run_choice : (k : ℕ) → option_map (λ p. record { 0 = p }) (position_in (run_of e t) (k + 1)) ≡ choice_in (list_of e t) k
  run_choice k = let r = running e law t in rw r.is (ranks_choice r.wide (list_of e t) r.strict k)

-- one less than a rank is the position, and there is none of 0
pub position_by_rank : (o : Option ℕ) (xs : List ℕ) (p r : ℕ) → SomeIff o (1 ≤ r) (r - 1) → r ≡ rank xs p → o ≡ position_in xs p
position_by_rank None xs p r h e = by (cases_Bool (listed xs p))
  where
    by : (listed xs p ≡ true) ⊎ (listed xs p ≡ false) → None ≡ position_in xs p
    by (inl b) = absurd (h (omega (arith, rank_listed xs p b)))
    by (inr b) = rw b
position_by_rank (Some q) xs p r h e = by (cases_Bool (listed xs p))
  where
    by : (listed xs p ≡ true) ⊎ (listed xs p ≡ false) → Some q ≡ position_in xs p
    by (inl b) = let k : q ≡ position xs p = omega (arith, h.1, rank_listed xs p b) in rw (b, k)
    by (inr b) = absurd (omega (arith, h.0, rank_unlisted xs p b))

-- the choice where its rank is found
pub choice_by_place : (e : Entries) → Lawful e → (t k : ℕ) (o : Option ℕ) → o ≡ first_passing (λ r. r == (k + 1)) (run_of e t) → option_map (λ p. record { 0 = p }) o ≡ choice_in (list_of e t) k
choice_by_place e law t k o h = ap (option_map (λ p. record { 0 = p })) (h ∙ found_in (run_of e t) (k + 1)) ∙ run_choice e law t k
