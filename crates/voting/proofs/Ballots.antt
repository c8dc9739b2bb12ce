-- A challenge by weights: what a placement weighs by ballots is the number of trainees and its majority.
use Rattle.std.proofs.Common.{◌≡◌, ℕ, ◌+◌, ◌-◌, ◌<◌, ◌≤◌, cond, List, Some, None, refl, ◌∙◌, arith}
use Rattle.std.proofs.lemmas.Bool.{cond-true, cond-false}
use Rattle.std.proofs.lemmas.Bool.Decides.{nat_tests}
use Rattle.rules.specs.Meaning.{Entries, trainees, list_of}
use Rattle.voting.specs.Totals.{one}
use Rattle.voting.specs.Placements.{Seat, Placement, Allowed, Feasible}
use Rattle.voting.specs.Votes.{prefers, votes, Unbeaten, Strongest}
use Rattle.voting.specs.Weights.{weight, Heaviest}
use Rattle.voting.specs.Ballots.{ballot}
use Rattle.voting.proofs.Totals.{total_add, total_same, total_one}
use Rattle.voting.proofs.Ranks.{rank, prefers_yes, prefers_no, prefers_itself}
use Rattle.voting.proofs.Majorities.{beats_more, majority_at_most, majority_exact}

-- one trainee's ballot
beside : (l : List ℕ) (m s : Seat) → cond (prefers l s m) 2 (cond (prefers l m s) 0 1) + one (prefers l m s) ≡ 1 + one (prefers l s m)
beside l None None = refl
beside l None (Some q) = refl
beside l (Some p) None = refl
beside l (Some p) (Some q) = grind (arith, nat_tests)

module _ (e : Entries) (M : Placement) where
  pub ballot_itself : (t : ℕ) → ballot e M t (M t) ≡ 1
  ballot_itself t = rw prefers_itself

  pub ballot_above : (t : ℕ) (s : Seat) → Allowed (list_of e t) s → rank (list_of e t) s < rank (list_of e t) (M t) → ballot e M t s ≡ 2
  ballot_above t s a h = cond-true (prefers (list_of e t) s (M t)) 2 _ (prefers_yes (list_of e t) s (M t) a h)

  pub ballot_below :
      (t : ℕ) (s : Seat) → Allowed (list_of e t) s → Allowed (list_of e t) (M t) → rank (list_of e t) (M t) < rank (list_of e t) s →
      ballot e M t s ≡ 0
  ballot_below t s a b h =
      cond-false (prefers (list_of e t) s (M t)) 2 _ (prefers_no (list_of e t) s (M t) a (omega arith)) ∙
      cond-true (prefers (list_of e t) (M t) s) 0 1 (prefers_yes (list_of e t) (M t) s b h)

  -- the ballots for N are the trainees, and the votes for N less those for M
  pub ballots : (N : Placement) → weight e (ballot e M) N + votes e M N ≡ trainees e + votes e N M
  ballots N =
      omega (
        arith,
        total_add (trainees e) (λ t. ballot e M t (N t)) (λ t. one (prefers (list_of e t) (M t) (N t))),
        total_add (trainees e) (λ t. 1) (λ t. one (prefers (list_of e t) (N t) (M t))),
        total_one (trainees e),
        total_same (trainees e) (λ t. ballot e M t (N t) + one (prefers (list_of e t) (M t) (N t))) (λ t. 1 + one (prefers (list_of e t) (N t) (M t)))
            (λ t l. beside (list_of e t) (M t) (N t)),
      )

  pub own_ballots : weight e (ballot e M) M ≡ trainees e
  own_ballots = total_same (trainees e) (λ t. ballot e M t (M t)) (λ t. 1) (λ t l. ballot_itself t) ∙ total_one (trainees e)

  -- a heaviest placement that weighs k more than the number of trainees is a strongest rival, with the majority k
  pub strongest_at : (N : Placement) (k : ℕ) → Heaviest e (ballot e M) N → weight e (ballot e M) N ≡ trainees e + k → Strongest e M k N
  strongest_at N k h w =
      record {
        feasible = h.feasible;
        exact = majority_exact e N M k (omega (arith, ballots N));
        greatest = λ O f. majority_at_most e O M k (omega (arith, ballots O, h.most O f));
      }

  -- each weighs at least that number, as M itself does
  pub strongest_by_ballots :
      (N : Placement) → Feasible e M → Heaviest e (ballot e M) N →
      (k : ℕ) × (weight e (ballot e M) N ≡ trainees e + k) × Strongest e M k N
  strongest_by_ballots N f h =
      let more : trainees e ≤ weight e (ballot e M) N = omega (arith, h.most M f, own_ballots) in
      let w : weight e (ballot e M) N ≡ trainees e + (weight e (ballot e M) N - trainees e) = omega arith in
      (weight e (ballot e M) N - trainees e, w, strongest_at N (weight e (ballot e M) N - trainees e) h w)

  -- M is unbeaten where it is a heaviest by its own ballots
  pub unbeaten_by_ballots : Heaviest e (ballot e M) M → Unbeaten e M
  unbeaten_by_ballots h =
      record { feasible = h.feasible; never = λ N f b. omega (arith, beats_more e N M b, h.most N f, ballots N, own_ballots) }
