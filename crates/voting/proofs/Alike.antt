-- What stands past the last trainee does not count.
use Rattle.std.proofs.Common.{◌≡◌, ℕ, ◌<◌, sym, refl, ap, subst, ap₂, arith}
use Rattle.rules.specs.Meaning.{Entries, trainees, list_of}
use Rattle.voting.specs.Totals.{one}
use Rattle.voting.specs.Placements.{Placement, Allowed, Feasible, sits, placed, seated_at, seated}
use Rattle.voting.specs.Votes.{prefers, votes, Beats, Unbeaten}
use Rattle.voting.proofs.Totals.{total_same}
use Rattle.voting.proofs.Majorities.{beats_more, more_beats}

-- the same seat for each of the first n trainees
abbrev pub Alike : ℕ → Placement → Placement → Type 0
Alike n M N = (t : ℕ) → t < n → M t ≡ N t

pub seated_at_alike : (n : ℕ) (M N : Placement) (p : ℕ) → Alike n M N → seated_at n M p ≡ seated_at n N p
seated_at_alike n M N p h = total_same n (λ t. one (sits (M t) p)) (λ t. one (sits (N t) p)) (λ t l. ap (λ s. one (sits s p)) (h t l))

pub seated_alike : (n : ℕ) (M N : Placement) → Alike n M N → seated n M ≡ seated n N
seated_alike n M N h = total_same n (λ t. one (placed (M t))) (λ t. one (placed (N t))) (λ t l. ap (λ s. one (placed s)) (h t l))

pub votes_alike : (e : Entries) (M N O P : Placement) → Alike (trainees e) M N → Alike (trainees e) O P → votes e M O ≡ votes e N P
votes_alike e M N O P h k =
    total_same (trainees e) (λ t. one (prefers (list_of e t) (M t) (O t))) (λ t. one (prefers (list_of e t) (N t) (P t)))
    (λ t l. ap₂ (λ a b. one (prefers (list_of e t) a b)) (h t l) (k t l))

pub feasible_alike : (e : Entries) (M N : Placement) → Alike (trainees e) M N → Feasible e N → Feasible e M
feasible_alike e M N h f =
    record {
      allowed = λ t l. subst (λ s. Allowed (list_of e t) s) (sym (h t l)) (f.allowed t l);
      fits = λ p. omega (arith, f.fits p, seated_at_alike (trainees e) M N p h);
    }

pub beats_alike :
    (e : Entries) (M N O P : Placement) → Alike (trainees e) M N → Alike (trainees e) O P → Beats e N P → Beats e M O
beats_alike e M N O P h k b =
    more_beats e M O (omega (arith, beats_more e N P b, votes_alike e M N O P h k, votes_alike e O P M N k h))

pub unbeaten_alike : (e : Entries) (M N : Placement) → Alike (trainees e) M N → Unbeaten e N → Unbeaten e M
unbeaten_alike e M N h un =
    record {
      feasible = feasible_alike e M N h un.feasible;
      never = λ O f b. un.never O f (beats_alike e O O N M (λ t l. refl) (λ t l. sym (h t l)) b);
    }
