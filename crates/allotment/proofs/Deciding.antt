-- What the heaviest placements decide, in the words of the calls.
use Rattle.std.proofs.Common.{◌≡◌, ℕ, ◌-◌, ◌*◌, ◌<◌, ◌≤◌, Bool, true, false, cond, List, map, length, Some, None, Option, subst, ap₂, arith}
use Rattle.std.specs.List.{sum}
use mathlib.Core.Path.{fun_ext}
use Rattle.rules.specs.declared.words.Practice.{Practice}
use Rattle.rules.specs.Meaning.{Entries, Lawful, trainees, list_of}
use Rattle.voting.specs.Ballots.{ballot}
use Rattle.voting.specs.Placements.{Seat, Placement, Allowed, Feasible, seating}
use Rattle.voting.specs.Votes.{prefers, Strongest, EachBeaten}
use Rattle.voting.specs.Weights.{Weighing, weight, Heaviest}
use Rattle.voting.proofs.Ballots.{strongest_by_ballots}
use Rattle.voting.proofs.Totals.{total_le, total_const}
use Rattle.allotment.specs.declared.lists.Lists.{Lists}
use Rattle.allotment.specs.declared.by_firsts.ByFirsts.{ByFirsts}
use Rattle.allotment.specs.Bytes.{offered_by}
use Rattle.allotment.specs.Copies.{entries}
use Rattle.allotment.specs.Counts.{Below}
use Rattle.allotment.specs.Tabled.{by_lists, beside, weight_at, WhetherAllWeigh}
use Rattle.allotment.specs.Weights.{firsts_in, places_in, by_firsts, by_ballot, allot_weights, Holds}
use Rattle.allotment.proofs.Fullest.{each_beaten_by_weights}
use Rattle.allotment.proofs.Listed.{listed_few}
use Rattle.allotment.proofs.Sums.{weight_summed}

-- a weighing that knows the roll weighs as allot does
pub holds_weights :
    (e : Entries) (b : ByFirsts) → Holds e b →
    by_lists e (λ t list s. by_firsts (firsts_in b.demands.items) (places_in b.demands.items) list s) ≡ allot_weights e
holds_weights e b k =
    let by : (ℕ → ℕ) → (ℕ → ℕ) → Weighing = λ c p t s. by_firsts c p (list_of e t) s in
    ap₂ by (fun_ext k.firsts) (fun_ext k.places)

-- and so what it finds holds of allot's weights
pub holds_weigh :
    (e : Entries) (b : ByFirsts) (M : Placement) (r : Bool) → Holds e b →
    WhetherAllWeigh e (by_lists e (λ t list s. by_firsts (firsts_in b.demands.items) (places_in b.demands.items) list s)) M r → WhetherAllWeigh e (allot_weights e) M r
holds_weigh e b M r k h = subst (λ w. WhetherAllWeigh e w M r) (holds_weights e b k) h

pub beaten_by_one : (e : Entries) (M : Placement) → Lawful e → Heaviest e (allot_weights e) M → WhetherAllWeigh e (allot_weights e) M false → EachBeaten e
beaten_by_one e M lawful best x = each_beaten_by_weights e M lawful best x.0 x.1 x.2 x.3

-- seats of a feasible placement fit a byte
pub seats_below : (e : Entries) (M : Placement) → Lawful e → Feasible e M → (t : ℕ) → t < trainees e → Below 255 (M t)
seats_below e M lawful f t l = go (M t) (f.allowed t l)
  where
    go : (s : Seat) → Allowed (list_of e t) s → Below 255 s
    go None a = tt
    go (Some p) a = omega (arith, listed_few e lawful t p a)

-- the greatest majority is at most the number of trainees
pub ballots_most : (e : Entries) (M N : Placement) → weight e (ballot e M) N ≤ trainees e * 2
ballots_most e M N =
    omega (arith, total_le (trainees e) (λ t. ballot e M t (N t)) (λ t. 2) (λ t l. go (prefers (list_of e t) (N t) (M t)) (prefers (list_of e t) (M t) (N t))), total_const (trainees e) 2)
  where
    go : (a b : Bool) → cond a 2 (cond b 0 1) ≤ 2
    go true b = omega arith
    go false true = omega arith
    go false false = omega arith

pub ballots_least : (e : Entries) (M N : Placement) → Feasible e M → Heaviest e (ballot e M) N → trainees e ≤ weight e (ballot e M) N
ballots_least e M N f h = omega (arith, (strongest_by_ballots e M N f h).1)

-- a heaviest placement by ballots is a strongest rival, and its majority what it weighs above the number of trainees
pub strongest_heaviest :
    (e : Entries) (M N : Placement) (w : ℕ) → Feasible e M → Heaviest e (ballot e M) N → w ≡ weight e (ballot e M) N →
    Strongest e M (w - trainees e) N
strongest_heaviest e M N w f h k =
    let b = strongest_by_ballots e M N f h in
    subst (λ x. Strongest e M x N) (let i : b.0 ≡ w - trainees e = omega (arith, b.1) in i) b.2

-- what seats weigh together by the ballots
pub ballots_summed :
    (L : Lists) (offered : List ℕ) (seats : List (Option Practice)) → length L.lists.items ≤ length seats →
    sum (map (weight_at (λ t list s. by_ballot list (offered_by offered t) s)) (beside L.lists.items seats)) ≡
    weight (entries L) (ballot (entries L) (offered_by offered)) (seating seats)
ballots_summed L offered seats enough = weight_summed L seats enough (λ t list s. by_ballot list (offered_by offered t) s)
