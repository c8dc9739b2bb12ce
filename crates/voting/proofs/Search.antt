-- Tests by search of all placements, and what they decide: feasible, beaten, unbeaten, fullest and strongest.
use Rattle.std.proofs.Common.{◌≡◌, ℕ, zero, suc, ◌+◌, ◌<◌, ◌≤◌, Bool, true, false, not, ◌&&◌, eqb, ltb, leb, ◌⊎◌, Some, None, Decides, refl, ap, inl, inr, ⊎_elim, arith}
use Rattle.std.proofs.lemmas.Bool.{cases_lt, cases_Bool, both_ways, leb-true, le-leb, eqb-true, and_parts, ne_eqb}
use Rattle.std.proofs.lemmas.Bool.Decides.{Decides-and, Decides-not, Decides-like, Decides-ltb, Decides-below_and}
use Rattle.rules.specs.Meaning.{Entries, trainees, practices, places_of, list_of}
use Rattle.rules.specs.Questions.{listed}
use Rattle.voting.specs.Totals.{one}
use Rattle.voting.specs.Placements.{Seat, Placement, Allowed, Feasible, sits, seated_at, seated, seats_of}
use Rattle.voting.specs.Votes.{votes, Beats, Unbeaten, Fullest, EachBeaten, Strongest}
use Rattle.voting.proofs.Totals.{total_none}
use Rattle.voting.proofs.Majorities.{beats_more, more_beats, majority_exact, majority_at_most}
use Rattle.voting.proofs.Certificate.{Within, within}
use Rattle.voting.proofs.Alike.{seated_alike, votes_alike, feasible_alike, beats_alike, unbeaten_alike}
use Rattle.voting.proofs.Rows.{some_row, decides_some}

-- all numbers below n pass
abbrev pub below : ℕ → (ℕ → Bool) → Bool
below zero f = true
below (suc n) f = f n && below n f

-- the trainee may have the seat: none, or a practice of the own list that there is
abbrev may_have : Entries → ℕ → Seat → Bool
may_have e t None = true
may_have e t (Some p) = listed (list_of e t) p && ltb p (practices e)

abbrev MayHave : Entries → ℕ → Seat → Type 0
MayHave e t s = Allowed (list_of e t) s × Within (practices e) s

decides_may_have : (e : Entries) (t : ℕ) (s : Seat) → Decides (may_have e t s) (MayHave e t s)
decides_may_have e t None = (λ _. (tt, tt), λ _. refl)
decides_may_have e t (Some p) = Decides-and (listed (list_of e t) p) (ltb p (practices e)) (λ h. h, λ h. h) (Decides-ltb p (practices e))

abbrev pub is_feasible : Entries → Placement → Bool
is_feasible e M =
    below (trainees e) (λ t. may_have e t (M t)) && below (practices e) (λ p. leb (seated_at (trainees e) M p) (places_of e p))

pub decides_feasible : (e : Entries) (M : Placement) → Decides (is_feasible e M) (Feasible e M)
decides_feasible e M =
    Decides-like (is_feasible e M) make split
    (Decides-and (below (trainees e) (λ t. may_have e t (M t))) (below (practices e) (λ p. leb (seated_at (trainees e) M p) (places_of e p)))
    (Decides-below_and (λ t. may_have e t (M t)) (λ t. MayHave e t (M t)) (λ n. below n (λ t. may_have e t (M t))) (λ t. decides_may_have e t (M t)) refl (λ _. refl) (trainees e))
    (Decides-below_and (λ p. leb (seated_at (trainees e) M p) (places_of e p)) (λ p. seated_at (trainees e) M p ≤ places_of e p) (λ n. below n (λ p. leb (seated_at (trainees e) M p) (places_of e p)))
    (λ p. (leb-true (seated_at (trainees e) M p) (places_of e p), le-leb (seated_at (trainees e) M p) (places_of e p))) refl (λ _. refl) (practices e)))
  where
    nobody_past : (p : ℕ) → practices e ≤ p → (s : Seat) → Within (practices e) s → sits s p ≡ false
    nobody_past p h None w = refl
    nobody_past p h (Some q) w = ne_eqb q p (omega arith)

    make : (((t : ℕ) → t < trainees e → MayHave e t (M t)) × ((p : ℕ) → p < practices e → seated_at (trainees e) M p ≤ places_of e p)) → Feasible e M
    make h =
        record {
          allowed = λ t l. (h.0 t l).0;
          fits = λ p.
              ⊎_elim (λ (k : p < practices e). h.1 p k)
              (λ (k : practices e ≤ p).
              omega (arith, total_none (trainees e) (λ t. one (sits (M t) p)) (λ t l. ap one (nobody_past p k (M t) (h.0 t l).1))))
              (cases_lt p (practices e));
        }

    split : Feasible e M → ((t : ℕ) → t < trainees e → MayHave e t (M t)) × ((p : ℕ) → p < practices e → seated_at (trainees e) M p ≤ places_of e p)
    split f = (λ t l. (f.allowed t l, within e M f t l), λ p _. f.fits p)

-- N is a feasible rival that beats M
abbrev Rival : Entries → Placement → Placement → Type 0
Rival e M N = Feasible e N × Beats e N M

abbrev is_rival : Entries → Placement → Placement → Bool
is_rival e M N = is_feasible e N && ltb (votes e M N) (votes e N M)

decides_rival : (e : Entries) (M N : Placement) → Decides (is_rival e M N) (Rival e M N)
decides_rival e M N =
    Decides-and (is_feasible e N) (ltb (votes e M N) (votes e N M)) (decides_feasible e N)
    (Decides-like (ltb (votes e M N) (votes e N M)) (more_beats e N M) (beats_more e N M) (Decides-ltb (votes e M N) (votes e N M)))

abbrev is_beaten : Entries → Placement → Bool
is_beaten e M = some_row e.lists (λ row. is_rival e M (seats_of row))

pub decides_beaten : (e : Entries) (M : Placement) → Decides (is_beaten e M) ((N : Placement) × Rival e M N)
decides_beaten e M =
    decides_some e (Rival e M) (is_rival e M) (decides_rival e M) (λ N r. r.0)
    (λ N O h r. (feasible_alike e N O h r.0, beats_alike e N O M M h (λ t l. refl) r.1))

-- a feasible placement is beaten by one that can be named, or it is unbeaten
pub rival_or_unbeaten : (e : Entries) (M : Placement) → Feasible e M → ((N : Placement) × Feasible e N × Beats e N M) ⊎ Unbeaten e M
rival_or_unbeaten e M f =
    ⊎_elim (λ (k : is_beaten e M ≡ true). let r = (decides_beaten e M).0 k in inl (r.0, r.1.0, r.1.1))
    (λ (k : is_beaten e M ≡ false). inr (record { feasible = f; never = λ N g b. both_ways (is_beaten e M) k ((decides_beaten e M).1 (N, (g, b))) }))
    (cases_Bool (is_beaten e M))

abbrev is_unbeaten : Entries → Placement → Bool
is_unbeaten e M = is_feasible e M && not (is_beaten e M)

pub decides_unbeaten : (e : Entries) (M : Placement) → Decides (is_unbeaten e M) (Unbeaten e M)
decides_unbeaten e M =
    Decides-like (is_unbeaten e M) (λ h. record { feasible = h.0; never = λ N g b. h.1 (N, (g, b)) }) (λ un. (un.feasible, λ r. un.never r.0 r.1.0 r.1.1))
    (Decides-and (is_feasible e M) (not (is_beaten e M)) (decides_feasible e M) (Decides-not (is_beaten e M) (decides_beaten e M)))

-- an unbeaten placement that seats more than k
abbrev is_fuller : Entries → ℕ → Placement → Bool
is_fuller e k N = is_unbeaten e N && ltb k (seated (trainees e) N)

abbrev Fuller : Entries → ℕ → Placement → Type 0
Fuller e k N = Unbeaten e N × (k < seated (trainees e) N)

decides_fuller : (e : Entries) (k : ℕ) → Decides (some_row e.lists (λ row. is_fuller e k (seats_of row))) ((N : Placement) × Fuller e k N)
decides_fuller e k =
    decides_some e (Fuller e k) (is_fuller e k)
    (λ N. Decides-and (is_unbeaten e N) (ltb k (seated (trainees e) N)) (decides_unbeaten e N) (Decides-ltb k (seated (trainees e) N)))
    (λ N h. h.0.feasible) (λ N O h u. (unbeaten_alike e N O h u.0, omega (arith, u.1, seated_alike (trainees e) N O h)))

abbrev pub is_fullest : Entries → Placement → Bool
is_fullest e M = is_unbeaten e M && not (some_row e.lists (λ row. is_fuller e (seated (trainees e) M) (seats_of row)))

pub fullest_by_test : (e : Entries) (M : Placement) → is_fullest e M ≡ true → Fullest e M
fullest_by_test e M h =
    record {
      unbeaten = (decides_unbeaten e M).0 parts.0;
      most = λ N un.
          ⊎_elim (λ (k : seated (trainees e) M < seated (trainees e) N).
          absurd ((Decides-not _ (decides_fuller e (seated (trainees e) M))).0 parts.1 (N, (un, k)))) (λ k. k)
          (cases_lt (seated (trainees e) M) (seated (trainees e) N));
    }
  where
    parts : (is_unbeaten e M ≡ true) × (not (some_row e.lists (λ row. is_fuller e (seated (trainees e) M) (seats_of row))) ≡ true)
    parts = and_parts _ _ h

abbrev pub each_beaten : Entries → Bool
each_beaten e = not (some_row e.lists (λ row. is_unbeaten e (seats_of row)))

pub each_beaten_by_test : (e : Entries) → each_beaten e ≡ true → EachBeaten e
each_beaten_by_test e h M f =
    ⊎_elim (λ (r : (N : Placement) × Feasible e N × Beats e N M). r)
    (λ (un : Unbeaten e M).
    absurd
    ((Decides-not _ (decides_some e (Unbeaten e) (is_unbeaten e) (decides_unbeaten e) (λ N u. u.feasible) (unbeaten_alike e))).0 h (M, un)))
    (rival_or_unbeaten e M f)

-- a feasible placement with a majority over M that exceeds k
abbrev is_stronger : Entries → Placement → ℕ → Placement → Bool
is_stronger e M k N = is_feasible e N && ltb (votes e M N + k) (votes e N M)

abbrev Stronger : Entries → Placement → ℕ → Placement → Type 0
Stronger e M k N = Feasible e N × (votes e M N + k < votes e N M)

decides_stronger :
    (e : Entries) (M : Placement) (k : ℕ) →
    Decides (some_row e.lists (λ row. is_stronger e M k (seats_of row))) ((N : Placement) × Stronger e M k N)
decides_stronger e M k =
    decides_some e (Stronger e M k) (is_stronger e M k)
    (λ N. Decides-and (is_feasible e N) (ltb (votes e M N + k) (votes e N M)) (decides_feasible e N) (Decides-ltb (votes e M N + k) (votes e N M)))
    (λ N h. h.0)
    (λ N O h s. (feasible_alike e N O h s.0, omega (arith, s.1, votes_alike e N O M M h (λ t l. refl), votes_alike e M M N O (λ t l. refl) h)))

abbrev pub is_strongest : Entries → Placement → ℕ → Placement → Bool
is_strongest e M k N =
    (is_feasible e N && eqb (votes e N M) (votes e M N + k)) && not (some_row e.lists (λ row. is_stronger e M k (seats_of row)))

pub strongest_by_test : (e : Entries) (M : Placement) (k : ℕ) (N : Placement) → is_strongest e M k N ≡ true → Strongest e M k N
strongest_by_test e M k N h =
    record {
      feasible = (decides_feasible e N).0 own.0;
      exact = majority_exact e N M k (eqb-true _ _ own.1);
      greatest = λ O f.
          ⊎_elim (λ (l : votes e M O + k < votes e O M). absurd ((Decides-not _ (decides_stronger e M k)).0 parts.1 (O, (f, l))))
          (λ (l : votes e O M ≤ votes e M O + k). majority_at_most e O M k l)
          (cases_lt (votes e M O + k) (votes e O M));
    }
  where
    parts : ((is_feasible e N && eqb (votes e N M) (votes e M N + k)) ≡ true) × (not (some_row e.lists (λ row. is_stronger e M k (seats_of row))) ≡ true)
    parts = and_parts _ _ h

    own : (is_feasible e N ≡ true) × (eqb (votes e N M) (votes e M N + k) ≡ true)
    own = and_parts _ _ parts.0
