-- Ranks: the vote by places on the own list. First choices, and the earliest that passes.
use Rattle.std.proofs.Common.{◌≡◌, ℕ, suc, ◌<◌, ◌≤◌, Bool, true, false, cond, eqb, ltb, List, [], ◌∷◌, length, Some, None, sym, refl, ap, ◌∙◌, arith}
use Rattle.std.proofs.lemmas.Bool.{both_ways, eq-eqb, ne_eqb, eqb-true, ltb-true, le-ltb, lt-ltb}
use Rattle.std.proofs.lemmas.Bool.Decides.{nat_tests}
use Rattle.rules.specs.Meaning.{Entries, trainees, places_of, list_of}
use Rattle.rules.specs.Questions.{position, listed}
use Rattle.voting.specs.Totals.{one, many}
use Rattle.voting.specs.Placements.{Seat, Placement, Allowed, Feasible, sits}
use Rattle.voting.specs.Votes.{prefers, votes}
use Rattle.voting.specs.Local.{first_choice, first_count, earliest}
use Rattle.voting.proofs.Totals.{total_same}

-- the place on the list, and the list's length for no seat
abbrev pub rank : List ℕ → Seat → ℕ
rank l None = length l
rank l (Some p) = position l p

pub position_le : (l : List ℕ) (p : ℕ) → position l p ≤ length l
position_le [] p = omega arith
position_le (x ∷ xs) p = let ih : position xs p ≤ length xs = position_le xs p in grind (arith, nat_tests)

pub rank_le : (l : List ℕ) (s : Seat) → rank l s ≤ length l
rank_le l None = omega arith
rank_le l (Some p) = position_le l p

-- what is listed stands before the list's end
pub on_list : (l : List ℕ) (p : ℕ) → listed l p ≡ true → position l p < length l
on_list l p a = ltb-true (position l p) (length l) a

pub list_on : (l : List ℕ) (p : ℕ) → position l p < length l → listed l p ≡ true
list_on l p h = lt-ltb (position l p) (length l) h

-- for an allowed seat, to be preferred is to have the lower rank
pub prefers_rank : (l : List ℕ) (a b : Seat) → Allowed l a → prefers l a b ≡ ltb (rank l a) (rank l b)
prefers_rank l None b h = sym (le-ltb (length l) (rank l b) (rank_le l b))
prefers_rank l (Some p) None h = sym h
prefers_rank l (Some p) (Some q) h = refl

pub prefers_yes : (l : List ℕ) (a b : Seat) → Allowed l a → rank l a < rank l b → prefers l a b ≡ true
prefers_yes l a b h k = prefers_rank l a b h ∙ lt-ltb (rank l a) (rank l b) k

pub prefers_no : (l : List ℕ) (a b : Seat) → Allowed l a → rank l b ≤ rank l a → prefers l a b ≡ false
prefers_no l a b h k = prefers_rank l a b h ∙ le-ltb (rank l a) (rank l b) k

pub prefers_itself : (l : List ℕ) (a : Seat) → prefers l a a ≡ false
prefers_itself l None = refl
prefers_itself l (Some p) = le-ltb (position l p) (position l p) (omega arith)

-- the votes for a feasible placement, by ranks
pub votes_by_rank :
    (e : Entries) (N M : Placement) → Feasible e N →
    votes e N M ≡ many (trainees e) (λ t. ltb (rank (list_of e t) (N t)) (rank (list_of e t) (M t)))
votes_by_rank e N M f =
    total_same (trainees e) (λ t. one (prefers (list_of e t) (N t) (M t))) (λ t. one (ltb (rank (list_of e t) (N t)) (rank (list_of e t) (M t))))
    (λ t l. ap one (prefers_rank (list_of e t) (N t) (M t) (f.allowed t l)))

-- p has more places than trainees whose first choice it is
abbrev pub spare : Entries → ℕ → Bool
spare e p = ltb (first_count e p) (places_of e p)

pub rank_first : (l : List ℕ) → rank l (first_choice l) ≡ 0
rank_first [] = refl
rank_first (x ∷ xs) = rw (eq-eqb x x refl)

-- only the first choice has the rank 0
pub first_from_rank : (l : List ℕ) (s : Seat) → Allowed l s → rank l s ≡ 0 → s ≡ first_choice l
first_from_rank [] None a h = refl
first_from_rank [] (Some p) a h = absurd (omega (arith, on_list [] p a))
first_from_rank (x ∷ xs) None a h = absurd (omega arith)
first_from_rank (x ∷ xs) (Some p) a h = let k : p ≡ x = grind (arith, nat_tests) in ap Some k

pub rank_cons : (x : ℕ) (xs : List ℕ) (s : Seat) → rank (x ∷ xs) s ≤ suc (rank xs s)
rank_cons x xs None = omega arith
rank_cons x xs (Some p) = grind (arith, nat_tests)

pub earliest_passes : (f : ℕ → Bool) (l : List ℕ) (q : ℕ) → earliest f l ≡ Some q → f q ≡ true
earliest_passes f [] q e = let z : ◌≡◌ {A = ℕ} 0 1 = cc in absurd (omega arith)
earliest_passes f (x ∷ xs) q e = go (f x) refl e (earliest_passes f xs q)
  where
    go : (b : Bool) → f x ≡ b → cond b (Some x) (earliest f xs) ≡ Some q → (earliest f xs ≡ Some q → f q ≡ true) → f q ≡ true
    go true c e ih = cc
    go false c e ih = ih e

-- none that passes stands before it
pub earliest_le : (f : ℕ → Bool) (l : List ℕ) (q : ℕ) → f q ≡ true → position l q < length l → rank l (earliest f l) ≤ position l q
earliest_le f [] q e h = omega arith
earliest_le f (x ∷ xs) q e h = go (f x) refl (earliest_le f xs q e)
  where
    go :
        (b : Bool) → f x ≡ b → (position xs q < length xs → rank xs (earliest f xs) ≤ position xs q) →
        rank (x ∷ xs) (cond b (Some x) (earliest f xs)) ≤ position (x ∷ xs) q
    go true c ih = rw (eq-eqb x x refl) (omega arith)
    go false c ih =
        let ne : eqb x q ≡ false = ne_eqb x q (λ k. both_ways (f q) (cc) e) in
        let k : position (x ∷ xs) q ≡ suc (position xs q) = rw ne in
        omega (arith, k, ih (omega (arith, k, h)), rank_cons x xs (earliest f xs))

-- the first choice is on the list
pub first_on : (l : List ℕ) (p : ℕ) → first_choice l ≡ Some p → position l p < length l
first_on [] p e = let z : ◌≡◌ {A = ℕ} 0 1 = cc in absurd (omega arith)
first_on (x ∷ xs) p e = let k : x ≡ p = cc in rw (eq-eqb x p k) (omega arith)

pub earliest_on : (f : ℕ → Bool) (l : List ℕ) (q : ℕ) → earliest f l ≡ Some q → position l q < length l
earliest_on f [] q e = let z : ◌≡◌ {A = ℕ} 0 1 = cc in absurd (omega arith)
earliest_on f (x ∷ xs) q e = go (f x) refl e (earliest_on f xs q)
  where
    go : (b : Bool) → f x ≡ b → cond b (Some x) (earliest f xs) ≡ Some q → (earliest f xs ≡ Some q → position xs q < length xs) → position (x ∷ xs) q < length (x ∷ xs)
    go true c e ih = let k : x ≡ q = cc in rw (eq-eqb x q k) (omega arith)
    go false c e ih = omega (arith, rank_cons x xs (Some q), ih e)

pub earliest_allowed : (f : ℕ → Bool) (l : List ℕ) → Allowed l (earliest f l)
earliest_allowed f l = go (earliest f l) refl
  where
    go : (s : Seat) → earliest f l ≡ s → Allowed l s
    go None k = tt
    go (Some q) k = list_on l q (earliest_on f l q k)

pub first_allowed : (l : List ℕ) → Allowed l (first_choice l)
first_allowed [] = tt
first_allowed (x ∷ xs) = list_on (x ∷ xs) x (first_on (x ∷ xs) x refl)

pub same_position : (l : List ℕ) (p q : ℕ) → position l p < length l → position l p ≡ position l q → p ≡ q
same_position [] p q a e = omega arith
same_position (x ∷ xs) p q a e =
    let ih : position xs p < length xs → position xs p ≡ position xs q → p ≡ q = same_position xs p q in
    grind (arith, nat_tests)

-- two allowed seats of one rank are one
pub same_rank : (l : List ℕ) (a b : Seat) → Allowed l a → Allowed l b → rank l a ≡ rank l b → a ≡ b
same_rank l None None a b e = refl
same_rank l None (Some q) a b e = absurd (omega (arith, on_list l q b))
same_rank l (Some p) None a b e = absurd (omega (arith, on_list l p a))
same_rank l (Some p) (Some q) a b e = ap Some (same_position l p q (on_list l p a) e)

pub sits_some : (s : Seat) (p : ℕ) → sits s p ≡ true → s ≡ Some p
sits_some None p k = let z : ◌≡◌ {A = ℕ} 0 1 = cc in absurd (omega arith)
sits_some (Some q) p k = ap Some (eqb-true q p k)
