-- All rows of allowed seats, searched: a test over them decides whether some placement has a property.
use Rattle.std.proofs.Common.{◌≡◌, ℕ, zero, suc, ◌<◌, Bool, true, false, cond, ◌||◌, eqb, ltb, List, [], ◌∷◌, length, get_or, Some, None, Decides, refl, subst, ⊎_elim, arith}
use Rattle.std.proofs.lemmas.Bool.{cases_Bool, both_ways, ltb-true, eqb-true, or_cases, or_parts}
use Rattle.rules.specs.Meaning.{Entries, trainees}
use Rattle.rules.specs.Questions.{position}
use Rattle.voting.specs.Placements.{Seat, Placement, Allowed, Feasible, seats_of}
use Rattle.voting.proofs.Ranks.{on_list, list_on}
use Rattle.voting.proofs.Alike.{Alike}

-- some seat that the list allows passes
abbrev some_seat : List ℕ → (Seat → Bool) → Bool
some_seat [] f = f None
some_seat (p ∷ ps) f = f (Some p) || some_seat ps f

-- some row of seats, one for each list, passes
abbrev pub some_row : List (List ℕ) → (List Seat → Bool) → Bool
some_row [] f = f []
some_row (l ∷ ls) f = some_seat l (λ s. some_row ls (λ row. f (s ∷ row)))

found_seat : (l : List ℕ) (f : Seat → Bool) → some_seat l f ≡ true → (s : Seat) × (f s ≡ true)
found_seat [] f h = (None, h)
found_seat (p ∷ ps) f h =
    ⊎_elim (λ (k : f (Some p) ≡ true). (Some p, k)) (λ (k : some_seat ps f ≡ true). found_seat ps f k) (or_cases (f (Some p)) (some_seat ps f) h)

pub found_row : (ls : List (List ℕ)) (f : List Seat → Bool) → some_row ls f ≡ true → (row : List Seat) × (f row ≡ true)
found_row [] f h = ([], h)
found_row (l ∷ ls) f h =
    let a = found_seat l (λ s. some_row ls (λ row. f (s ∷ row))) h in
    let b = found_row ls (λ row. f (a.0 ∷ row)) a.1 in
    (a.0 ∷ b.0, b.1)

no_seat : (l : List ℕ) (f : Seat → Bool) → some_seat l f ≡ false → (s : Seat) → Allowed l s → f s ≡ false
no_seat [] f h None a = h
no_seat [] f h (Some p) a = absurd (omega (arith, on_list [] p a))
no_seat (x ∷ xs) f h None a = no_seat xs f (or_parts (f (Some x)) (some_seat xs f) h).1 None tt
no_seat (x ∷ xs) f h (Some p) a = go (eqb x p) refl a (λ k. no_seat xs f (or_parts (f (Some x)) (some_seat xs f) h).1 (Some p) (list_on xs p k))
  where
    go : (b : Bool) → eqb x p ≡ b → ltb (cond b 0 (suc (position xs p))) (suc (length xs)) ≡ true → (position xs p < length xs → f (Some p) ≡ false) → f (Some p) ≡ false
    go true k a ih = subst (λ y. f (Some y) ≡ false) (eqb-true x p k) (or_parts (f (Some x)) (some_seat xs f) h).0
    go false k a ih = ih (omega (arith, ltb-true (suc (position xs p)) (suc (length xs)) a))

-- the seats of N for these lists
abbrev row_of : List (List ℕ) → Placement → List Seat
row_of [] N = []
row_of (l ∷ ls) N = N 0 ∷ row_of ls (λ t. N (suc t))

row_alike : (ls : List (List ℕ)) (N : Placement) → Alike (length ls) (seats_of (row_of ls N)) N
row_alike [] N t k = absurd (omega arith)
row_alike (l ∷ ls) N zero k = refl
row_alike (l ∷ ls) N (suc t) k = row_alike ls (λ t. N (suc t)) t (omega arith)

no_row :
    (ls : List (List ℕ)) (f : List Seat → Bool) → some_row ls f ≡ false → (N : Placement) →
    ((t : ℕ) → t < length ls → Allowed (get_or ls t []) (N t)) → f (row_of ls N) ≡ false
no_row [] f h N a = h
no_row (l ∷ ls) f h N a =
    no_row ls (λ row. f (N 0 ∷ row)) (no_seat l (λ s. some_row ls (λ row. f (s ∷ row))) h (N 0) (a 0 (omega arith))) (λ t. N (suc t))
    (λ t k. a (suc t) (omega arith))

-- a search over the rows of a roll decides whether some placement has the property
pub decides_some :
    (e : Entries) (P : Placement → Type 0) (test : Placement → Bool) → ((N : Placement) → Decides (test N) (P N)) →
    ((N : Placement) → P N → Feasible e N) → ((M N : Placement) → Alike (trainees e) M N → P N → P M) →
    Decides (some_row e.lists (λ row. test (seats_of row))) ((N : Placement) × P N)
decides_some e P test each feasible alike = (found, finds)
  where
    found : some_row e.lists (λ row. test (seats_of row)) ≡ true → (N : Placement) × P N
    found h = let r = found_row e.lists (λ row. test (seats_of row)) h in (seats_of r.0, (each (seats_of r.0)).0 r.1)

    finds : ((N : Placement) × P N) → some_row e.lists (λ row. test (seats_of row)) ≡ true
    finds n =
        ⊎_elim (λ (k : some_row e.lists (λ row. test (seats_of row)) ≡ true). k)
        (λ (k : some_row e.lists (λ row. test (seats_of row)) ≡ false).
        absurd
        (both_ways (test (seats_of (row_of e.lists n.0))) (no_row e.lists (λ row. test (seats_of row)) k n.0 (feasible n.0 n.1).allowed)
        ((each (seats_of (row_of e.lists n.0))).1 (alike (seats_of (row_of e.lists n.0)) n.0 (row_alike e.lists n.0) n.1))))
        (cases_Bool (some_row e.lists (λ row. test (seats_of row))))
