-- The worked rounds, by search of their placements.
use Rattle.std.proofs.Common.{◌≡◌, ℕ, ◌<◌, Bool, true, not, ◌&&◌, eqb, ltb, leb, List, [], ◌∷◌, length, get_or, refl, ◌∙◌, arith}
use Rattle.std.proofs.lemmas.Bool.{eqb-true, eqb-false, ltb-true, leb-true, not-true, and_parts}
use Rattle.std.proofs.lemmas.Bool.Decides.{Decides-below_and}
use Rattle.std.specs.List.{AllByRecursion}
use Rattle.rules.specs.Meaning.{Entries, Strict, Lawful, trainees, practices, places_of, list_of}
use Rattle.voting.specs.Placements.{Placement, seated, seats_of}
use Rattle.voting.specs.Votes.{Fullest}
use Rattle.voting.specs.Worked.{Outcome, seats, fullest, none_unbeaten, challenged, Says, Round, Holds, rounds, WorkedRounds}
use Rattle.voting.proofs.Rows.{some_row, found_row}
use Rattle.voting.proofs.Search.{below, is_feasible, decides_feasible, is_fullest, fullest_by_test, each_beaten, each_beaten_by_test, is_strongest, strongest_by_test}

abbrev is_said : Entries → Outcome → Bool
is_said e (seats k) = some_row e.lists (λ row. is_fullest e (seats_of row) && eqb (seated (trainees e) (seats_of row)) k)
is_said e (fullest row) = is_fullest e (seats_of row)
is_said e none_unbeaten = each_beaten e
is_said e (challenged row k) = is_feasible e (seats_of row) && some_row e.lists (λ rival. is_strongest e (seats_of row) k (seats_of rival))

-- two fullest placements seat as many
same_seated : (e : Entries) (M N : Placement) → Fullest e M → Fullest e N → seated (trainees e) M ≡ seated (trainees e) N
same_seated e M N f g = omega (arith, f.most N g.unbeaten, g.most M f.unbeaten)

said : (e : Entries) (o : Outcome) → is_said e o ≡ true → Says e o
said e (seats k) h =
    let r = found_row e.lists (λ row. is_fullest e (seats_of row) && eqb (seated (trainees e) (seats_of row)) k) h in
    let parts = and_parts (is_fullest e (seats_of r.0)) (eqb (seated (trainees e) (seats_of r.0)) k) r.1 in
    let full : Fullest e (seats_of r.0) = fullest_by_test e (seats_of r.0) parts.0 in
    ((seats_of r.0, full), λ M f. same_seated e M (seats_of r.0) f full ∙ eqb-true (seated (trainees e) (seats_of r.0)) k parts.1)
said e (fullest row) h = fullest_by_test e (seats_of row) h
said e none_unbeaten h = each_beaten_by_test e h
said e (challenged row k) h =
    let parts = and_parts (is_feasible e (seats_of row)) (some_row e.lists (λ rival. is_strongest e (seats_of row) k (seats_of rival))) h in
    let r = found_row e.lists (λ rival. is_strongest e (seats_of row) k (seats_of rival)) parts.1 in
    ((decides_feasible e (seats_of row)).0 parts.0, (seats_of r.0, strongest_by_test e (seats_of row) k (seats_of r.0) r.1))

abbrev all_said : Entries → List Outcome → Bool
all_said e [] = true
all_said e (o ∷ os) = is_said e o && all_said e os

each_said : (e : Entries) (os : List Outcome) → all_said e os ≡ true → AllByRecursion (Says e) os
each_said e [] h = tt
each_said e (o ∷ os) h = let parts = and_parts (is_said e o) (all_said e os) h in (said e o parts.0, each_said e os parts.1)

abbrev is_strict : ℕ → List ℕ → Bool
is_strict m l =
    leb (length l) 12 &&
    (below (length l) (λ k. ltb (get_or l k 0) m) && below (length l) (λ k. below k (λ j. not (eqb (get_or l j 0) (get_or l k 0)))))

all_below : (n : ℕ) (f : ℕ → Bool) → below n f ≡ true → (k : ℕ) → k < n → f k ≡ true
all_below n f = (Decides-below_and f (λ k. f k ≡ true) (λ n. below n f) (λ k. (λ h. h, λ h. h)) refl (λ _. refl) n).0

strict : (m : ℕ) (l : List ℕ) → is_strict m l ≡ true → Strict m l
strict m l h =
    let short = and_parts (leb (length l) 12) _ h in
    let rest = and_parts (below (length l) (λ k. ltb (get_or l k 0) m)) (below (length l) (λ k. below k (λ j. not (eqb (get_or l j 0) (get_or l k 0))))) short.1 in
    record {
      short = leb-true (length l) 12 short.0;
      below = λ k b. ltb-true (get_or l k 0) m (all_below (length l) (λ k. ltb (get_or l k 0) m) rest.0 k b);
      distinct = λ j k a b.
          eqb-false (get_or l j 0) (get_or l k 0)
          (not-true _ (all_below k (λ j. not (eqb (get_or l j 0) (get_or l k 0))) (all_below (length l) (λ k. below k (λ j. not (eqb (get_or l j 0) (get_or l k 0)))) rest.1 k b) j a));
    }

abbrev is_lawful : Entries → Bool
is_lawful e =
    (leb (trainees e) 400 && leb (practices e) 100) &&
    (below (practices e) (λ p. leb 1 (places_of e p) && leb (places_of e p) 400) && below (trainees e) (λ t. is_strict (practices e) (list_of e t)))

lawful : (e : Entries) → is_lawful e ≡ true → Lawful e
lawful e h =
    let parts = and_parts (leb (trainees e) 400 && leb (practices e) 100) _ h in
    let few = and_parts (leb (trainees e) 400) (leb (practices e) 100) parts.0 in
    let rest = and_parts (below (practices e) (λ p. leb 1 (places_of e p) && leb (places_of e p) 400)) (below (trainees e) (λ t. is_strict (practices e) (list_of e t))) parts.1 in
    record {
      few_trainees = leb-true (trainees e) 400 few.0;
      few_practices = leb-true (practices e) 100 few.1;
      places_range = λ p k.
          let range = and_parts (leb 1 (places_of e p)) (leb (places_of e p) 400) (all_below (practices e) (λ p. leb 1 (places_of e p) && leb (places_of e p) 400) rest.0 p k) in
          (leb-true 1 (places_of e p) range.0, leb-true (places_of e p) 400 range.1);
      lists_strict = λ t k. strict (practices e) (list_of e t) (all_below (trainees e) (λ t. is_strict (practices e) (list_of e t)) rest.1 t k);
    }

abbrev all_hold : List Round → Bool
all_hold [] = true
all_hold (r ∷ rs) = (is_lawful r.entries && all_said r.entries r.outcomes) && all_hold rs

each_holds : (rs : List Round) → all_hold rs ≡ true → AllByRecursion Holds rs
each_holds [] h = tt
each_holds (r ∷ rs) h =
    let parts = and_parts (is_lawful r.entries && all_said r.entries r.outcomes) (all_hold rs) h in
    let own = and_parts (is_lawful r.entries) (all_said r.entries r.outcomes) parts.0 in
    ((lawful r.entries own.0, each_said r.entries r.outcomes own.1), each_holds rs parts.1)

pub worked_rounds : WorkedRounds
worked_rounds = each_holds rounds refl
