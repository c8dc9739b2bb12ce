-- What a layer shows is lawful where what it stands on is, and its lists are no longer. The proofs stand here, since the ghost members cite them and may cite no file of this crate's own proofs/.
use Rattle.std.specs.Prelude.{◌≡◌, ℕ, zero, suc, ◌<◌, ◌≤◌, min, Bool, true, false, cond, not, List, [], ◌∷◌, map, length, take, filter, ◌≢◌, slice_index_or, refl}
use Rattle.std.proofs.Common.{sym, arith, length-take, get_or-take}
use Rattle.std.proofs.lemmas.List.{length-map}
use Rattle.std.specs.List.{AllByRecursion}
use Rattle.std.proofs.ByRecursion.{all_kept_by, All-get_or, All-from_get_or}
use Rattle.std.proofs.lemmas.List.Filters.{length-filter_both}
use Rattle.rules.specs.Meaning.{Entries, Rules, Strict, Lawful, list_of}
use Rattle.rules.proofs.Positions.{Distinct}
use Rattle.layers.specs.Shown.{with_lists, shortened, shortened_rules, unclosed, without}

get_or_lists : (f : List ℕ → List ℕ) → f [] ≡ [] → (xs : List (List ℕ)) (t : ℕ) → slice_index_or (map f xs) t [] ≡ f (slice_index_or xs t [])
get_or_lists f e [] t = sym e
get_or_lists f e (x ∷ xs) zero = refl
get_or_lists f e (x ∷ xs) (suc t) = get_or_lists f e xs t

take_nothing : (n : ℕ) → take {A = ℕ} n [] ≡ []
take_nothing zero = refl
take_nothing (suc n) = refl

-- the list of anybody, also of a trainee that there is not
pub list_shortened : (most : ℕ) (e : Entries) (t : ℕ) → list_of (shortened most e) t ≡ take most (list_of e t)
list_shortened most e t = get_or_lists (take most) (take_nothing most) e.lists t

pub list_without : (closed : List Bool) (e : Entries) (t : ℕ) → list_of (without closed e) t ≡ filter (unclosed closed) (list_of e t)
list_without closed e t = get_or_lists (filter (unclosed closed)) refl e.lists t

lawful_with : (f : List ℕ → List ℕ) → f [] ≡ [] → ((n : ℕ) (l : List ℕ) → Strict n l → Strict n (f l)) → (e : Entries) → Lawful e → Lawful (with_lists f e)
lawful_with f z keeps e h =
    record {
      few_trainees = rw (length-map e.lists f) h.few_trainees;
      few_practices = h.few_practices;
      places_range = h.places_range;
      lists_strict = λ t l. rw (get_or_lists f z e.lists t) (keeps (length e.places) (slice_index_or e.lists t []) (h.lists_strict t (rw (length-map e.lists f) at l)));
    }

strict_take : (most n : ℕ) (list : List ℕ) → Strict n list → Strict n (take most list)
strict_take most n list h =
    record {
      short = simp length-take (omega (arith, h.short));
      below = λ k l. let a = within k l in rw (get_or-take most list k 0 a.0) (h.below k a.1);
      distinct = λ j k q l e.
          let a = within k l in
          let b : j < most = omega arith in
          h.distinct j k q a.1 (rw (get_or-take most list j 0 b, get_or-take most list k 0 a.0) at e);
    }
  where
    within : (k : ℕ) → k < length (take most list) → (k < most) × (k < length list)
    within k l = let q : k < min most (length list) = simp length-take at l in (omega arith, omega arith)

pub lawful_shortened : (most : ℕ) (e : Entries) → Lawful e → Lawful (shortened most e)
lawful_shortened most e h = lawful_with (take most) (take_nothing most) (strict_take most) e h

pub bounded_shortened : (most : ℕ) (r : Rules) → r.longest ≤ 12 → (shortened_rules most r).longest ≤ 12
bounded_shortened most r h = omega arith

-- a list without repeats, by its head
distinct_head : (x : ℕ) (xs : List ℕ) → Distinct (x ∷ xs) → AllByRecursion (λ y. x ≢ y) xs
distinct_head x xs d = All-from_get_or (λ y. x ≢ y) xs 0 (λ k l e. d 0 (suc k) (omega arith) (omega arith) e)

distinct_tail : (x : ℕ) (xs : List ℕ) → Distinct (x ∷ xs) → Distinct xs
distinct_tail x xs d j k l m e = d (suc j) (suc k) (omega arith) (omega arith) e

distinct_cons : (x : ℕ) (xs : List ℕ) → AllByRecursion (λ y. x ≢ y) xs → Distinct xs → Distinct (x ∷ xs)
distinct_cons x xs a d zero zero l m e = omega arith
distinct_cons x xs a d zero (suc k) l m e = All-get_or (λ y. x ≢ y) xs k 0 (omega arith) a e
distinct_cons x xs a d (suc j) zero l m e = omega arith
distinct_cons x xs a d (suc j) (suc k) l m e = d j k (omega arith) (omega arith) e

distinct_kept : (test : ℕ → Bool) (xs : List ℕ) → Distinct xs → Distinct (filter test xs)
distinct_kept test [] d = d
distinct_kept test (x ∷ xs) d = by (test x) (distinct_kept test xs (distinct_tail x xs d))
  where
    by : (b : Bool) → Distinct (filter test xs) → Distinct (cond b (x ∷ filter test xs) (filter test xs))
    by true rest = distinct_cons x (filter test xs) (all_kept_by test (λ y. x ≢ y) xs (distinct_head x xs d)) rest
    by false rest = rest

pub kept_most : (test : ℕ → Bool) (xs : List ℕ) → length (filter test xs) ≤ length xs
kept_most test xs = omega (arith, length-filter_both test (λ x. not (test x)) (λ x. refl) xs)

strict_kept : (test : ℕ → Bool) (n : ℕ) (list : List ℕ) → Strict n list → Strict n (filter test list)
strict_kept test n list h =
    record {
      short = omega (arith, h.short, kept_most test list);
      below = λ k l. All-get_or (λ p. p < n) (filter test list) k 0 l (all_kept_by test (λ p. p < n) list (All-from_get_or (λ p. p < n) list 0 h.below));
      distinct = distinct_kept test list h.distinct;
    }

pub lawful_without : (closed : List Bool) (e : Entries) → Lawful e → Lawful (without closed e)
lawful_without closed e h = lawful_with (filter (unclosed closed)) refl (strict_kept (unclosed closed)) e h
