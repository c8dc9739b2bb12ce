-- Rows and tables that hold lists and weights.
use Rattle.std.proofs.Common.{◌≡◌, ℕ, ◌+◌, ◌^◌, ◌<◌, ◌≤◌, List, [], ◌∷◌, ◌++◌, map, length, get_or, take, Some, None, Ok, Err, Result, sym, refl, ap, ◌∙◌, subst, ap₂, ⊎_elim, arith}
use Rattle.std.proofs.lemmas.List.{length-map, get_or-map, length-take-le, take_more, take_all}
use Rattle.std.proofs.lemmas.Bool.{cases_eq}
use Rattle.rules.specs.declared.words.Practice.{Practice}
use Rattle.rules.specs.Meaning.{Entries, Strict, Lawful, trainees, practices, list_of}
use Rattle.rules.specs.Questions.{position, numbers}
use Rattle.rules.proofs.Numbers.{number, length_numbers}
use Rattle.voting.specs.Placements.{Seat, Placement, Allowed, Feasible}
use Rattle.voting.specs.Weights.{Weighing, weight, Heaviest}
use Rattle.voting.proofs.Totals.{total_same}
use Rattle.voting.proofs.Ranks.{on_list}
use Rattle.assignment.specs.declared.row.Choice.{Choice}
use Rattle.assignment.specs.declared.row.Row.{Row}
use Rattle.assignment.specs.declared.table.NotTaken.{NotTaken}
use Rattle.assignment.specs.declared.table.Table.{Table}
use Rattle.assignment.specs.Rows.{no_choice, row_of, list, size, weight_of, weigh, GoodRow}
use Rattle.assignment.proofs.Lists.{row_choices, position_get, strict_good}
use Rattle.assignment.specs.Tables.{entries, weights, Takes, Extended, Added}
use Rattle.allotment.specs.Tabled.{choice_by, Weighed, Filled, Tabled}
use Rattle.allotment.specs.Vectors.{no_practice}

-- the row of a list, with what each of its choices and no seat weigh
module _ (w : Seat → ℕ) (ps : List Practice) (none : ℕ) where
  list_made : list (row_of (map (choice_by w) ps) none) ≡ numbers ps
  list_made = ap (map (λ (c : Choice). c.practice.0)) (row_choices (map (choice_by w) ps) none) ∙ go ps
    where
      go : (ps : List Practice) → map (λ (c : Choice). c.practice.0) (map (choice_by w) ps) ≡ numbers ps
      go [] = refl
      go (p ∷ ps) = ap (λ xs. p.0 ∷ xs) (go ps)

  pub weighed_row :
      ((i : ℕ) → i < length ps → w (Some (get_or ps i no_practice).0) ≤ 2 ^ 30) → none ≡ w None → none ≤ 2 ^ 30 → Weighed (numbers ps) w (row_of (map (choice_by w) ps) none)
  weighed_row h e m = record { same = list_made; exact = exact; modest = modest; least = m }
    where
      at : (i : ℕ) → i < length ps → weight_of (row_of (map (choice_by w) ps) none) i ≡ w (Some (get_or ps i no_practice).0)
      at i l =
          ap (λ (cs : List Choice). (get_or cs i no_choice).weight) (row_choices (map (choice_by w) ps) none) ∙
          ap (λ (c : Choice). c.weight) (get_or-map (choice_by w) ps i no_practice no_choice l)

      modest : (i : ℕ) → i < size (row_of (map (choice_by w) ps) none) → weight_of (row_of (map (choice_by w) ps) none) i ≤ 2 ^ 30
      modest i l = let k : i < length ps = omega (arith, ap length (row_choices (map (choice_by w) ps) none), length-map ps (choice_by w)) in omega (arith, at i k, h i k)

      exact : (s : Seat) → Allowed (numbers ps) s → weigh (row_of (map (choice_by w) ps) none) s ≡ w s
      exact None a = e
      exact (Some p) a =
          let on : position (numbers ps) p < length (numbers ps) = on_list (numbers ps) p a in
          let l : position (numbers ps) p < length ps = omega (arith, length_numbers ps) in
          ap (λ xs. weight_of (row_of (map (choice_by w) ps) none) (position xs p)) list_made ∙ at (position (numbers ps) p) l ∙
          ap (λ q. w (Some q)) (sym (number ps (position (numbers ps) p) l) ∙ position_get (numbers ps) p on)

-- such a row may stand in the table of a lawful roll
good_row :
    (e : Entries) (t : ℕ) (w : Seat → ℕ) (r : Row) → Lawful e → t < trainees e → Weighed (list_of e t) w r → GoodRow (practices e) r
good_row e t w r lawful l h = strict_good r (practices e) (subst (Strict (practices e)) (sym h.same) (lawful.lists_strict t l)) h.modest h.least

-- one more row
module _
    (e : Entries) (w : Weighing) (n : ℕ) (T : Table) (r : Row) (lawful : Lawful e) (l : n < trainees e) (f : Filled e w n T)
    (h : Weighed (list_of e n) (w n) r) (o : Result (Unit {0}) NotTaken) (T' : Table) (a : Added T r o T')
  where
    count : trainees (entries T) ≡ n
    count = ap length f.lists ∙ length-take-le n e.lists (omega arith)

    takes : Takes T r
    takes =
        record {
          few = omega (arith, count, lawful.few_trainees);
          good = subst (λ (ps : List ℕ). GoodRow (length ps) r) (sym f.places) (good_row e n (w n) r lawful l h);
        }

    -- it is taken
    pub row_taken : (o ≡ Ok tt) × Extended T r T'
    row_taken = go o a
      where
        go : (o : Result (Unit {0}) NotTaken) → Added T r o T' → (o ≡ Ok tt) × Extended T r T'
        go (Ok x) a = (refl, a.1)
        go (Err x) a = absurd (a.0 takes)

    pub filled_more : Filled e w (n + 1) T'
    filled_more = record { places = row_taken.1.places ∙ f.places; lists = lists; exact = exact }
      where
        lists : (entries T').lists ≡ take (n + 1) e.lists
        lists = row_taken.1.lists ∙ ap₂ (λ (xs : List (List ℕ)) (y : List ℕ). xs ++ y ∷ []) f.lists h.same ∙ sym (take_more e.lists n [] l)

        exact : (t : ℕ) (s : Seat) → t < n + 1 → Allowed (list_of e t) s → weights T' t s ≡ w t s
        exact t s k a =
            ⊎_elim
            (λ (i : t ≡ n).
            ap (λ u. weights T' u s) (i ∙ sym count) ∙ row_taken.1.last s ∙ h.exact s (subst (λ u. Allowed (list_of e u) s) i a) ∙ ap (λ u. w u s) (sym i))
            (λ (i : t ≡ n → ⊥). row_taken.1.earlier t s (omega (arith, count)) ∙ f.exact t s (omega arith) a)
            (cases_eq t n)

pub filled_all : (e : Entries) (w : Weighing) (n : ℕ) (T : Table) → n ≡ trainees e → Filled e w n T → Tabled e w T
filled_all e w n T k f =
    record {
      same =
          ap₂ (λ (ps : List ℕ) (ls : List (List ℕ)). record { places = ps; lists = ls }) f.places
          (f.lists ∙ take_all n e.lists (omega arith));
      exact = λ t s l a. f.exact t s (omega arith) a;
    }

-- a heaviest placement by the table is one by the entries and the weights that it holds
pub heaviest_tabled : (e : Entries) (w : Weighing) (T : Table) (M : Placement) → Tabled e w T → Heaviest (entries T) (weights T) M → Heaviest e w M
heaviest_tabled e w T M tabled best = record { feasible = own.feasible; most = most }
  where
    own : Heaviest e (weights T) M
    own = subst (λ x. Heaviest x (weights T) M) tabled.same best

    same : (N : Placement) → Feasible e N → weight e (weights T) N ≡ weight e w N
    same N f =
        total_same (trainees e) (λ t. weights T t (N t)) (λ t. w t (N t)) (λ t l. tabled.exact t (N t) l (f.allowed t l))

    most : (N : Placement) → Feasible e N → weight e w N ≤ weight e w M
    most N f = omega (arith, same N f, same M own.feasible, own.most N f)
