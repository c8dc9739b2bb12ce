-- The choices of a row, and the list that they are.
use Rattle.std.proofs.Common.{◌≡◌, ℕ, zero, suc, ◌^◌, ◌<◌, ◌≤◌, Bool, true, false, eqb, ◌==◌, List, [], ◌∷◌, ◌++◌, length, get_or, take, Some, None, sym, refl, ap, ◌∙◌, subst, ⊎_elim, arith}
use Rattle.std.proofs.lemmas.List.{get_or-map, get_or-take, length-map, length-take-le}
use Rattle.std.proofs.Math.Seq.{take-length, take-append_seam}
use Rattle.std.proofs.lemmas.Bool.{cases_Bool, eq-eqb, ne_eqb, eqb-true, both_ways}
use Rattle.std.specs.List.{list_any}
use Rattle.std.proofs.lemmas.List.Folds.{list_any_at}
use Rattle.rules.specs.Meaning.{Strict}
use Rattle.rules.specs.Questions.{position}
use Rattle.voting.specs.Placements.{Seat, Allowed}
use Rattle.voting.proofs.Ranks.{on_list, list_on}
use Rattle.assignment.specs.declared.row.Choice.{Choice}
use Rattle.assignment.specs.declared.row.Row.{Row}
use Rattle.assignment.specs.Rows.{no_choice, choices_in, row_of, size, choice_of, weight_of, list, weigh, GoodRow}

pub position_at :
    (l : List ℕ) (i : ℕ) → i < length l → ((j : ℕ) → j < i → get_or l j 0 ≡ get_or l i 0 → ⊥) → position l (get_or l i 0) ≡ i
position_at [] i h n = absurd (omega arith)
position_at (x ∷ xs) zero h n = rw (eq-eqb x x refl)
position_at (x ∷ xs) (suc i) h n =
    let ne : eqb x (get_or xs i 0) ≡ false = ne_eqb x (get_or xs i 0) (n 0 (omega arith)) in
    rw ne (ap suc (position_at xs i (omega arith) (λ j k. n (suc j) (omega arith))))

pub position_get : (l : List ℕ) (p : ℕ) → position l p < length l → get_or l (position l p) 0 ≡ p
position_get [] p h = absurd (omega arith)
position_get (x ∷ xs) p h = go (eqb x p) refl (position_get xs p)
  where
    go : (b : Bool) → eqb x p ≡ b → (position xs p < length xs → get_or xs (position xs p) 0 ≡ p) → get_or (x ∷ xs) (position (x ∷ xs) p) 0 ≡ p
    go true e ih = rw e (eqb-true x p e)
    go false e ih =
        let k : position (x ∷ xs) p ≡ suc (position xs p) = rw e in
        rw e (ih (omega (arith, k, h)))

-- the row of these choices counts them all
pub row_choices : (cs : List Choice) (none : ℕ) → choices_in (row_of cs none) ≡ cs
row_choices cs none = take-length cs

module _ (r : Row) where
  pub list_length : length (list r) ≡ size r
  list_length = length-map (choices_in r) (λ (c : Choice). c.practice.0)

  pub list_at : (i : ℕ) → i < size r → get_or (list r) i 0 ≡ choice_of r i
  list_at i h = get_or-map (λ (c : Choice). c.practice.0) (choices_in r) i no_choice 0 h

  -- a row whose list obeys the law of a roll, with weights that are not too great
  pub strict_good : (m : ℕ) → Strict m (list r) → ((i : ℕ) → i < size r → weight_of r i ≤ 2 ^ 30) → r.none ≤ 2 ^ 30 → GoodRow m r
  strict_good m s w n =
      record {
        short = omega (arith, s.short, list_length);
        known = λ i l. subst (λ p. p < m) (list_at i l) (s.below i (omega (arith, list_length)));
        once = λ i j l k e. s.distinct i j l (omega (arith, list_length)) (list_at i (omega arith) ∙ e ∙ sym (list_at j k));
        modest = w;
        least = n;
      }

module _ (m : ℕ) (r : Row) (g : GoodRow m r) where
  pub choice_position : (i : ℕ) → i < size r → position (list r) (choice_of r i) ≡ i
  choice_position i h =
      subst (λ p. position (list r) p ≡ i) (list_at r i h)
      (position_at (list r) i (omega (arith, list_length r)) (λ j k e. g.once j i k h (sym (list_at r j (omega arith)) ∙ e ∙ list_at r i h)))

  pub choice_allowed : (i : ℕ) → i < size r → Allowed (list r) (Some (choice_of r i))
  choice_allowed i h = list_on (list r) (choice_of r i) (omega (arith, list_length r, choice_position i h))

  pub choice_weight : (i : ℕ) → i < size r → weigh r (Some (choice_of r i)) ≡ weight_of r i
  choice_weight i h = ap (λ j. weight_of r j) (choice_position i h)

  -- each practice of the list is a choice
  pub allowed_choice : (p : ℕ) → Allowed (list r) (Some p) → (i : ℕ) × (i < size r) × (choice_of r i ≡ p)
  allowed_choice p a =
      let on = on_list (list r) p a in
      let l : position (list r) p < size r = omega (arith, on, list_length r) in
      (position (list r) p, l, sym (list_at r (position (list r) p) l) ∙ position_get (list r) p on)

  pub allowed_known : (p : ℕ) → Allowed (list r) (Some p) → p < m
  allowed_known p a = let i = allowed_choice p a in subst (λ q. q < m) i.2 (g.known i.0 i.1)

  -- no allowed seat weighs too much
  pub weigh_le : (s : Seat) → Allowed (list r) s → weigh r s ≤ 2 ^ 30
  weigh_le None a = g.least
  weigh_le (Some p) a =
      let i = allowed_choice p a in
      subst (λ q. weigh r (Some q) ≤ 2 ^ 30) i.2 (omega (arith, choice_weight i.0 i.1, g.modest i.0 i.1))

-- choices in front of the array of a row
pub copied : (cs rest : List Choice) → take (length cs) (cs ++ rest) ≡ cs
copied cs rest = take-append_seam cs rest

-- whether a practice is among the choices
chosen_at : (cs : List Choice) (p : ℕ) → list_any (λ (c : Choice). c.practice.0 == p) cs ≡ true → (j : ℕ) × (j < length cs) × ((get_or cs j no_choice).practice.0 ≡ p)
chosen_at [] p e = absurd (both_ways false refl e)
chosen_at (c ∷ cs) p e =
    ⊎_elim (λ (t : (c.practice.0 == p) ≡ true). (0, omega arith, eqb-true _ _ t))
    (λ (t : (c.practice.0 == p) ≡ false).
    let i = chosen_at cs p (rw t at e) in
    (suc i.0, omega (arith, i.1), i.2))
    (cases_Bool (c.practice.0 == p))

-- whether the i-th choice, p, stands earlier on the row too, as a slice of its choices says
module _ (r : Row) (i p : ℕ) (cs : List Choice) (l : i < size r) (here : p ≡ choice_of r i) (same : cs ≡ choices_in r) where
  earlier : (j : ℕ) → j < i → (get_or (take i cs) j no_choice).practice.0 ≡ choice_of r j
  earlier j k = ap (λ (c : Choice). c.practice.0) (get_or-take i cs j no_choice k ∙ ap (λ xs. get_or xs j no_choice) same)

  long : length (take i cs) ≡ i
  long = length-take-le i cs (omega (arith, ap length same))

  pub stands_once : list_any (λ (c : Choice). c.practice.0 == p) (take i cs) ≡ false → (j : ℕ) → j < i → choice_of r j ≡ choice_of r i → ⊥
  stands_once e j k h =
      both_ways _ e
      (list_any_at (λ (c : Choice). c.practice.0 == p) (take i cs) j no_choice (omega (arith, long)) (eq-eqb _ _ (earlier j k ∙ h ∙ sym here)))

  pub stands_twice : (m : ℕ) → list_any (λ (c : Choice). c.practice.0 == p) (take i cs) ≡ true → GoodRow m r → ⊥
  stands_twice m e g =
      let j = chosen_at (take i cs) p e in
      let k : j.0 < i = omega (arith, j.1, long) in
      g.once j.0 i k l (sym (earlier j.0 k) ∙ j.2 ∙ here)
