-- What a layer takes, the register below takes, and then the layer shows it.
use Rattle.std.proofs.Common.{◌≡◌, ℕ, zero, suc, ◌<◌, ◌≤◌, Bool, true, false, cond, not, ltb, List, [], ◌∷◌, length, get_or, take, None, Ok, filter, Result, sym, refl, ap, ◌∙◌, arith}
use lib.ListN.{length-map}
use Rattle.std.proofs.lemmas.List.{take_all, map-set}
use Rattle.std.proofs.lemmas.Bool.{false≢true}
use Rattle.rules.specs.declared.words.Refusal.{Refusal}
use Rattle.rules.specs.Meaning.{Meaning, Rules, trainees, practices, is_open, with_list}
use Rattle.rules.specs.Refusals.{entry_refusal, enter_outcome}
use Rattle.rules.proofs.Checking.{admitted, by_choices, choices_wider, none_open}
use Rattle.rules.proofs.Outcomes.{outcome_none}
use Rattle.layers.specs.Shown.{with_lists, shortened_rules, shortened_meaning, unclosed, still_open, without_rules, without_meaning}
use Rattle.layers.proofs.Filtered.{kept_whole}

-- a layer that changes each list, and the rules
module _ (f : List ℕ → List ℕ) (g : Rules → Rules) where
  abbrev pub shown : Meaning → Meaning
  shown m = record { entries = with_lists f m.entries; rules = g m.rules }

  shown_list : (m : Meaning) (t : ℕ) (list : List ℕ) → f list ≡ list → shown (with_list m t list) ≡ with_list (shown m) t list
  shown_list m t list same = rw (map-set f m.entries.lists t list, same)

  -- more open below, and longer lists
  pub entered_below : (m : Meaning) (t : ℕ) (list : List ℕ) → (g m.rules).longest ≤ m.rules.longest → ((p : ℕ) → is_open (shown m) p ≡ true → is_open m p ≡ true) → entry_refusal (shown m) t list ≡ None → entry_refusal m t list ≡ None
  entered_below m t list shorter wider h =
      let a = admitted (shown m) t list h in
      let l : t < trainees m.entries = simp length-map at a.trainee in
      by_choices m t list l (omega (arith, a.long)) ∙ choices_wider (shown m) m wider [] list a.choices

  pub entered_above : (m : Meaning) (t : ℕ) (list : List ℕ) (r : Result (Unit {0}) Refusal) (after : Meaning) → f list ≡ list → entry_refusal (shown m) t list ≡ None → entry_refusal m t list ≡ None → enter_outcome m t list ≡ (r, after) → enter_outcome (shown m) t list ≡ (r, shown after)
  entered_above m t list r after same above below h =
      let took : (Ok tt, with_list m t list) ≡ (r, after) = sym (outcome_none m (with_list m t list) (entry_refusal m t list) below) ∙ h in
      outcome_none (shown m) (with_list (shown m) t list) (entry_refusal (shown m) t list) above
      ∙ ap (λ n. (Ok tt, n)) (sym (shown_list m t list same))
      ∙ ap (λ (x : Result (Unit {0}) Refusal × Meaning). (x.0, shown x.1)) took

pub enter_short : (most : ℕ) (m : Meaning) (t : ℕ) (list : List ℕ) (r : Result (Unit {0}) Refusal) (after : Meaning) → entry_refusal (shortened_meaning most m) t list ≡ None → enter_outcome m t list ≡ (r, after) → enter_outcome (shortened_meaning most m) t list ≡ (r, shortened_meaning most after)
enter_short most m t list r after above h =
    let a = admitted (shortened_meaning most m) t list above in
    entered_above (take most) (shortened_rules most) m t list r after (take_all most list (omega (arith, a.long))) above
    (entered_below (take most) (shortened_rules most) m t list (omega arith) (λ p o. o) above)
    h

get_or_still_open : (closed opened : List Bool) (p : ℕ) → get_or (still_open closed opened) p false ≡ cond (get_or closed p false) false (get_or opened p false)
get_or_still_open closed [] p = by (get_or closed p false)
  where
    by : (b : Bool) → false ≡ cond b false false
    by true = refl
    by false = refl
get_or_still_open [] (o ∷ os) p = refl
get_or_still_open (c ∷ cs) (o ∷ os) zero = refl
get_or_still_open (c ∷ cs) (o ∷ os) (suc p) = get_or_still_open cs os p

module _ (closed : List Bool) (m : Meaning) (p : ℕ) where
  pub open_without : is_open (without_meaning closed m) p ≡ cond (is_open m p) (unclosed closed p) false
  open_without = rw (get_or_still_open closed m.rules.opened p) (by (ltb p (practices m.entries)) (get_or closed p false) (get_or m.rules.opened p false))
    where
      by : (b c o : Bool) → cond b (cond c false o) false ≡ cond (cond b o false) (not c) false
      by true true true = refl
      by true true false = refl
      by true false true = refl
      by true false false = refl
      by false c o = refl

  pub open_parts : is_open (without_meaning closed m) p ≡ true → (is_open m p ≡ true) × (unclosed closed p ≡ true)
  open_parts h = by (is_open m p) (unclosed closed p) (sym open_without ∙ h)
    where
      by : (a b : Bool) → cond a b false ≡ true → (a ≡ true) × (b ≡ true)
      by true b e = (refl, e)
      by false b e = absurd (false≢true e)

pub enter_closed : (closed : List Bool) (m : Meaning) (t : ℕ) (list : List ℕ) (r : Result (Unit {0}) Refusal) (after : Meaning) → entry_refusal (without_meaning closed m) t list ≡ None → enter_outcome m t list ≡ (r, after) → enter_outcome (without_meaning closed m) t list ≡ (r, without_meaning closed after)
enter_closed closed m t list r after above h =
    let a = admitted (without_meaning closed m) t list above in
    let passes : (k : ℕ) → k < length list → unclosed closed (get_or list k 0) ≡ true = λ k l. (open_parts closed m (get_or list k 0) (none_open (without_meaning closed m) [] list a.choices k l)).1 in
    entered_above (filter (unclosed closed)) (without_rules closed) m t list r after (kept_whole (unclosed closed) list passes) above
    (entered_below (filter (unclosed closed)) (without_rules closed) m t list (omega arith) (λ p o. (open_parts closed m p o).0) above)
    h
