-- What is demanded of each practice, one first choice after another.
use Rattle.std.proofs.Common.{◌≡◌, ℕ, ◌+◌, ◌<◌, ◌≤◌, List, map, length, get_or, set, Some, None, refl, sym, ap, ◌∙◌, ⊎_elim, add-one, arith}
use Rattle.std.proofs.lemmas.List.{length-map, get_or-map, get_or_past, length-set, get_or-set_same, get_or-set_other}
use Rattle.std.proofs.lemmas.Bool.{cases_eq, cases_lt, eq-eqb, ne_eqb}
use Rattle.arrayvec.specs.ArrayVec.{ArrayVec}
use Rattle.rules.specs.Meaning.{Entries, Lawful, trainees, practices, places_of, list_of}
use Rattle.voting.specs.Totals.{one}
use Rattle.voting.specs.Placements.{Placement, seated_at, sits}
use Rattle.voting.specs.Local.{first_choice}
use Rattle.voting.proofs.Ranks.{first_on}
use Rattle.allotment.specs.declared.by_firsts.Demand.{Demand}
use Rattle.allotment.specs.Weights.{no_demand, firsts_in, places_in, Holds}
use Rattle.allotment.proofs.Fullest.{many_most}
use Rattle.allotment.proofs.Listed.{on_list_known}

abbrev pub firsts : Entries → Placement
firsts e t = first_choice (list_of e t)

-- the first choices of the first n trainees are counted
pub record Demanded (e : Entries) (n : ℕ) (ds : List Demand) : Type 0 where
  pub size : length ds ≡ practices e
  pub firsts : (p : ℕ) → firsts_in ds p ≡ seated_at n (firsts e) p
  pub places : (p : ℕ) → places_in ds p ≡ places_of e p

pub demanded_none : (e : Entries) → Demanded e 0 (map (λ (n : ℕ). record { firsts = 0; places = n }) e.places)
demanded_none e = record { size = length-map e.places made; firsts = λ p. ap (λ (d : Demand). d.firsts) (at p); places = λ p. ap (λ (d : Demand). d.places) (at p) }
  where
    made : ℕ → Demand
    made n = record { firsts = 0; places = n }

    at : (p : ℕ) → get_or (map made e.places) p no_demand ≡ made (places_of e p)
    at p =
        ⊎_elim (λ (l : p < length e.places). get_or-map made e.places p 0 no_demand l)
        (λ (l : length e.places ≤ p).
        get_or_past (map made e.places) p no_demand (omega (arith, length-map e.places made)) ∙ ap made (sym (get_or_past e.places p 0 l)))
        (cases_lt p (length e.places))

seated_more : (n : ℕ) (M : Placement) (p : ℕ) → seated_at (n + 1) M p ≡ seated_at n M p + one (sits (M n) p)
seated_more n M p = rw add-one refl

-- a trainee without a list counts nowhere
pub demanded_skip : (e : Entries) (n : ℕ) (ds : List Demand) → firsts e n ≡ None → Demanded e n ds → Demanded e (n + 1) ds
demanded_skip e n ds k h =
    record { size = h.size; firsts = λ p. omega (arith, h.firsts p, seated_more n (firsts e) p, ap (λ s. one (sits s p)) k); places = h.places }

pub demanded_more :
    (e : Entries) (n : ℕ) (ds : List Demand) (q : ℕ) → firsts e n ≡ Some q → q < length ds → Demanded e n ds →
    Demanded e (n + 1) (set ds q (record { firsts = firsts_in ds q + 1; places = places_in ds q }))
demanded_more e n ds q k l h =
    record {
      size = length-set ds q d ∙ h.size;
      firsts = λ p. ⊎_elim (first_here p) (first_there p) (cases_eq p q) ∙ sym (seated_more n (firsts e) p);
      places = λ p. ⊎_elim (place_here p) (place_there p) (cases_eq p q);
    }
  where
    d : Demand
    d = record { firsts = firsts_in ds q + 1; places = places_in ds q }

    first_here : (p : ℕ) → p ≡ q → firsts_in (set ds q d) p ≡ seated_at n (firsts e) p + one (sits (firsts e n) p)
    first_here p i =
        rw i (omega (arith, ap (λ (x : Demand). x.firsts) (get_or-set_same ds q d no_demand l), h.firsts q, ap (λ s. one (sits s q)) k, ap one (eq-eqb q q refl)))

    first_there : (p : ℕ) → (p ≡ q → ⊥) → firsts_in (set ds q d) p ≡ seated_at n (firsts e) p + one (sits (firsts e n) p)
    first_there p i =
        omega (
          arith,
          ap (λ (x : Demand). x.firsts) (get_or-set_other ds q p d no_demand i),
          h.firsts p,
          ap (λ s. one (sits s p)) k,
          ap one (ne_eqb q p (λ j. i (sym j))),
        )

    place_here : (p : ℕ) → p ≡ q → places_in (set ds q d) p ≡ places_of e p
    place_here p i = rw i (ap (λ (x : Demand). x.places) (get_or-set_same ds q d no_demand l) ∙ h.places q)

    place_there : (p : ℕ) → (p ≡ q → ⊥) → places_in (set ds q d) p ≡ places_of e p
    place_there p i = ap (λ (x : Demand). x.places) (get_or-set_other ds q p d no_demand i) ∙ h.places p

-- a first choice is one of the roll's practices, and few have it
pub first_known : (e : Entries) → Lawful e → (n : ℕ) (ds : List Demand) (q : ℕ) → Demanded e n ds → firsts e n ≡ Some q → q < length ds
first_known e lawful n ds q h k = omega (arith, h.size, on_list_known e lawful n q (first_on (list_of e n) q k))

pub firsts_few : (e : Entries) (n : ℕ) (ds : List Demand) (q : ℕ) → Demanded e n ds → n ≤ 400 → firsts_in ds q < 65535
firsts_few e n ds q h l = omega (arith, h.firsts q, many_most n (λ t. sits (firsts e t) q))

pub demanded_all : (e : Entries) (n : ℕ) (ds : ArrayVec Demand) → n ≡ trainees e → Demanded e n ds.items → Holds e (record { demands = ds })
demanded_all e n ds k h = record { firsts = λ p. h.firsts p ∙ ap (λ m. seated_at m (firsts e) p) k; places = h.places }
