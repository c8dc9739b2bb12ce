-- Placements that fit trainee by trainee, and counts kept beside.
use Rattle.std.proofs.Common.{◌≡◌, ℕ, zero, suc, ◌+◌, ◌<◌, ◌≤◌, Bool, true, false, ◌&&◌, eqb, ltb, List, length, get_or, replicate, Some, None, Option, sym, refl, ap, ◌∙◌, subst, ⊎_elim, add-one, arith}
use Rattle.std.proofs.lemmas.List.{get_or_default, get_or_past, get_or-replicate, length-replicate}
use Rattle.std.proofs.lemmas.Bool.{cases_lt, cases_eq, eq-eqb, ne_eqb, ltb-true, and_parts}
use Rattle.rules.specs.Meaning.{Entries, Lawful, trainees, places_of, list_of}
use Rattle.rules.specs.Questions.{listed}
use Rattle.voting.specs.Totals.{one}
use Rattle.voting.specs.Placements.{Seat, Placement, Allowed, Feasible, sits, seated_at}
use Rattle.allotment.specs.Bytes.{seat_of_byte, offered_by}
use Rattle.allotment.specs.Calls.{fit_seat, first_unfit}
use Rattle.allotment.specs.Counts.{Below, Counted, seat_fits}
use Rattle.allotment.proofs.Listed.{listed_few}
use Rattle.allotment.proofs.Fullest.{many_most}

pub zeros : (p : ℕ) → get_or {A = ℕ} (replicate 100 0) p 0 ≡ 0
zeros p =
    ⊎_elim (λ (l : p < 100). get_or-replicate 100 p 0 0 l)
    (λ (l : 100 ≤ p). get_or_past (replicate 100 0) p 0 (omega (arith, length-replicate {A = ℕ} 100 0))) (cases_lt p 100)

pub counted_none : (M : Placement) → Counted 0 M (replicate 100 0)
counted_none M = zeros

pub counted_more :
    (t : ℕ) (M : Placement) (s : Seat) (counts more : List ℕ) → s ≡ M t → Counted t M counts →
    ((p : ℕ) → get_or more p 0 ≡ get_or counts p 0 + one (sits s p)) → Counted (t + 1) M more
counted_more t M s counts more e h k p = rw add-one (omega (arith, h p, k p, ap (λ x. one (sits x p)) e))

pub counted_few : (t : ℕ) (M : Placement) (counts : List ℕ) → t ≤ 400 → Counted t M counts → (p : ℕ) → get_or counts p 0 < 65535
counted_few t M counts l h p = omega (arith, h p, many_most t (λ x. sits (M x) p))

pub read_offered : (offered : List ℕ) (t : ℕ) (s : Seat) → t < length offered → s ≡ seat_of_byte (get_or offered t 0) → s ≡ offered_by offered t
read_offered offered t s l e = e ∙ ap seat_of_byte (get_or_default offered t 0 255 l)

pub fits_counted :
    (e : Entries) (M : Placement) (t : ℕ) (counts : List ℕ) (s : Seat) → Counted t M counts → s ≡ M t →
    seat_fits e t counts s ≡ fit_seat e M t (M t)
fits_counted e M t counts s h k = by s ∙ ap (fit_seat e M t) k
  where
    by : (s : Seat) → seat_fits e t counts s ≡ fit_seat e M t s
    by None = refl
    by (Some p) = ap (λ n. listed (list_of e t) p && ltb n (places_of e p)) (h p)

-- a seat that fits is at one of 100 practices
pub fits_below : (e : Entries) → Lawful e → (t : ℕ) (counts : List ℕ) (s : Seat) → seat_fits e t counts s ≡ true → Below 100 s
fits_below e lawful t counts None k = tt
fits_below e lawful t counts (Some p) k =
    listed_few e lawful t p (and_parts (listed (list_of e t) p) (ltb (get_or counts p 0) (places_of e p)) k).0

pub fit_more :
    (e : Entries) (M : Placement) (t : ℕ) → first_unfit e M t ≡ None → fit_seat e M t (M t) ≡ true → first_unfit e M (t + 1) ≡ None
fit_more e M t h k = rw (add-one, h, k)

-- the first that does not fit
pub unfit_here :
    (e : Entries) (M : Placement) (n t : ℕ) → t < n → first_unfit e M t ≡ None → fit_seat e M t (M t) ≡ false → first_unfit e M n ≡ Some t
unfit_here e M zero t l h k = absurd (omega arith)
unfit_here e M (suc n) t l h k =
    let ih : t < n → first_unfit e M n ≡ Some t = λ m. unfit_here e M n t m h k in
    ⊎_elim
    (λ (m : t ≡ n). subst (λ x. first_unfit e M (suc x) ≡ Some t) m (rw (h, k)))
    (λ (m : t ≡ n → ⊥). rw (ih (omega arith)))
    (cases_eq t n)

-- where all of n + 1 fit, so do n of them and the last
last_fits :
    (e : Entries) (M : Placement) (n : ℕ) → first_unfit e M (suc n) ≡ None → (first_unfit e M n ≡ None) × (fit_seat e M n (M n) ≡ true)
last_fits e M n h = go (first_unfit e M n) refl
  where
    go : (o : Option ℕ) → first_unfit e M n ≡ o → (first_unfit e M n ≡ None) × (fit_seat e M n (M n) ≡ true)
    go (Some t) k = let m : Some t ≡ None = rw k at h in absurd cc
    go None k = (k, fits (fit_seat e M n (M n)) refl)
      where
        fits : (b : Bool) → fit_seat e M n (M n) ≡ b → fit_seat e M n (M n) ≡ true
        fits true m = m
        fits false m = let x : Some n ≡ None = rw (k, m) at h in absurd cc

-- where all fit, each does
all_fit : (e : Entries) (M : Placement) (n t : ℕ) → first_unfit e M n ≡ None → t < n → fit_seat e M t (M t) ≡ true
all_fit e M zero t h l = absurd (omega arith)
all_fit e M (suc n) t h l =
    let b = last_fits e M n h in
    let ih : t < n → fit_seat e M t (M t) ≡ true = all_fit e M n t b.0 in
    ⊎_elim (λ (k : t ≡ n). subst (λ x. fit_seat e M x (M x) ≡ true) (sym k) b.1) (λ (k : t ≡ n → ⊥). ih (omega arith)) (cases_eq t n)

pub fitting_feasible : (e : Entries) (M : Placement) → first_unfit e M (trainees e) ≡ None → Feasible e M
fitting_feasible e M h = record { allowed = λ t l. allowed t (M t) (all_fit e M (trainees e) t h l); fits = fits (trainees e) (λ t l. all_fit e M (trainees e) t h l) }
  where
    allowed : (t : ℕ) (s : Seat) → fit_seat e M t s ≡ true → Allowed (list_of e t) s
    allowed t None k = tt
    allowed t (Some p) k = (and_parts (listed (list_of e t) p) (ltb (seated_at t M p) (places_of e p)) k).0

    room : (t p : ℕ) (s : Seat) → fit_seat e M t s ≡ true → seated_at t M p ≤ places_of e p → seated_at t M p + one (sits s p) ≤ places_of e p
    room t p None k m = omega arith
    room t p (Some q) k m =
        ⊎_elim
        (λ (x : q ≡ p).
        subst (λ y. seated_at t M y + one (eqb q y) ≤ places_of e y) x
        (omega (arith, ap one (eq-eqb q q refl), ltb-true (seated_at t M q) (places_of e q) (and_parts (listed (list_of e t) q) (ltb (seated_at t M q) (places_of e q)) k).1)))
        (λ (x : q ≡ p → ⊥). omega (arith, ap one (ne_eqb q p x)))
        (cases_eq q p)

    fits : (n : ℕ) → ((t : ℕ) → t < n → fit_seat e M t (M t) ≡ true) → (p : ℕ) → seated_at n M p ≤ places_of e p
    fits zero k p = omega arith
    fits (suc n) k p = room n p (M n) (k n (omega arith)) (fits n (λ t l. k t (omega arith)) p)
