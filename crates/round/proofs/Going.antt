-- The law goes on by every call.
use Rattle.std.proofs.Common.{◌≡◌, ℕ, ◌<◌, ◌≤◌, Bool, true, false, ◌⊎◌, List, [], ◌∷◌, length, take, Some, None, Ok, Err, Option, Result, sym, refl, ap, ◌∙◌, subst, inl, inr, arith, le-ltb, lt-ltb}
use Rattle.std.proofs.lemmas.List.{take-append-le}
use Rattle.std.proofs.lemmas.Bool.{both_ways, cases_lt}
use Rattle.rules.proofs.Outcomes.{outcome_answer}
use Rattle.rules.specs.declared.words.Refusal.{Refusal}
use Rattle.rules.specs.declared.words.Reason.TheVariants.{NoSuchTrainee, WrongLength, NoneUnbeaten, NothingStands}
use Rattle.rules.specs.Words.{of_round}
use Rattle.rules.specs.Meaning.{Meaning, Entries, trainees, with_list, with_places}
use Rattle.rules.specs.Refusals.{entry_refusal, places_refusal, outcome, enter_outcome, places_outcome}
use Rattle.voting.specs.Placements.{Seat, Placement, seated}
use Rattle.voting.specs.Votes.{Fullest, EachBeaten}
use Rattle.voting.proofs.Alike.{Alike, seated_alike, unbeaten_alike}
use Rattle.allotment.specs.Calls.{enough, Verdict}
use Rattle.round.specs.Account.{Given, Event, enters, sets_places, allots, asks_seat, challenges, at, changed, standing, given_by, settles, Stands, Refuses, Gives, Seats, Challenged, Law}
use Rattle.round.specs.Steps.{State, unplaced, enter_step, places_step, seat_in, seat_answer, answered, seats_told, on_verdict, Allots, given}
use Rattle.round.specs.Telling.{Tells, GoesOn}
use Rattle.round.proofs.Appending.{◌and◌, length_and, at_old, at_new, at_within, take_old, standing_and, stands_old, stands_still, stands_on, stands_new, stands_which}

-- what the law says of one call
abbrev Succeeds : Entries → Result Given Refusal → Type 0
Succeeds e (Ok g) = Gives e g
Succeeds e (Err r) = Unit {0}

abbrev Holds : Meaning → List Event → ℕ → Event → Type 0
Holds m account i (enters t list a) = a ≡ (enter_outcome m t list).0
Holds m account i (sets_places p n a) = a ≡ (places_outcome m p n).0
Holds m account i (allots w k a) = Refuses m.entries w k a × Succeeds m.entries a
Holds m account i (asks_seat t a) = Seats account i (trainees m.entries) t a
Holds m account i (challenges o b a r) = Challenged m.entries o b a r

abbrev Each : Meaning → List Event → Type 0
Each m₀ account = (i : ℕ) (x : Event) → at account i ≡ Some x → Holds (standing m₀ (take i account)) account i x

each : (m₀ : Meaning) (account : List Event) → Law m₀ account → Each m₀ account
each m₀ account l i (enters t list a) h = l.entry i t list a h
each m₀ account l i (sets_places p n a) h = l.place i p n a h
each m₀ account l i (allots w k (Ok g)) h = (l.refusal i w k (Ok g) h, l.success i w k g h)
each m₀ account l i (allots w k (Err r)) h = (l.refusal i w k (Err r) h, tt)
each m₀ account l i (asks_seat t a) h = l.seat i t a h
each m₀ account l i (challenges o b a r) h = l.rival i o b a r h

lawful : (m₀ : Meaning) (account : List Event) → Each m₀ account → Law m₀ account
lawful m₀ account f =
    record {
      refusal = λ i w k a h. (f i (allots w k a) h).0;
      success = λ i w k g h. (f i (allots w k (Ok g)) h).1;
      seat = λ i t a h. f i (asks_seat t a) h;
      entry = λ i t list a h. f i (enters t list a) h;
      place = λ i p n a h. f i (sets_places p n a) h;
      rival = λ i o b a r h. f i (challenges o b a r) h;
    }

-- what the law says of a call stays so when a call is appended
seats_still : (account : List Event) (e : Event) (i n t : ℕ) (a : Result Seat Refusal) → i ≤ length account → Seats account i n t a → Seats (account and e) i n t a
seats_still account e i n t a l h =
    record {
      stranger = h.stranger;
      stands = λ q j M s. h.stands q j M (stands_old account e i j M l s);
      nothing = λ q f. h.nothing q (λ j M s. f j M (stands_still account e i j M l s));
    }

holds_still : (m : Meaning) (account : List Event) (e : Event) (i : ℕ) (x : Event) → i < length account → Holds m account i x → Holds m (account and e) i x
holds_still m account e i (enters t list a) l h = h
holds_still m account e i (sets_places p n a) l h = h
holds_still m account e i (allots w k a) l h = h
holds_still m account e i (asks_seat t a) l h = seats_still account e i (trainees m.entries) t a (omega arith) h
holds_still m account e i (challenges o b a r) l h = h

-- what each call does
abbrev pub Steps : State → Event → State → Type 0
Steps s (enters t list a) s' = enter_step s t list ≡ (a, s')
Steps s (sets_places p n a) s' = places_step s p n ≡ (a, s')
Steps s (allots w k a) s' = (r : Result ℕ Refusal) × Allots s w k r s' × (a ≡ given r s')
Steps s (asks_seat t a) s' = (a ≡ seat_answer s t) × (s' ≡ s)
Steps s (challenges o b a r) s' = Challenged s.meaning.entries o b a r × (s' ≡ s)

-- what holds of an entry accepted and refused holds of its outcome
entered :
    (P : Result (Unit {0}) Refusal → State → Type 0) (o : Option Refusal) (s u : State) (a : Result (Unit {0}) Refusal) (s' : State) →
    outcome o s u ≡ (a, s') → P (Ok tt) u → ((r : Refusal) → P (Err r) s) → P a s'
entered P None s u a s' h took refused = subst (λ (x : Result (Unit {0}) Refusal × State). P x.0 x.1) h took
entered P (Some r) s u a s' h took refused = subst (λ (x : Result (Unit {0}) Refusal × State). P x.0 x.1) h (refused r)

-- the same of allot: refused for want of slots or on the verdict, or a placement is given
pub ended :
    (P : Result ℕ Refusal → State → Type 0) (s : State) (w k : ℕ) (r : Result ℕ Refusal) (s' : State) → Allots s w k r s' →
    (enough s.meaning.entries w k ≡ false → P (Err (of_round WrongLength (trainees s.meaning.entries))) s) →
    (enough s.meaning.entries w k ≡ true → EachBeaten s.meaning.entries → P (Err (of_round NoneUnbeaten 0)) s) →
    ((M : Placement) → enough s.meaning.entries w k ≡ true → Fullest s.meaning.entries M →
    P (Ok (seated (trainees s.meaning.entries) M)) (record { meaning = s.meaning; placement = Some M })) →
    P r s'
ended P s w k r s' (v, holds, h) few beaten gives = by (enough s.meaning.entries w k) refl
  where
    decided : (v : Option Placement) → enough s.meaning.entries w k ≡ true → Verdict s.meaning.entries v → on_verdict s v ≡ (r, s') → P r s'
    decided None q z p = subst (λ (x : Result ℕ Refusal × State). P x.0 x.1) p (beaten q z)
    decided (Some M) q z p = subst (λ (x : Result ℕ Refusal × State). P x.0 x.1) p (gives M q z)

    by : (b : Bool) → enough s.meaning.entries w k ≡ b → P r s'
    by true q = decided v q (holds q) (rw q at h)
    by false q = subst (λ (x : Result ℕ Refusal × State). P x.0 x.1) (rw q at h) (few q)

-- which calls settle what stands
data Kind (s : State) (e : Event) (s' : State) : Type 0 where
  gave : (M : Placement) → given_by (Some e) ≡ Some (seats_told s') → settles (Some e) ≡ true → s'.placement ≡ Some M → Kind s e s'
  lapsed : given_by (Some e) ≡ None → settles (Some e) ≡ true → s'.placement ≡ None → Kind s e s'
  quiet : given_by (Some e) ≡ None → settles (Some e) ≡ false → s' ≡ s → Kind s e s'

-- and what each changes of the standing entries
abbrev Step : State → Event → State → Type 0
Step s e s' = Kind s e s' × (s'.meaning ≡ changed s.meaning e)

step : (s : State) (e : Event) (s' : State) → Steps s e s' → Step s e s'
step s (enters t list a) s' h =
    entered (λ a s'. Step s (enters t list a) s') (entry_refusal s.meaning t list) s (unplaced (with_list s.meaning t list)) a s' h (lapsed refl refl refl, refl) (λ r. (quiet refl refl refl, refl))
step s (sets_places p n a) s' h =
    entered (λ a s'. Step s (sets_places p n a) s') (places_refusal s.meaning p n) s (unplaced (with_places s.meaning p n)) a s' h (lapsed refl refl refl, refl) (λ r. (quiet refl refl refl, refl))
step s (allots w k a) s' (r, h, p) =
    rw p (
    ended (λ r s'. Step s (allots w k (given r s')) s') s w k r s' h (λ q. (quiet refl refl refl, refl)) (λ q b. (quiet refl refl refl, refl)) (λ M q f. (gave M refl refl refl, refl))
    )
step s (asks_seat t a) s' h = (quiet refl refl h.1, ap (λ (x : State). x.meaning) h.1)
step s (challenges o b a r) s' h = (quiet refl refl h.1, ap (λ (x : State). x.meaning) h.1)

module _ (s : State) (t : ℕ) where
  pub to_stranger : trainees s.meaning.entries ≤ t → seat_answer s t ≡ Err (of_round NoSuchTrainee t)
  to_stranger l = rw (le-ltb t (trainees s.meaning.entries) l)

  pub to_trainee : t < trainees s.meaning.entries → seat_answer s t ≡ seat_in s.placement t
  to_trainee l = rw (lt-ltb t (trainees s.meaning.entries) l)

  -- where a placement stands, seat answers it
  to_seated : (M : Placement) → s.placement ≡ Some M → t < trainees s.meaning.entries → seat_answer s t ≡ Ok (M t)
  to_seated M p l = to_trainee l ∙ ap (λ x. seat_in x t) p

  pub told : (M : Placement) → s.placement ≡ Some M → t < trainees s.meaning.entries → M t ≡ seats_told s t
  told M p l = sym (ap answered (to_seated M p l))

  told_back : (M : Placement) → s.placement ≡ Some M → t < trainees s.meaning.entries → seat_answer s t ≡ Ok (seats_told s t)
  told_back M p l = to_seated M p l ∙ ap (λ (x : Seat). Ok x) (told M p l)

-- of placements that agree on every trainee, either is fullest where the other is
fullest_alike : (e : Entries) (M N : Placement) → Alike (trainees e) M N → Fullest e M → Fullest e N
fullest_alike e M N agree f =
    record {
      unbeaten = unbeaten_alike e N M (λ t l. sym (agree t l)) f.unbeaten;
      most = λ O u. omega (arith, f.most O u, seated_alike (trainees e) M N agree);
    }

-- what the law says of a call of allot
abbrev Told : Entries → ℕ → ℕ → Result Given Refusal → Type 0
Told e w k a = Refuses e w k a × Succeeds e a

allotted : (s : State) (w k : ℕ) (r : Result ℕ Refusal) (s' : State) → Allots s w k r s' → Told s.meaning.entries w k (given r s')
allotted s w k r s' h =
    ended (λ r s'. Told s.meaning.entries w k (given r s')) s w k r s' h
    (λ q. (record { few = λ h. refl; beaten = λ h. absurd (both_ways _ q h); only = λ h. absurd (both_ways _ q h) }, tt))
    (λ q b. (record { few = λ h. absurd (both_ways _ h q); beaten = λ h g. refl; only = λ h x p. b }, tt))
    gives
  where
    gives : (M : Placement) → enough s.meaning.entries w k ≡ true → Fullest s.meaning.entries M →
        Told s.meaning.entries w k (given (Ok (seated (trainees s.meaning.entries) M)) (record { meaning = s.meaning; placement = Some M }))
    gives M q f =
        let s₁ : State = record { meaning = s.meaning; placement = Some M } in
        let agree : Alike (trainees s.meaning.entries) M (seats_told s₁) = λ t l. told s₁ t M refl l in (
          record {
            few = λ h. absurd (both_ways _ h q);
            beaten = λ h g. let n = g M f.unbeaten.feasible in absurd (f.unbeaten.never n.0 n.1 n.2);
            only = λ h x p. absurd (cc);
          },
          record { fullest = fullest_alike s.meaning.entries M (seats_told s₁) agree f; counted = seated_alike (trainees s.meaning.entries) M (seats_told s₁) agree },
        )

-- an entry answers by its refusal alone
answers : (o : Option Refusal) (s u : State) (m n : Meaning) (a : Result (Unit {0}) Refusal) (s' : State) → outcome o s u ≡ (a, s') → a ≡ (outcome o m n).0
answers o s u m n a s' h = sym (ap (λ (x : Result (Unit {0}) Refusal × State). x.0) h) ∙ (outcome_answer o s u ∙ sym (outcome_answer o m n))

module _ (m₀ : Meaning) (account : List Event) (s : State) (tells : Tells m₀ account s) where
  holds_new : (e : Event) (s' : State) → Steps s e s' → Holds s.meaning (account and e) (length account) e
  holds_new (enters t list a) s' h = answers (entry_refusal s.meaning t list) s (unplaced (with_list s.meaning t list)) s.meaning (with_list s.meaning t list) a s' h
  holds_new (sets_places p n a) s' h = answers (places_refusal s.meaning p n) s (unplaced (with_places s.meaning p n)) s.meaning (with_places s.meaning p n) a s' h
  holds_new (allots w k a) s' (r, h, p) = rw p (allotted s w k r s' h)
  holds_new (asks_seat t a) s' h =
      subst (λ x. Seats (account and asks_seat t a) (length account) (trainees s.meaning.entries) t x) (sym h.0)
      (seats_still account (asks_seat t a) (length account) (trainees s.meaning.entries) t (seat_answer s t) (omega arith) (tells.seats t))
  holds_new (challenges o b a r) s' h = h.0

  module _ (e : Event) (s' : State) (makes : Steps s e s') where
    each_more : Each m₀ (account and e)
    each_more i x h = by (cases_lt i (length account))
      where
        by : (i < length account) ⊎ (length account ≤ i) → Holds (standing m₀ (take i (account and e))) (account and e) i x
        by (inl l) =
            subst (λ a. Holds (standing m₀ a) (account and e) i x) (sym (take-append-le i account (e ∷ []) (omega arith)))
            (holds_still (standing m₀ (take i account)) account e i x l
            (each m₀ account tells.law i x (sym (at_old account e i l) ∙ h)))
        by (inr l) =
            let p : length account ≡ i = omega (arith, at_within (account and e) i x h, length_and account e) in
            let q : Some e ≡ Some x = sym (at_new account e) ∙ (ap (at (account and e)) p ∙ h) in
            let q' : e ≡ x = cc in
            let m : s.meaning ≡ standing m₀ (take (length account) (account and e)) = tells.means ∙ sym (ap (standing m₀) (take_old account e)) in
            subst (λ y. Holds (standing m₀ (take i (account and e))) (account and e) i y) q'
            (subst (λ n. Holds (standing m₀ (take n (account and e))) (account and e) n e) p
            (subst (λ n. Holds n (account and e) (length account) e) m (holds_new e s' makes)))

    seats_more : (t : ℕ) → Seats (account and e) (length (account and e)) (trainees s'.meaning.entries) t (seat_answer s' t)
    seats_more t =
        record {
          stranger = to_stranger s' t;
          stands = λ l j M w. hold l j M (step s e s' makes).0 (stands_which account e j M w);
          nothing = λ l f. none l f (step s e s' makes).0;
        }
      where
        hold : t < trainees s'.meaning.entries → (j : ℕ) (M : Placement) → Kind s e s' → (given_by (Some e) ≡ Some M) ⊎ (Stands account (length account) j M × (settles (Some e) ≡ false)) → seat_answer s' t ≡ Ok (M t)
        hold l j M (gave N g y k) (inl q) =
            let p : Some (seats_told s') ≡ Some M = sym g ∙ q in
            let p' : seats_told s' ≡ M = cc in
            told_back s' t N k l ∙ ap (λ (G : Placement). Ok (G t)) p'
        hold l j M (gave N g y k) (inr (w, q)) = cc
        hold l j M (lapsed n y k) (inl q) = cc
        hold l j M (lapsed n y k) (inr (w, q)) = cc
        hold l j M (quiet n y k) (inl q) = cc
        hold l j M (quiet n y k) (inr (w, q)) =
            ap (λ x. seat_answer x t) k ∙ (tells.seats t).stands (subst (λ (x : State). t < trainees x.meaning.entries) k l) j M w

        none : t < trainees s'.meaning.entries → ((j : ℕ) (M : Placement) → Stands (account and e) (length (account and e)) j M → ⊥) → Kind s e s' → seat_answer s' t ≡ Err (of_round NothingStands t)
        none l f (gave N g y k) = absurd (f (length account) (seats_told s') (stands_new account e (seats_told s') g))
        none l f (lapsed n y k) = to_trainee s' t l ∙ ap (λ x. seat_in x t) k
        none l f (quiet n y k) =
            ap (λ x. seat_answer x t) k ∙
            (tells.seats t).nothing (subst (λ (x : State). t < trainees x.meaning.entries) k l) (λ j M w. f j M (stands_on account e j M y w))

    more : Tells m₀ (account and e) s'
    more =
        record {
          law = lawful m₀ (account and e) each_more;
          means = (step s e s' makes).1 ∙ (ap (λ m. changed m e) tells.means ∙ sym (standing_and m₀ account e));
          seats = seats_more;
        }

pub goes_on : (s : State) (e : Event) (s' : State) → Steps s e s' → GoesOn s e s'
goes_on s e s' makes m₀ account tells = more m₀ account s tells e s' makes
