-- What a script leaves, one call more.
use Rattle.std.proofs.Common.{◌≡◌, ℕ, false, ◌⊎◌, Some, Option, inl, inr, zero, suc, ◌+◌, ◌-◌, ◌^◌, ◌<◌, ◌≤◌, min, fold, List, [], ◌∷◌, ◌++◌, length, get_or, take, drop, set, None, Ok, Err, Result, sym, refl, ap, ◌∙◌, subst, arith, length-drop, length-set, length-take, le-leb}
use borrow.Rule.Slice.PartMut.{put_mid}
use Rattle.std.proofs.lemmas.List.{take_more, take_more_set, drop-set-lt, drop-drop}
use Rattle.std.proofs.lemmas.Bool.{cases_lt}
use Rattle.std.specs.Result.{is_err}
use borrow.Author.Tests.{lt-leb}
use Rattle.std.proofs.lemmas.Slice.{take-put_mid, drop-put_mid}
use Rattle.rules.specs.declared.words.Refusal.{Refusal}
use Rattle.rules.specs.Meaning.{Meaning, trainees}
use Rattle.rules.specs.Refusals.{answer_of}
use Rattle.allotment.specs.Bytes.{bytes_of}
use Rattle.round.specs.declared.script.Call.{Call}
use Rattle.round.specs.declared.script.Call.TheVariants.{Allot}
use Rattle.round.specs.declared.script.Answer.{Answer}
use Rattle.round.specs.declared.script.Answer.TheVariants.{Allotted}
use Rattle.round.specs.Account.{Event, enters, sets_places, allots, asks_seat, challenges, changed, standing}
use Rattle.round.specs.Steps.{State, seats_told, given}
use Rattle.round.specs.Telling.{Tells}
use Rattle.round.specs.Serving.{Line, allotted, not_allotted, room_of, rooms, Written, nothing, and_then, serve_refusal}
use Rattle.round.specs.Making.{Makes, noted}

-- the line of an allot
pub noted_line : (n w k : ℕ) (a : Result ℕ Refusal) (s' : State) (b r : List ℕ) → length b ≡ n → r ≡ noted a s' b → Line n (Allot w k) (Allotted a) b r (allots w k (given a s'))
noted_line n w k (Ok number) s' b r l h =
    subst (λ x. Line n (Allot w k) (Allotted (Ok number)) b x (allots w k (given (Ok number) s'))) (sym (h ∙ ap (λ x. bytes_of x (seats_told s')) l)) (allotted w k number (seats_told s') b)
noted_line n w k (Err x) s' b r l h = subst (λ y. Line n (Allot w k) (Allotted (Err x)) b y (allots w k (Err x))) (sym h) (not_allotted w k x b)

-- no call changes how many trainees there are
changed_trainees : (m : Meaning) (e : Event) → trainees (changed m e).entries ≡ trainees m.entries
changed_trainees m (enters t list (Ok u)) = simp length-set
changed_trainees m (enters t list (Err r)) = refl
changed_trainees m (sets_places p n (Ok u)) = refl
changed_trainees m (sets_places p n (Err r)) = refl
changed_trainees m (allots w k a) = refl
changed_trainees m (asks_seat t a) = refl
changed_trainees m (challenges o b a r) = refl

standing_trainees : (m : Meaning) (account : List Event) → trainees (standing m account).entries ≡ trainees m.entries
standing_trainees m [] = refl
standing_trainees m (e ∷ later) = standing_trainees (changed m e) later ∙ changed_trainees m e

module _ (n : ℕ) where
  rooms_and : (xs : List Call) (c : Call) → rooms n (xs ++ (c ∷ [])) ≡ rooms n xs + room_of n c
  rooms_and [] c = omega arith
  rooms_and (x ∷ xs) c = let r = rooms_and xs c in omega arith

  rooms_more : (script : List Call) (i : ℕ) (d : Call) → i < length script → rooms n (take (i + 1) script) ≡ rooms n (take i script) + room_of n (get_or script i d)
  rooms_more script i d l = ap (rooms n) (take_more script i d l) ∙ rooms_and (take i script) (get_or script i d)

  rooms_within : (script : List Call) (i : ℕ) → rooms n (take i script) ≤ rooms n script
  rooms_within [] zero = omega arith
  rooms_within [] (suc i) = omega arith
  rooms_within (c ∷ cs) zero = omega arith
  rooms_within (c ∷ cs) (suc i) = let r = rooms_within cs i in omega arith

  -- the needed number, one call more
  abbrev pub more_room : ℕ → Call → ℕ
  more_room need c = min (need + room_of n c) (2 ^ 64 - 1)

  needed_from : (script : List Call) (need : ℕ) → need ≤ 2 ^ 64 - 1 → fold more_room need script ≡ min (need + rooms n script) (2 ^ 64 - 1)
  needed_from [] need l = omega arith
  needed_from (c ∷ cs) need l = let r = needed_from cs (more_room need c) (omega arith) in omega (arith, r)

  pub needed_all : (script : List Call) → fold more_room 0 script ≡ min (rooms n script) (2 ^ 64 - 1)
  needed_all script = omega (arith, needed_from script 0 (omega arith))

take_longer : (xs : List ℕ) (n k : ℕ) → take (n + k) xs ≡ take n xs ++ take k (drop n xs)
take_longer xs zero k = ap (λ x. take x xs) (let q : 0 + k ≡ k = omega arith in q)
take_longer [] (suc n) zero = ap (λ x. take {A = ℕ} x []) (let q : suc n + 0 ≡ suc n = omega arith in q)
take_longer [] (suc n) (suc k) = ap (λ x. take {A = ℕ} x []) (let q : suc n + suc k ≡ suc (n + suc k) = omega arith in q)
take_longer (x ∷ xs) (suc n) k = ap (λ y. take y (x ∷ xs)) (let q : suc n + k ≡ suc (n + k) = omega arith in q) ∙ ap (λ r. x ∷ r) (take_longer xs n k)

part_length : (xs : List ℕ) (used r : ℕ) → used + r ≤ length xs → length (take (used + r - used) (drop used xs)) ≡ r
part_length xs used r h = simp (length-take, length-drop) (omega arith)

-- where a script is not refused there is memory enough
pub not_refused : (o : Option Refusal) (a : Result (Unit {0}) Refusal) → a ≡ answer_of o → is_err a ≡ false → o ≡ None
not_refused None a h e = refl
not_refused (Some r) a h e = let z = rw h at e in cc

pub slots_enough : (n : ℕ) (script : List Call) (answers placements : ℕ) → serve_refusal n script answers placements ≡ None → (length script ≤ answers) × (rooms n script ≤ placements)
slots_enough n script answers placements h = by (cases_lt answers (length script)) (cases_lt placements (rooms n script))
  where
    by : (answers < length script) ⊎ (length script ≤ answers) → (placements < rooms n script) ⊎ (rooms n script ≤ placements) → (length script ≤ answers) × (rooms n script ≤ placements)
    by (inl l) _ = let z = rw (lt-leb (length script) answers l) at h in cc
    by (inr l) (inl m) = let z = rw (le-leb (length script) answers l, lt-leb (rooms n script) placements m) at h in cc
    by (inr l) (inr m) = (l, m)

-- a script half made: the first i calls use up `used` bytes
pub record Going (m₀ : Meaning) (n : ℕ) (script : List Call) (answers₀ answers : List Answer) (memory₀ memory : List ℕ) (i used : ℕ) (s : State) : Type 0 where
  pub all : trainees m₀.entries ≡ n
  pub starts : serve_refusal n script (length answers₀) (length memory₀) ≡ None
  pub account : List Event
  pub tells : Tells m₀ account s
  pub written : Written n (take i script) (take i answers) (take used memory₀) (take used memory) account
  pub used_up : used ≡ rooms n (take i script)
  pub answers_past : drop i answers ≡ drop i answers₀
  pub memory_past : drop used memory ≡ drop used memory₀

pub going_start : (m₀ : Meaning) (n : ℕ) (script : List Call) (answers : List Answer) (memory : List ℕ) (s : State) → trainees m₀.entries ≡ n → serve_refusal n script (length answers) (length memory) ≡ None → Tells m₀ [] s → Going m₀ n script answers answers memory memory 0 0 s
going_start m₀ n script answers memory s q h t =
    record { all = q; starts = h; account = []; tells = t; written = nothing; used_up = refl; answers_past = refl; memory_past = refl }

module _ {m₀ : Meaning} {n : ℕ} {script : List Call} {answers₀ answers : List Answer} {memory₀ memory : List ℕ} {i used : ℕ} {s : State} (g : Going m₀ n script answers₀ answers memory₀ memory i used s) where
  enough : (length script ≤ length answers₀) × (rooms n script ≤ length memory₀)
  enough = slots_enough n script (length answers₀) (length memory₀) g.starts

  -- the trainees are as many as at the opening
  still_all : trainees s.meaning.entries ≡ n
  still_all = ap (λ (m : Meaning). trainees m.entries) g.tells.means ∙ (standing_trainees m₀ g.account ∙ g.all)

  module _ (d : Call) (r : ℕ) (l : i < length script) (q : r ≡ room_of n (get_or script i d)) (same : length memory ≡ length memory₀) where
    -- the room of the next call lies within the memory
    pub next_fits : used + r ≤ length memory
    next_fits = omega (arith, same, enough.1, g.used_up, rooms_more n script i d l, rooms_within n script (i + 1))

    pub next_room : length (take (used + r - used) (drop used memory)) ≡ room_of (trainees s.meaning.entries) (get_or script i d)
    next_room = part_length memory used r next_fits ∙ rw still_all q

    -- and the call is written
    pub going_on : (s' : State) (a : Answer) (ys : List ℕ) → length answers ≡ length answers₀ → length ys ≡ length (take (used + r - used) (drop used memory)) →
        Makes (trainees s.meaning.entries) s (get_or script i d) a (take (used + r - used) (drop used memory)) ys s' →
        Going m₀ n script answers₀ (set answers i a) memory₀ (put_mid used (used + r - used) memory ys) (i + 1) (used + r) s'
    going_on s' a ys sa ly (e, line, goes) =
        rw part (
        record {
          all = g.all;
          starts = g.starts;
          account = g.account ++ (e ∷ []);
          tells = goes m₀ g.account g.tells;
          written =
              rw (take_more script i d l, take_more_set answers i a (omega (arith, enough.0)), take_longer memory₀ used r, take-put_mid used r memory ys (used + r) (omega (arith, next_fits, ly')) (omega (arith, next_fits, ly'))) (
              and_then (take i script) (take i answers) (take used memory₀) (take used memory) g.account g.written (get_or script i d) a (take r (drop used memory₀)) ys e
              (simp (length-take, length-drop) (omega (arith, next_fits))) (ly' ∙ q) line'
              );
          used_up = omega (arith, rooms_more n script i d l, g.used_up);
          answers_past = drop-set-lt (i + 1) answers i a (omega arith) ∙ (sym (drop-drop 1 i answers) ∙ (ap (drop 1) g.answers_past ∙ drop-drop 1 i answers₀));
          memory_past = drop-put_mid used r memory ys (used + r) (omega (arith, next_fits)) (omega (arith, next_fits)) ly' ∙ (sym (drop-drop r used memory) ∙ (ap (drop r) g.memory_past ∙ drop-drop r used memory₀));
        }
        )
      where
        part : used + r - used ≡ r
        part = omega arith

        ly' : length ys ≡ r
        ly' = ly ∙ part_length memory used r next_fits

        line' : Line n (get_or script i d) a (take r (drop used memory₀)) ys e
        line' = rw (part, g.memory_past, still_all) at line
