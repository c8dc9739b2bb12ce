-- What is not refused: the room there is, and a filing that fits.
use Rattle.std.proofs.Common.{◌≡◌, ℕ, zero, suc, ◌+◌, ◌<◌, ◌≤◌, true, ◌||◌, eqb, leb, ◌⊎◌, [], ◌∷◌, length, get_or, drop, Some, None, Ok, Err, Option, sym, refl, ap, ◌∙◌, inl, inr, add-one, arith}
use Rattle.std.proofs.lemmas.List.{at_drop_more}
use Rattle.std.proofs.lemmas.Bool.{or_cases, or_left, or_right, eqb-true, leb-true, eq-eqb, le-leb, lt-leb}
use Rattle.rules.specs.declared.words.Reason.{Reason}
use Rattle.rules.specs.declared.words.Reason.TheVariants.{WrongLength}
use Rattle.rules.specs.declared.words.Refusal.{Refusal}
use Rattle.rules.specs.Words.{of_sheet}
use Rattle.rules.specs.Refusals.{answer_of}
use Rattle.rules.specs.Meaning.{Entries, Lawful, trainees, practices}
use Rattle.rules.proofs.Checking.{passed}
use Rattle.sheet.specs.Filing.{Filing, Fitting}
use Rattle.sheet.specs.Format.{sheet}
use Rattle.sheet.specs.Reading.{off_filed}
use Rattle.sheet.proofs.Checked.{wrong_some, wrong_none}
use Rattle.sheet.proofs.Tests.{filed_either, filed_fine}
use Rattle.sheet_writer.specs.Writing.{filed_or, filed_refusal, write_refusal}

-- the byte of trainee t, and then the later ones
filed_next : (m t : ℕ) (f : Filing) → t < length f → filed_refusal m t (drop t f) ≡ filed_or (off_filed m (get_or f t 0)) t (filed_refusal m (t + 1) (drop (t + 1) f))
filed_next m t f l =
    at_drop_more (filed_refusal m t) f t 0 l ∙ ap (λ (j : ℕ). filed_or (off_filed m (get_or f t 0)) t (filed_refusal m j (drop (t + 1) f))) (sym (add-one t))

-- trainee t's filed byte is refused
pub filed_here : (m t : ℕ) (f : Filing) (e : Reason) → t < length f → Err e ≡ answer_of (off_filed m (get_or f t 0)) → filed_refusal m t (drop t f) ≡ Some (of_sheet e t)
filed_here m t f e l h = filed_next m t f l ∙ ap (λ (o : Option Reason). filed_or o t (filed_refusal m (t + 1) (drop (t + 1) f))) (wrong_some (off_filed m (get_or f t 0)) e h)

-- or passes
pub filed_passes : (m t : ℕ) (f : Filing) → t < length f → Ok tt ≡ answer_of (off_filed m (get_or f t 0)) → filed_refusal m t (drop t f) ≡ filed_refusal m (t + 1) (drop (t + 1) f)
filed_passes m t f l h = filed_next m t f l ∙ ap (λ (o : Option Reason). filed_or o t (filed_refusal m (t + 1) (drop (t + 1) f))) (wrong_none (off_filed m (get_or f t 0)) h)

filed_none : (o : Option Reason) (t : ℕ) (later : Option Refusal) → filed_or o t later ≡ None → (o ≡ None) × (later ≡ None)
filed_none None t later h = (refl, h)
filed_none (Some r) t later h = absurd (cc)

filed_all : (m t : ℕ) (f : Filing) → filed_refusal m t f ≡ None → (k : ℕ) → k < length f → off_filed m (get_or f k 0) ≡ None
filed_all m t [] h k l = absurd (omega arith)
filed_all m t (p ∷ f) h zero l = (filed_none (off_filed m p) t (filed_refusal m (suc t) f) h).0
filed_all m t (p ∷ f) h (suc k) l = filed_all m (suc t) f (filed_none (off_filed m p) t (filed_refusal m (suc t) f) h).1 k (omega arith)

filed_fits : (m t : ℕ) (f : Filing) → ((k : ℕ) → k < length f → off_filed m (get_or f k 0) ≡ None) → filed_refusal m t f ≡ None
filed_fits m t [] h = refl
filed_fits m t (p ∷ f) h = rw (h 0 (omega arith)) (filed_fits m (suc t) f (λ k l. h (suc k) (omega arith)))

pub record Writable (e : Entries) (f : Filing) (room : ℕ) : Type 0 where
  pub fits : Fitting e f
  pub roomy : length (sheet e f) ≤ room

pub writable : (e : Entries) (f : Filing) (room : ℕ) → write_refusal e f room ≡ None → Writable e f room
writable e f room h =
    let a = passed (eqb (length f) 0 || eqb (length f) (trainees e)) _ _ h in
    let b = passed (leb (length (sheet e f)) room) _ _ a.1 in
    record {
      fits = record {
        many = many (or_cases (eqb (length f) 0) (eqb (length f) (trainees e)) a.0);
        known = λ t l. filed_either (practices e) (get_or f t 0) (filed_all (practices e) 0 f b.1 t l);
      };
      roomy = leb-true (length (sheet e f)) room b.0;
    }
  where
    many : (eqb (length f) 0 ≡ true) ⊎ (eqb (length f) (trainees e) ≡ true) → (length f ≡ 0) ⊎ (length f ≡ trainees e)
    many (inl t) = inl (eqb-true (length f) 0 t)
    many (inr t) = inr (eqb-true (length f) (trainees e) t)

pub few_filed : (e : Entries) (f : Filing) → Lawful e → (length f ≡ 0) ⊎ (length f ≡ trainees e) → length f ≤ 400
few_filed e f law (inl h) = omega arith
few_filed e f law (inr h) = omega (arith, law.few_trainees)

-- a filing that fits is refused only for want of room
module _ (e : Entries) (f : Filing) (fit : Fitting e f) where
  counted : eqb (length f) 0 || eqb (length f) (trainees e) ≡ true
  counted = go fit.many
    where
      go : (length f ≡ 0) ⊎ (length f ≡ trainees e) → eqb (length f) 0 || eqb (length f) (trainees e) ≡ true
      go (inl h) = or_left (eqb (length f) 0) (eqb (length f) (trainees e)) (eq-eqb (length f) 0 h)
      go (inr h) = or_right (eqb (length f) 0) (eqb (length f) (trainees e)) (eq-eqb (length f) (trainees e) h)

  pub refused_short : (room : ℕ) → room < length (sheet e f) → write_refusal e f room ≡ Some (of_sheet WrongLength (length (sheet e f)))
  refused_short room l = rw (counted, lt-leb (length (sheet e f)) room l)

  pub refused_not : (room : ℕ) → length (sheet e f) ≤ room → write_refusal e f room ≡ None
  refused_not room l =
      rw (counted, le-leb (length (sheet e f)) room l) (filed_fits (practices e) 0 f (λ k m. filed_fine (practices e) (get_or f k 0) (fit.known k m)))
