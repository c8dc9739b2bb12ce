-- What is written reads as what it was written from, and what was read is written as the same bytes.
use Rattle.std.proofs.Common.{◌≡◌, ℕ, ◌<◌, ◌≤◌, leb, ◌⊎◌, List, length, take, Some, None, Ok, Err, Option, Result, sym, refl, ap, ◌∙◌, inl, inr}
use Rattle.std.proofs.lemmas.Bool.{cases_lt, le-leb, lt-leb, cond-true, cond-false}
use Rattle.rules.specs.declared.words.Refusal.{Refusal}
use Rattle.rules.specs.Meaning.{Entries, Lawful}
use Rattle.sheet.specs.Filing.{Filing, Fitting}
use Rattle.sheet.specs.Format.{sheet}
use Rattle.sheet.specs.Reading.{reading}
use Rattle.sheet.specs.Told.{accepted}
use Rattle.sheet.specs.Opened.{read_or_nobody, opened}
use Rattle.sheet.specs.Statement.{Bytes, SheetOf}
use Rattle.sheet.proofs.Whole.{accepts, only}
use Rattle.sheet_writer.specs.Over.{over}
use Rattle.sheet_writer.specs.Writing.{write_refusal, written, write_outcome, rewritten, rewrite_outcome}
use Rattle.sheet_writer.proofs.Parts.{front}
use Rattle.sheet_writer.proofs.Refused.{writable, refused_short, refused_not}

-- the contract of write
pub record Trip (e : Entries) (f : Filing) (buffer : List ℕ) (r : Result ℕ Refusal) (out : List ℕ) : Type 0 where
  pub outcome : write_outcome e f buffer ≡ (r, out)
  pub reads : (n : ℕ) → r ≡ Ok n → reading (take n out) ≡ Ok (e, f)
  pub opens : (n : ℕ) → r ≡ Ok n → opened (take n out) ≡ (e, f)

pub trip_refused : (e : Entries) (f : Filing) (buffer : List ℕ) (r : Refusal) → write_refusal e f (length buffer) ≡ Some r → Trip e f buffer (Err r) buffer
trip_refused e f buffer r h =
    record {
      outcome = ap (λ (o : Option Refusal). written o (sheet e f) buffer) h;
      reads = λ n q. absurd (cc);
      opens = λ n q. absurd (cc);
    }

pub trip_written : (e : Entries) (f : Filing) (buffer out : List ℕ) (n : ℕ) → Lawful e → write_refusal e f (length buffer) ≡ None → n ≡ length (sheet e f) → out ≡ over (sheet e f) buffer → Trip e f buffer (Ok n) out
trip_written e f buffer out n law h l w =
    record {
      outcome = ap (λ (o : Option Refusal). written o (sheet e f) buffer) h ∙ both n out l w;
      reads = back;
      opens = λ m q. ap read_or_nobody (back m q);
    }
  where
    both : (n : ℕ) (out : List ℕ) → n ≡ length (sheet e f) → out ≡ over (sheet e f) buffer → ◌≡◌ {A = Result ℕ Refusal × List ℕ} (Ok (length (sheet e f)), over (sheet e f) buffer) (Ok n, out)
    both n out l w = rw (l, w)

    fit : Fitting e f
    fit = (writable e f (length buffer) h).fits

    back : (m : ℕ) → ◌≡◌ {A = Result ℕ Refusal} (Ok n) (Ok m) → reading (take m out) ≡ Ok (e, f)
    back m q =
        let same : n ≡ m = cc in
        ap reading (front (sheet e f) buffer out m (sym same ∙ l) w) ∙ accepts (sheet e f) e f (record { lawful = law; fits = fit; bytes = refl })

-- bytes that are a sheet, written again
pub sheet_again : (b buffer : List ℕ) (e : Entries) (f : Filing) → SheetOf e f b → rewrite_outcome b buffer ≡ write_outcome e f buffer
sheet_again b buffer e f s =
    ap (λ (o : Result (Entries × Filing) Refusal). rewritten (accepted o) b buffer) (accepts b e f s)
    ∙ ap (λ (c : List ℕ). rewritten (Ok tt) c buffer) s.bytes
    ∙ go (cases_lt (length buffer) (length (sheet e f)))
  where
    go : (length buffer < length (sheet e f)) ⊎ (length (sheet e f) ≤ length buffer) → rewritten (Ok tt) (sheet e f) buffer ≡ write_outcome e f buffer
    go (inl l) =
        cond-false (leb (length (sheet e f)) (length buffer)) _ _ (lt-leb (length (sheet e f)) (length buffer) l)
        ∙ ap (λ (o : Option Refusal). written o (sheet e f) buffer) (sym (refused_short e f s.fits (length buffer) l))
    go (inr l) =
        cond-true (leb (length (sheet e f)) (length buffer)) _ _ (le-leb (length (sheet e f)) (length buffer) l)
        ∙ ap (λ (o : Option Refusal). written o (sheet e f) buffer) (sym (refused_not e f s.fits (length buffer) l))

accepted_ok : {X : Type 0} (r : Result X Refusal) → Ok tt ≡ accepted r → (x : X) × (r ≡ Ok x)
accepted_ok (Ok x) e = (x, refl)
accepted_ok (Err d) e = absurd (cc)

-- accepted bytes, opened and written again
pub written_again : (b buffer : List ℕ) (e : Entries) (f : Filing) → Bytes b → Ok tt ≡ accepted (reading b) → e ≡ (opened b).0 → f ≡ (opened b).1 → rewrite_outcome b buffer ≡ write_outcome e f buffer
written_again b buffer e f bytes a p q =
    let r = accepted_ok (reading b) a in
    let o : opened b ≡ r.0 = ap read_or_nobody r.1 in
    let s = only b r.0.0 r.0.1 bytes r.1 in
    sheet_again b buffer r.0.0 r.0.1 s
    ∙ ap (λ (x : Entries × Filing). write_outcome x.0 x.1 buffer) (sym o)
    ∙ ap (λ (d : Entries). write_outcome d (opened b).1 buffer) (sym p)
    ∙ ap (λ (g : Filing). write_outcome e g buffer) (sym q)
