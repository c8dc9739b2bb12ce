-- From what an answer says to the buffer that it is handed over in.
use Rattle.std.proofs.Common.{◌≡◌, ℕ, ◌<◌, ◌≤◌, ◌⊎◌, List, [], ◌++◌, length, Ok, Err, Result, inl, inr, sym, ap, ◌∙◌, arith}
use Rattle.std.proofs.lemmas.Bool.{cases_lt, lt-leb}
use Rattle.rules.specs.declared.words.Refusal.{Refusal}
use Rattle.texts.specs.Text.{kept}
use Rattle.texts.proofs.Keeping.{kept_short}
use Rattle.report.specs.Report.{text_outcome}

pub ok_is : {X Y : Type 0} (x y : X) → ◌≡◌ {A = Result X Y} (Ok x) (Ok y) → x ≡ y
ok_is x y h = cc

pub not_ok : {X Y : Type 0} (x : X) (r : Y) → ◌≡◌ {A = Result X Y} (Err r) (Ok x) → ⊥
not_ok x r h = let z : ◌≡◌ {A = ℕ} 0 1 = cc in omega arith

-- what is put into an empty text, where it is short enough
pub alone : (start words text : List ℕ) → start ≡ [] → text ≡ kept (start ++ words) → length words ≤ 4096 → text ≡ words
alone start words text e h l = h ∙ rw e (kept_short words l)

-- what is told are the words of some x for which P holds; a buffer that is too short is told the same of any
pub handed :
    {X : Type 0} (P : X → Type 0) (words : X → List ℕ) (any : X) (told buffer : List ℕ) (outcome : Result ℕ Refusal × List ℕ) →
    (4096 ≤ length buffer → (x : X) × P x × (told ≡ words x)) → text_outcome told buffer ≡ outcome →
    (x : X) × (4096 ≤ length buffer → P x) × (text_outcome (words x) buffer ≡ outcome)
handed {X} P words any told buffer outcome f h = by (cases_lt (length buffer) 4096)
  where
    by : (length buffer < 4096) ⊎ (4096 ≤ length buffer) → (x : X) × (4096 ≤ length buffer → P x) × (text_outcome (words x) buffer ≡ outcome)
    by (inl short) = (any, λ l. absurd (omega arith), rw (lt-leb 4096 (length buffer) short) (rw (lt-leb 4096 (length buffer) short) at h))
    by (inr long) = let x = f long in (x.0, λ _. x.1, ap (λ w. text_outcome w buffer) (sym x.2) ∙ h)
