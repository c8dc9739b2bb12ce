-- What the reports say, and what a caller's buffer holds after one.
use Rattle.std.specs.Prelude.{◌≡◌, ℕ, cond, List, ◌++◌, length, drop, Some, None, Ok, Err, Option, Result, nat_le}
use Rattle.rules.specs.declared.words.Refusal.{Refusal}
use Rattle.rules.specs.declared.words.Reason.TheVariants.{WrongLength, NoneUnbeaten}
use Rattle.rules.specs.Words.{of_round}
use Rattle.rules.specs.Meaning.{Entries, trainees}
use Rattle.voting.specs.Placements.{Placement}
use Rattle.sheet.specs.Filing.{Filing}
use Rattle.allotment.specs.Calls.{Verdict, Rival, challenge_refusal}
use Rattle.texts.specs.declared.text.Text.{Text}
use Rattle.texts.specs.Text.{text}
use Rattle.texts.specs.Lines.{line, refusal_words, placement_lines, rival_lines}

-- what the bytes of a sheet read as: entries and a filing, or a refusal
abbrev pub Read : Type 0
Read = Result (Entries × Filing) Refusal

-- a fullest unbeaten placement for what the sheet says, or none where every feasible one is beaten
abbrev pub Judged : Read → Option Placement → Type 0
Judged (Ok x) verdict = Verdict x.0 verdict
Judged (Err r) verdict = Unit {0}

abbrev pub verdict_text : Entries → Option Placement → List ℕ
verdict_text e None = line (refusal_words (of_round NoneUnbeaten 0))
verdict_text e (Some M) = placement_lines (trainees e) M

abbrev pub report_text : Read → Option Placement → List ℕ
report_text (Ok x) verdict = verdict_text x.0 verdict
report_text (Err r) verdict = line (refusal_words r)

-- the strongest rival of what is filed, wherever that can be challenged
abbrev pub Challenged : Read → ℕ → Placement → Type 0
Challenged (Ok x) k N = Rival x.0 x.1 (trainees x.0) k N
Challenged (Err r) k N = Unit {0}

abbrev pub rival_text : Option Refusal → Entries → ℕ → Placement → List ℕ
rival_text None e k N = rival_lines (trainees e) k N
rival_text (Some r) e k N = line (refusal_words r)

abbrev pub challenge_text : Read → ℕ → Placement → List ℕ
challenge_text (Ok x) k N = rival_text (challenge_refusal x.0 x.1 (trainees x.0)) x.0 k N
challenge_text (Err r) k N = line (refusal_words r)

-- what is told of an answer: its text, or the words of the refusal
abbrev pub answer_text : Result Text Refusal → List ℕ
answer_text (Ok t) = text t
answer_text (Err r) = line (refusal_words r)

-- words that tell a fullest unbeaten placement, or that there is none
abbrev pub TellsVerdict : Entries → List ℕ → Type 0
TellsVerdict e words = (v : Option Placement) × Verdict e v × (words ≡ verdict_text e v)

-- words that tell the same of what was read, or why it was refused
abbrev pub TellsReport : Read → List ℕ → Type 0
TellsReport rd words = (v : Option Placement) × Judged rd v × (words ≡ report_text rd v)

-- words that tell the strongest rival of what is offered, or why it cannot be challenged
abbrev pub TellsRival : Entries → List ℕ → List ℕ → Type 0
TellsRival e offered words =
    (k : ℕ) × (N : Placement) × Rival e offered (trainees e) k N × (words ≡ rival_text (challenge_refusal e offered (trainees e)) e k N)

-- words that tell the same of what was read, or why it was refused
abbrev pub TellsChallenge : Read → List ℕ → Type 0
TellsChallenge rd words = (k : ℕ) × (N : Placement) × Challenged rd k N × (words ≡ challenge_text rd k N)

-- the answer of a report of this text, and its buffer then: at least 4,096 bytes are wanted, and later bytes stay
abbrev pub text_outcome : List ℕ → List ℕ → Result ℕ Refusal × List ℕ
text_outcome text buffer =
    cond (nat_le 4096 (length buffer)) (Ok (length text), text ++ drop (length text) buffer) (Err (of_round WrongLength 4096), buffer)
