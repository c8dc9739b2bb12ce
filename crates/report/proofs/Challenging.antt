-- From what challenge told to the words of the rival.
use Rattle.std.proofs.Common.{◌≡◌, ℕ, ◌≤◌, List, [], ◌++◌, length, Some, None, Ok, Err, codes, decimal, Option, sym, refl, ap, ◌∙◌, subst, ap₂, arith}
use Rattle.std.proofs.lemmas.List.{length-append, length_push, append-nil, drop_all}
use Rattle.rules.specs.declared.words.Refusal.{Refusal}
use Rattle.rules.specs.Meaning.{Entries, Lawful, trainees}
use Rattle.voting.specs.Placements.{Placement, Feasible}
use Rattle.sheet.specs.Told.{accepted}
use Rattle.allotment.specs.Bytes.{bytes_of, offered_by}
use Rattle.allotment.specs.Calls.{Rival, challenge_refusal, challenge_answer, challenge_outcome}
use Rattle.texts.specs.Text.{kept}
use Rattle.texts.specs.Lines.{line, refusal_words, seat_lines, rival_lines}
use Rattle.report.specs.Report.{Read, TellsRival, TellsChallenge, rival_text}
use Rattle.report.proofs.Handing.{ok_is, not_ok, alone}
use Rattle.report.proofs.Lined.{lines_short}
use Rattle.report.proofs.Judging.{small_seats, lines_are}

rival_short : (e : Entries) → Lawful e → (k : ℕ) (N : Placement) → Feasible e N → length (decimal k) ≤ 20 → length (rival_lines (trainees e) k N) ≤ 4096
rival_short e law k N f short =
    let w = codes "majority " ++ decimal k in
    omega (
      arith,
      short,
      law.few_trainees,
      lines_short (trainees e) N law.few_trainees (small_seats e law N f),
      length-append (line w) (seat_lines (trainees e) N),
      length_push w 10,
      length-append (codes "majority ") (decimal k),
    )

-- challenge gave a rival
pub rival_told :
    (e : Entries) (offered : List ℕ) → Lawful e → (k : ℕ) (N : Placement) (before after : List ℕ) (m : ℕ) → length before ≡ trainees e → Rival e offered (length before) k N →
    challenge_outcome e offered before k N ≡ (Ok m, after) → length (decimal m) ≤ 20 → (start text : List ℕ) → start ≡ [] →
    text ≡ kept (start ++ (line (codes "majority " ++ decimal m) ++ seat_lines (length after) (offered_by after))) → TellsRival e offered text
rival_told e offered law k N before after m l rival h short start text s p = go (challenge_refusal e offered (trainees e)) refl
  where
    at : challenge_refusal e offered (length before) ≡ challenge_refusal e offered (trainees e)
    at = ap (challenge_refusal e offered) l

    go : (r : Option Refusal) → challenge_refusal e offered (trainees e) ≡ r → TellsRival e offered text
    go (Some r) q = absurd (not_ok m r (ap (λ x. x.0) (sym (ap (λ z. challenge_answer z e before k N) (at ∙ q)) ∙ h)))
    go None q =
        let gave = sym (ap (λ z. challenge_answer z e before k N) (at ∙ q)) ∙ h in
        let strong = rival (at ∙ q) in
        let count : m ≡ k = sym (ok_is k m (ap (λ x. x.0) gave)) in
        let is : after ≡ bytes_of (trainees e) N =
        sym (ap (λ x. x.1) gave) ∙ ap (λ z. bytes_of (trainees e) N ++ z) (drop_all (trainees e) before (omega (arith, l))) ∙ append-nil (bytes_of (trainees e) N)
        in
        let same = lines_are (trainees e) N after (small_seats e law N strong.feasible) is in
        let words = ap₂ (λ a b. line (codes "majority " ++ decimal a) ++ b) count same.1 in (
          k,
          N,
          λ z. strong,
          alone start (rival_lines (trainees e) k N) text s (p ∙ ap (λ x. kept (start ++ x)) words) (rival_short e law k N strong.feasible (let P : ℕ → Type 0 = λ z. length (decimal z) ≤ 20 in subst P count short)) ∙
              ap (λ z. rival_text z e k N) (sym q),
        )

-- the sheet was not accepted
pub challenged_refused : (rd : Read) (r : Refusal) → Err r ≡ accepted rd → (words : List ℕ) → words ≡ line (refusal_words r) → TellsChallenge rd words
challenged_refused (Ok x) r h words w = absurd (not_ok tt r h)
challenged_refused (Err q) r h words w = let e : r ≡ q = cc in (0, λ t. None, tt, w ∙ ap (λ z. line (refusal_words z)) e)
