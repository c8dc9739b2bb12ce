-- From what allot told to the words of the report.
use Rattle.std.proofs.Common.{◌≡◌, ℕ, ◌<◌, ◌≤◌, List, [], ◌++◌, length, take, Some, None, Ok, Err, codes, decimal, Option, sym, ap, ◌∙◌, ap₂, arith}
use Rattle.std.proofs.lemmas.Fmt.{length-decimal-le}
use Rattle.std.proofs.lemmas.List.{length-append, length_push}
use Rattle.std.proofs.lemmas.List.FromFn.{length-map-range_with_len}
use Rattle.rules.specs.Meaning.{Entries, Lawful, trainees, practices}
use Rattle.voting.specs.Placements.{Seat, Placement, Feasible, placed, seated}
use Rattle.voting.specs.Totals.{one}
use Rattle.voting.proofs.Totals.{total_le, total_one, one_le}
use Rattle.voting.proofs.Certificate.{Within, within}
use Rattle.sheet.specs.Opened.{read_or_nobody}
use Rattle.sheet.specs.Told.{accepted}
use Rattle.allotment.specs.Bytes.{byte_of_seat, bytes_of, offered_by}
use Rattle.allotment.specs.Calls.{Verdict, told}
use Rattle.texts.specs.Text.{kept}
use Rattle.texts.specs.Lines.{line, seat_lines, placement_lines}
use Rattle.report.specs.Report.{Read, TellsVerdict, TellsReport}
use Rattle.report.proofs.Handing.{ok_is, not_ok, alone}
use Rattle.report.proofs.Lined.{Small, lines_alike, bytes_back, written_front, lines_short}

-- the practices of a feasible placement have small numbers
pub small_seats : (e : Entries) → Lawful e → (M : Placement) → Feasible e M → (t : ℕ) → t < trainees e → Small (M t)
small_seats e law M f t l = go (M t) (within e M f t l)
  where
    go : (s : Seat) → Within (practices e) s → Small s
    go None h = tt
    go (Some p) h = omega (arith, law.few_practices)

seated_le : (n : ℕ) (M : Placement) → seated n M ≤ n
seated_le n M = omega (arith, total_le n (λ t. one (placed (M t))) (λ t. 1) (λ t l. one_le (placed (M t))), total_one n)

-- lines for each trainee, from the bytes of a placement
pub lines_are :
    (n : ℕ) (M : Placement) (part : List ℕ) → ((t : ℕ) → t < n → Small (M t)) → part ≡ bytes_of n M →
    (length part ≡ n) × (seat_lines (length part) (offered_by part) ≡ seat_lines n M)
lines_are n M part small h =
    let l : length part ≡ n = ap length h ∙ length-map-range_with_len (λ t. byte_of_seat (M t)) 0 n in
    (l, ap₂ (λ i b. seat_lines i (offered_by b)) l h ∙ lines_alike n (offered_by (bytes_of n M)) M (bytes_back n M small))

placement_short : (e : Entries) → Lawful e → (M : Placement) → Feasible e M → length (placement_lines (trainees e) M) ≤ 4096
placement_short e law M f =
    let n = trainees e in
    let k = seated n M in
    let w2 = codes "placed " ++ decimal k in
    let w3 = w2 ++ codes " of " in
    let kn : k ≤ n = seated_le n M in
    let nn : n ≤ 400 = law.few_trainees in
    omega (
      arith,
      nn,
      lines_short n M nn (small_seats e law M f),
      length-append (line (w3 ++ decimal n)) (seat_lines n M),
      length_push (w3 ++ decimal n) 10,
      length-append w3 (decimal n),
      length-append w2 (codes " of "),
      length-append (codes "placed ") (decimal k),
      length-decimal-le 3 k (omega arith) (omega (arith, kn, nn)) (omega (arith, kn, nn)),
      length-decimal-le 3 n (omega arith) (omega (arith, nn)) (omega (arith, nn)),
    )

-- allot gave a placement
pub verdict_placed :
    (e : Entries) → Lawful e → (v : Option Placement) → Verdict e v → (before after : List ℕ) (k i : ℕ) → told e before v ≡ (Ok k, after) → i ≡ trainees e → (start text : List ℕ) → start ≡ [] →
    text ≡ kept (start ++ (line (codes "placed " ++ decimal k ++ codes " of " ++ decimal (length (take i after))) ++ seat_lines (length (take i after)) (offered_by (take i after)))) →
    TellsVerdict e text
verdict_placed e law None v before after k i h j start text s p = absurd (not_ok k _ (ap (λ q. q.0) h))
verdict_placed e law (Some M) v before after k i h j start text s p =
    let n = trainees e in
    let part = take i after in
    let is : part ≡ bytes_of n M = ap₂ take j (sym (ap (λ q. q.1) h)) ∙ written_front n M before in
    let same = lines_are n M part (small_seats e law M v.unbeaten.feasible) is in
    let count : k ≡ seated n M = sym (ok_is _ _ (ap (λ q. q.0) h)) in
    let words : line (codes "placed " ++ decimal k ++ codes " of " ++ decimal (length part)) ++ seat_lines (length part) (offered_by part) ≡ placement_lines n M =
    ap₂ (λ a b. line (codes "placed " ++ decimal a ++ codes " of " ++ decimal b) ++ seat_lines (length part) (offered_by part)) count same.0 ∙
    ap (λ x. line (codes "placed " ++ decimal (seated n M) ++ codes " of " ++ decimal n) ++ x) same.1
    in
    (Some M, v, alone start (placement_lines n M) text s (p ∙ ap (λ x. kept (start ++ x)) words) (placement_short e law M v.unbeaten.feasible))

-- the sheet was accepted
pub judged_accepted : (rd : Read) → Ok tt ≡ accepted rd → (words : List ℕ) → TellsVerdict (read_or_nobody rd).0 words → TellsReport rd words
judged_accepted (Ok x) h words told = told
judged_accepted (Err r) h words told = absurd (not_ok tt r (sym h))
