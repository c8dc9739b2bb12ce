use Rattle.std.proofs.Common.{◌≡◌, ◌∷◌, ◌++◌, sym, ap, ◌∙◌, append_assoc}
use Rattle.std.proofs.lemmas.List.{get_or_default}
use Rattle.voting.specs.Placements.{Placement, stored}
use Rattle.allotment.specs.Bytes.{seat_of_byte, offered_by}
use Rattle.texts.specs.Text.{text, kept}
use Rattle.texts.specs.Lines.{line, seat_words, seat_lines}
use Rattle.texts.proofs.Keeping.{kept_kept}
use Rattle.report.proofs.Lined.{lines_more}
use Rattle.report.proofs.seats.put_seats.Goals as goal

pub loop-t-preserved : goal.loop-t-preserved
loop-t-preserved c =
    let t = c.loop-t.t in
    let M : Placement = offered_by c.args.seats.now in
    let seat : stored c.seat_of.result ≡ M t = c.seat_of.ensures ∙ ap seat_of_byte (get_or_default c.args.seats.now t 0 255 c.loop-t-test.true) in
    let more : text c.put_seat_line.new.self ≡ kept (text c.args.text.now ++ 10 ∷ (seat_lines t M ++ line (seat_words t (M t)))) =
    c.put_seat_line.ensures ∙ rw (seat, c.loop-t.invariant) (simp (kept_kept, append_assoc))
    in
    more ∙ ap (λ x. kept (text c.args.text.now ++ 10 ∷ x)) (sym (lines_more t M))
