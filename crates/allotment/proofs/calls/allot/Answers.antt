use Rattle.std.proofs.Common.{ℕ, ◌≤◌, length, ap, ◌∙◌, arith, rules}
use Rattle.std.proofs.lemmas.List.{length-take-le}
use Rattle.rules.specs.Meaning.{Entries}
use Rattle.voting.specs.Placements.{seating}
use Rattle.allotment.specs.declared.found.Found.{Found}
use Rattle.allotment.specs.Bytes.{written}
use Rattle.allotment.proofs.Answering.{found_decided, allots_found, cramped_slots}
use Rattle.allotment.proofs.Deciding.{seats_below}
use Rattle.allotment.proofs.Writing.{written_front, below_front}
use Rattle.allotment.proofs.calls.allot.Goals as goal

pub write_seats-requires : goal.write_seats-requires
write_seats-requires g c =
    let e : Entries = g.R.Roll.entries c.args.roll.now in
    let f : Found = c.in_ok-found.found in
    let d = found_decided e (length c.args.waiting.now) (length c.args.moves.now) f c.in_ok-found.ensures.finds in
    let l : c.trainees-n.result ≤ length f.seats = search rules in
    record {
      room = omega (arith, c.if-seats-n.false, length-take-le c.trainees-n.result f.seats l);
      below =
          below_front c.trainees-n.result f.seats l
          (λ t l. seats_below e (seating f.seats) (g.R.Roll.lawful c.args.roll.now) d.1.0.unbeaten.feasible t (omega (arith, c.trainees-n.ensures)));
    }

pub returns : goal.returns
returns g c =
    let e : Entries = g.R.Roll.entries c.args.roll.now in
    let f : Found = c.in_ok-found.found in
    let w : ℕ = length c.args.waiting.now in
    let m : ℕ = length c.args.moves.now in
    record {
      allots =
          allots_found e w m c.args.seats.now c.write_seats.new.buffer f (omega (arith, c.trainees-n.ensures, c.if-seats-n.false)) c.in_ok-found.ensures.finds
          (
          written_front c.trainees-n.result f.seats (search rules) c.args.seats.now c.write_seats.new.buffer c.write_seats.ensures ∙
          ap (λ n. written n (seating f.seats) c.args.seats.now) c.trainees-n.ensures
          );
      slots = λ k. c.in_ok-found.ensures.slots (cramped_slots e w m c.args.seats.now (omega (arith, c.trainees-n.ensures, c.if-seats-n.false)) k);
    }
