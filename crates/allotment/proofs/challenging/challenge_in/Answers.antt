use Rattle.voting.specs.Ballots.{ballot}
use Rattle.voting.specs.Placements.{Placement, seating}
use Rattle.assignment.specs.declared.placed.Placed.{Placed}
use Rattle.assignment.specs.declared.table.Table.{Table}
use Rattle.allotment.specs.Bytes.{offered_by}
use Rattle.allotment.specs.Copies.{entries}
use Rattle.allotment.proofs.Answering.{answer_ok}
use Rattle.allotment.proofs.Tabling.{heaviest_tabled}
use Rattle.allotment.proofs.challenging.challenge_in.Goals as goal

pub write_rival-requires-clause-heaviest : goal.write_rival-requires-clause-heaviest
write_rival-requires-clause-heaviest c =
    let e = entries c.args.lists.now in
    let M : Placement = offered_by c.args.offered.now in
    let T : Table = c.hold.new.table in
    let f : Placed = c.unwrap-placed.result in
    heaviest_tabled e (ballot e M) T (seating f.seats) c.hold.ensures (answer_ok T _ c.place.result f c.place.ensures.answer c.unwrap-placed.ensures).1.heaviest
