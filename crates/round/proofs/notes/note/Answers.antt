use Rattle.std.proofs.Common.{length, arith}
use Rattle.std.proofs.lemmas.List.FromFn.{fill_by_all}
use Rattle.allotment.specs.Bytes.{byte_of_seat}
use Rattle.round.specs.Steps.{seats_told}
use Rattle.round.specs.Seen.{seen}
use Rattle.round.proofs.notes.note.Goals as goal

pub returns : goal.returns
returns g c =
    let s = seen g.R.Roll.entries g.R.Terms.rules c.args.round.now in
    fill_by_all (λ k. byte_of_seat (seats_told s k)) c.loop-t.room (length c.args.room.now) 0 c.loop-t.auto.room
    (λ k l. c.loop-t.invariant k (omega (arith, c.loop-t-test.false)))
