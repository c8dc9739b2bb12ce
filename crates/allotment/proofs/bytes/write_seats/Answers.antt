use Rattle.std.proofs.Common.{set, ap, ◌∙◌, arith}
use Rattle.voting.specs.Placements.{seating}
use Rattle.allotment.proofs.Writing.{byte_whole, write_more}
use Rattle.allotment.proofs.bytes.write_seats.Goals as goal

pub loop-t-preserved : goal.loop-t-preserved
loop-t-preserved c =
    ap (λ xs. set xs c.loop-t.t c.byte_of.result) c.loop-t.invariant ∙
    write_more (seating c.args.seats.now) c.args.buffer.now c.loop-t.t c.byte_of.result (omega arith)
    (c.byte_of.ensures ∙ byte_whole (seating c.args.seats.now c.loop-t.t) (c.requires.below c.loop-t.t c.loop-t-test.true))
