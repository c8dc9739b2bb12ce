use Rattle.std.proofs.Common.{◌≡◌}
use Rattle.voting.specs.Placements.{seating}
use Rattle.allotment.specs.Bytes.{written}
use Rattle.allotment.proofs.bytes.write_seats.Given as goal

abbrev pub invariant-loop-t : goal.invariant-loop-t
invariant-loop-t l = l.buffer ≡ written l.t (seating l.seats) l.initial.buffer
