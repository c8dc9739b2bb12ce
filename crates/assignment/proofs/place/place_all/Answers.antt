use Rattle.std.proofs.Common.{arith}
use Rattle.assignment.proofs.Finish.{best}
use Rattle.assignment.proofs.Starts.{sound_vacant}
use Rattle.assignment.proofs.place.place_all.Goals as goal

pub loop-init : goal.loop-init
loop-init c = record { sound = sound_vacant c.args.table.now c.vacant-state.result c.vacant-state.ensures; newcomer = c.vacant-state.ensures.newcomer }

pub returns : goal.returns
returns c =
    best c.args.table.now c.loop.state c.loop.invariant.sound (omega (arith, c.loop.invariant.newcomer, c.len-end.ensures.value)) _ c.seats.ensures
