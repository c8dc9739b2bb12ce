use Rattle.std.proofs.Common.{◌+◌, ◌<◌, ◌≤◌, [], length, arith, rules}
use Rattle.sheet.specs.Format.{measured}
use Rattle.sheet_writer.proofs.Parts.{room_next}
use Rattle.sheet_writer.proofs.lists.put_lists.Goals as goal

pub slice_bounds-put_list-end : goal.slice_bounds-put_list-end
slice_bounds-put_list-end g c =
    let ls = (g.R.Roll.entries c.args.roll.now).lists in
    let within : c.loop-t.t < length ls = omega (arith, c.trainees-t-end.ensures) in
    let h : c.loop-t.at + 1 + c.list_length.result ≤ length c.args.out.now = omega (arith, c.loop-t.invariant.0, room_next measured [] ls c.loop-t.t within, c.requires, c.list_length.ensures) in
    search rules
