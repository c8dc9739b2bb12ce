use Rattle.std.proofs.Common.{◌≡◌, length, take}
use Rattle.std.specs.List.{flat_map}
use Rattle.sheet.specs.Format.{measured}
use Rattle.sheet_writer.specs.Over.{over}
use Rattle.sheet_writer.proofs.lists.put_lists.Given as goal

abbrev pub invariant-loop-t : goal.invariant-loop-t
invariant-loop-t g l =
    (l.at ≡ length (flat_map measured (take l.t (g.R.Roll.entries l.roll).lists))) × (l.out ≡ over (flat_map measured (take l.t (g.R.Roll.entries l.roll).lists)) l.initial.out)
