use Rattle.std.proofs.Common.{◌≡◌, take}
use Rattle.std.specs.List.{flat_map}
use Rattle.sheet.specs.Format.{pair}
use Rattle.sheet_writer.specs.Over.{over}
use Rattle.sheet_writer.proofs.sections.put_places.Given as goal

abbrev pub invariant-loop-p : goal.invariant-loop-p
invariant-loop-p g l = l.out ≡ over (flat_map pair (take l.p (g.R.Roll.entries l.roll).places)) l.initial.out
