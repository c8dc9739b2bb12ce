use Rattle.std.proofs.Common.{◌≡◌, take}
use Rattle.rules.specs.Meaning.{list_of}
use Rattle.sheet_writer.specs.Over.{over}
use Rattle.sheet_writer.proofs.lists.put_choices.Given as goal

abbrev pub invariant-loop-k : goal.invariant-loop-k
invariant-loop-k g l = l.out ≡ over (take l.k (list_of (g.R.Roll.entries l.roll) l.t.0)) l.initial.out
