use Rattle.allotment.specs.Copies.{entries}
use Rattle.allotment.proofs.Demands.{Demanded}
use Rattle.allotment.proofs.by_firsts.ByFirsts.of.Given as goal

abbrev pub invariant-loop-list : goal.invariant-loop-list
invariant-loop-list l = Demanded (entries l.lists) l.list-index l.demands.items
