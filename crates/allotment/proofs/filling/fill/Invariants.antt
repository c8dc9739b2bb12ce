use Rattle.allotment.specs.Copies.{entries}
use Rattle.allotment.specs.Tabled.{Filled, by_lists}
use Rattle.allotment.proofs.filling.fill.Given as goal

abbrev pub invariant-loop-t : goal.invariant-loop-t
invariant-loop-t g l = Filled (entries l.lists) (by_lists (entries l.lists) (g.W.Weigh.weighs l.weighing)) l.t l.table
