use Rattle.std.proofs.Common.{arith}
use Rattle.assignment.proofs.Gaps.{gap_priced}
use Rattle.assignment.proofs.search.Search.gap.Goals as goal

pub overflow_sub-result : goal.overflow_sub-result
overflow_sub-result c = gap_priced c.args.self.now.table.now c.args.self.now.state.now c.args.t c.args.choice c.requires c.args.self.now.ready

pub returns : goal.returns
returns c = omega (arith, gap_priced c.args.self.now.table.now c.args.self.now.state.now c.args.t c.args.choice c.requires c.args.self.now.ready)
