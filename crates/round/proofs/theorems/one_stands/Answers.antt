use Rattle.round.proofs.Standing.{stands_or_not}
use Rattle.round.proofs.theorems.one_stands.Goals as goal

pub returns-clause-known : goal.returns-clause-known
returns-clause-known c = stands_or_not
