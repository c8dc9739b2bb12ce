use Rattle.voting.proofs.Worked.{worked_rounds}
use Rattle.voting.proofs.worked_rounds.Goals as goal

pub returns : goal.returns
returns c = worked_rounds
