use Rattle.voting.proofs.Local.{local_description}
use Rattle.voting.proofs.local_description.Goals as goal

pub returns : goal.returns
returns c = local_description
