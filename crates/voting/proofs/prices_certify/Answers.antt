use Rattle.voting.proofs.Certificate.{prices_certify}
use Rattle.voting.proofs.prices_certify.Goals as goal

pub returns : goal.returns
returns c = prices_certify
