use Rattle.std.proofs.Common.{rules}
use Rattle.round.proofs.Going.{goes_on}
use Rattle.round.proofs.rounds.Round.challenge.Goals as goal

pub returns-clause-law : goal.returns-clause-law
returns-clause-law g c = goes_on _ _ _ (search rules)
