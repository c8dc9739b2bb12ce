use Rattle.std.proofs.Common.{rules}
use Rattle.round.proofs.Going.{goes_on}
use Rattle.round.proofs.rounds.Round.seat.Goals as goal

pub returns-then-t-trainees-clause-law : goal.returns-then-t-trainees-clause-law
returns-then-t-trainees-clause-law g c = goes_on _ _ _ (search rules)

pub returns-clause-law : goal.returns-clause-law
returns-clause-law g c = goes_on _ _ _ (search rules)
