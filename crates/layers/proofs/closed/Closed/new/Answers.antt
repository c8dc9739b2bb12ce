use Rattle.rules.specs.Meaning.{meant}
use Rattle.layers.proofs.Closing.{without_none}
use Rattle.layers.proofs.closed.Closed.new.Goals as goal

pub returns-clause-shows : goal.returns-clause-shows
returns-clause-shows g c = without_none 100 (meant g.R.Roll.entries g.R.Terms.rules c.args.below)
