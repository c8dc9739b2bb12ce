use Rattle.std.proofs.Common.{length, Ok, refl, rules}
use Rattle.round.specs.Seen.{seen}
use Rattle.round.proofs.Allotting.{found_counted, found_stands}
use Rattle.round.proofs.Going.{goes_on}
use Rattle.round.proofs.rounds.Round.allot.Goals as goal

pub returns-in_err-found-clause-law : goal.returns-in_err-found-clause-law
returns-in_err-found-clause-law g c = goes_on _ _ _ (c.from_residual.result, search rules, refl)

pub of-self-requires : goal.of-self-requires
of-self-requires g c =
    found_counted (g.R.Roll.entries c.args.self.now.register) (length c.args.waiting.now) (length c.args.moves.now) c.in_ok-found.found c.in_ok-found.ensures.finds

pub returns-clause-exact : goal.returns-clause-exact
returns-clause-exact g c =
    rw (c.of-self.ensures.stands, c.of-self.ensures.seats) (found_stands (seen g.R.Roll.entries g.R.Terms.rules c.args.self.now) (length c.args.waiting.now) (length c.args.moves.now) c.in_ok-found.found c.in_ok-found.ensures.finds)

pub returns-clause-law : goal.returns-clause-law
returns-clause-law g c =
    goes_on _ _ _ (Ok c.in_ok-found.found.seated, rw (c.of-self.ensures.stands, c.of-self.ensures.seats) (found_stands (seen g.R.Roll.entries g.R.Terms.rules c.args.self.now) (length c.args.waiting.now) (length c.args.moves.now) c.in_ok-found.found c.in_ok-found.ensures.finds), refl)
