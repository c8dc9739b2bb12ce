use Rattle.rules.specs.Meaning.{meant}
use Rattle.rules.specs.Questions.{numbers}
use Rattle.rules.specs.Refusals.{entry_refusal}
use Rattle.rules.proofs.Outcomes.{none_from_ok}
use Rattle.layers.specs.Shown.{without_meaning}
use Rattle.layers.proofs.Entered.{enter_closed}
use Rattle.layers.proofs.closed.ClosedRegister.enter.Goals as goal

pub returns : goal.returns
returns g c =
    let s = c.args.self.now in
    let m = meant g.R.Roll.entries g.R.Terms.rules s.below in
    let after = meant g.R.Roll.entries g.R.Terms.rules c.enter.new.self in
    let xs = numbers c.args.list.now in
    enter_closed s.closed m c.args.t.0 xs c.enter.result after (none_from_ok (entry_refusal (without_meaning s.closed m) c.args.t.0 xs) c.in_ok-check_entry.ensures) c.enter.ensures
