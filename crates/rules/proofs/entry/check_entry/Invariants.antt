use Rattle.std.proofs.Common.{◌≡◌, [], take, drop}
use Rattle.rules.specs.Meaning.{meant}
use Rattle.rules.specs.Questions.{numbers}
use Rattle.rules.specs.Refusals.{choice_refusal}
use Rattle.rules.proofs.entry.check_entry.Given as goal

abbrev pub invariant-loop-i : goal.invariant-loop-i
invariant-loop-i g l =
    choice_refusal (meant g.R.Roll.entries g.R.Terms.rules l.r) [] (numbers l.list)
    ≡ choice_refusal (meant g.R.Roll.entries g.R.Terms.rules l.r) (take l.i (numbers l.list)) (drop l.i (numbers l.list))
