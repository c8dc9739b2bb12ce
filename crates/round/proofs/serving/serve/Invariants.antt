use Rattle.rules.specs.Meaning.{meant}
use Rattle.round.specs.Seen.{seen}
use Rattle.round.proofs.Writing.{Going}
use Rattle.round.proofs.serving.serve.Given as goal

abbrev pub invariant-loop-i : goal.invariant-loop-i
invariant-loop-i g l =
    Going (meant g.R.Roll.entries g.R.Terms.rules l.fn.register) l.trainees l.script l.initial.answers l.answers l.initial.placements l.placements l.i l.used
    (seen g.R.Roll.entries g.R.Terms.rules l.round)
