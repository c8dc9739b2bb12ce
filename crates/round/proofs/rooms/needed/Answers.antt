use Rattle.std.proofs.Common.{◌∙◌, rules, tests}
use Rattle.std.proofs.lemmas.Iterator.{YieldsList-from_slice}
use Rattle.std.proofs.lemmas.Iterator.Consumers.{fold_from_yields_List}
use Rattle.round.proofs.Writing.{more_room, needed_all}
use Rattle.round.proofs.rooms.needed.Goals as goal

pub returns : goal.returns
returns c =
    fold_from_yields_List _ (more_room c.args.trainees) 0 c.fold.result c.fold.ensures.ran (YieldsList-from_slice c.args.script.now cc) (λ a x b q k. search (rules, tests))
    ∙ needed_all c.args.trainees c.args.script.now
