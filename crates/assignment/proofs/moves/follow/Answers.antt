use Rattle.std.proofs.Common.{◌≡◌, length, arith, rules}
use Rattle.worklist.specs.Records.{records}
use Rattle.assignment.specs.States.{seats_in}
use Rattle.assignment.proofs.Walks.{moved_set, walk_start}
use Rattle.assignment.proofs.moves.follow.Goals as goal

pub returns-clause-seats : goal.returns-clause-seats
returns-clause-seats c =
    let ts = c.args.trainees.now in
    let ms = records c.args.moves.now in
    let e = c.args.end in
    let size : length ts ≡ 400 = search rules in
    c.unwind.ensures.seats (seats_in ts) e c.requires
    (walk_start (seats_in ts) ms e c.requires _ (moved_set ts e.trainee _ (omega (arith, size, c.requires.end_known))))
