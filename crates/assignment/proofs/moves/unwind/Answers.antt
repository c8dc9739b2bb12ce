use Rattle.std.proofs.Common.{◌≡◌, ◌<◌, length, sym, refl, ap, ◌∙◌, subst, arith, length-set}
use Rattle.voting.specs.Placements.{stored}
use Rattle.worklist.specs.Records.{records}
use Rattle.worklist.proofs.Ends.{newest_none}
use Rattle.assignment.specs.States.{seats_in}
use Rattle.assignment.specs.Walks.{Walk}
use Rattle.assignment.proofs.Counts.{seat_eq}
use Rattle.assignment.proofs.Walks.{moved_set, values_set, walk_done, front_less, front_known, front_take, front_skip}
use Rattle.assignment.proofs.moves.unwind.Goals as goal

pub bounds-trainees-step : goal.bounds-trainees-step
bounds-trainees-step c =
    front_known (records c.loop-step.moves) (records c.args.moves.now) (records c.take_newest.new.self) c.in-Some.step c.loop-step.invariant.front
    c.in-Some.ensures.outcome c.requires

pub loop-step-preserved-then-eq : goal.loop-step-preserved-then-eq
loop-step-preserved-then-eq c =
    let xs = records c.loop-step.moves in
    let ys = records c.args.moves.now in
    let zs = records c.take_newest.new.self in
    let x = c.in-Some.step in
    let v = c.loop-step.invariant in
    let o = c.in-Some.ensures.outcome in
    let ts = c.loop-step.trainees in
    let b : x.trainee.0 < length ts = omega (arith, v.size, front_known xs ys zs x v.front o c.requires) in
    record {
      size = simp length-set v.size;
      front = front_less xs ys zs x v.front o;
      seats = λ M e h w.
          front_take xs ys zs x v.front o M e h (seats_in ts) (stored c.loop-step.left) (v.seats M e h w) _ (moved_set ts x.trainee.0 _ b)
          (sym (seat_eq c.loop-step.left x.taken) ∙ sym c.if-eq.ensures);
      values = λ t. values_set ts x.trainee.0 _ b refl t ∙ v.values t;
    }

pub loop-step-preserved : goal.loop-step-preserved
loop-step-preserved c =
    let xs = records c.loop-step.moves in
    let ys = records c.args.moves.now in
    let zs = records c.take_newest.new.self in
    let x = c.in-Some.step in
    let v = c.loop-step.invariant in
    let o = c.in-Some.ensures.outcome in
    record {
      size = v.size;
      front = front_less xs ys zs x v.front o;
      seats = λ M e h w. front_skip xs ys zs x v.front o M e h (seats_in c.loop-step.trainees) (stored c.loop-step.left) (v.seats M e h w)
          (sym (seat_eq c.loop-step.left x.taken) ∙ sym c.if-eq.ensures);
      values = v.values;
    }

pub returns-clause-seats : goal.returns-clause-seats
returns-clause-seats c M e h w =
    let ms = records c.args.moves.now in
    let end : length (records c.loop-step.moves) ≡ 0 = ap length (newest_none (records c.loop-step.moves) (records c.take_newest.new.self) c.in_default.ensures.outcome) in
    walk_done M ms e h (seats_in c.loop-step.trainees) (stored c.loop-step.left)
    (subst (λ i. Walk M (seats_in c.loop-step.trainees) ms e (stored c.loop-step.left) i) end (c.loop-step.invariant.seats M e h w))
