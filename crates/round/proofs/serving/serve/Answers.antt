use Rattle.std.proofs.Common.{sym, arith, rules}
use Rattle.rules.specs.Meaning.{meant}
use Rattle.round.specs.Seen.{seen}
use Rattle.round.proofs.Writing.{not_refused, going_start, going_on, next_fits, next_room}
use Rattle.round.proofs.serving.serve.Goals as goal

pub loop-i-init : goal.loop-i-init
loop-i-init g c =
    going_start (meant g.R.Roll.entries g.R.Terms.rules c.args.register) c.trainees-trainees.result c.args.script.now c.args.answers.now c.args.placements.now
    (seen g.R.Roll.entries g.R.Terms.rules c.over-round.result) (sym c.trainees-trainees.ensures)
    (not_refused _ c.check_memory-answer.result c.check_memory-answer.ensures (sym c.if-is_err.ensures.value)) c.over-round.ensures.law

pub overflow_add-end : goal.overflow_add-end
overflow_add-end g c = omega (arith, next_fits c.loop-i.invariant _ c.room_for.result c.loop-i-test.true c.room_for.ensures c.loop-i.auto.placements)

pub slice_bounds-make-end : goal.slice_bounds-make-end
slice_bounds-make-end g c =
    let fits = next_fits c.loop-i.invariant _ c.room_for.result c.loop-i-test.true c.room_for.ensures c.loop-i.auto.placements in
    search rules

pub make-requires : goal.make-requires
make-requires g c = next_room c.loop-i.invariant _ c.room_for.result c.loop-i-test.true c.room_for.ensures c.loop-i.auto.placements

pub loop-i-preserved : goal.loop-i-preserved
loop-i-preserved g c =
    going_on c.loop-i.invariant _ c.room_for.result c.loop-i-test.true c.room_for.ensures c.loop-i.auto.placements
    (seen g.R.Roll.entries g.R.Terms.rules c.make.new.round) c.make.result c.make.new.room c.loop-i.auto.answers c.make.auto.room c.make.ensures
