use Rattle.std.proofs.Common.{◌≡◌, ◌+◌, ◌<◌, ◌≤◌, ◌==◌, length, get_or, take, Some, sym, refl, ap, ◌∙◌, subst, arith, rules}
use Rattle.std.specs.Option.{option_eq}
use Rattle.std.proofs.lemmas.List.{get_or-take, length-take-le}
use Rattle.rules.specs.declared.words.Practice.{Practice}
use Rattle.rules.specs.declared.words.Trainee.{Trainee}
use Rattle.voting.specs.Placements.{stored, sits}
use Rattle.voting.specs.Totals.{one}
use Rattle.worklist.specs.declared.WorkList.{WorkList}
use Rattle.worklist.specs.Records.{records, room}
use Rattle.worklist.proofs.Ends.{added}
use Rattle.assignment.specs.Searches.{Queued}
use Rattle.assignment.specs.declared.state.TraineeState.{TraineeState}
use Rattle.assignment.specs.States.{no_trainee_state, seat_of}
use Rattle.assignment.proofs.Counts.{many_front, many_more, seat_eq}
use Rattle.assignment.proofs.Queues.{queued_skip, queued_more}
use Rattle.assignment.proofs.reach.let_wait.Goals as goal
use Rattle.assignment.proofs.reach.let_wait.Goals.{then-eq, else-eq}

pub loop-t-preserved : goal.loop-t-preserved
loop-t-preserved c =
    let S = c.args.state.now in
    let t = c.loop-t.t in
    let p = c.args.p.0 in
    let size : length S.trainees ≡ 400 = search rules in
    let few : S.newcomer ≤ length S.trainees = omega (arith, c.requires.few) in
    let old = records c.args.waiting.now in
    let q = c.loop-t.waiting in
    let v = c.loop-t.invariant in
    let l : t < S.newcomer = omega (arith, length-take-le S.newcomer S.trainees few) in
    let read : (get_or (take S.newcomer S.trainees) t no_trainee_state).seat ≡ (get_or S.trainees t no_trainee_state).seat =
    ap (λ (x : TraineeState). x.seat) (get_or-take S.newcomer S.trainees t no_trainee_state l) in
    let seat : option_eq (λ (a b : Practice). a.0 == b.0) (get_or (take S.newcomer S.trainees) t no_trainee_state).seat (Some c.args.p) ≡ sits (seat_of S t) p =
    seat_eq _ c.args.p ∙ ap (λ s. sits (stored s) p) read in
    elim c.if-eq.branch [
      | then-eq w ↦
          let on = sym seat ∙ sym w.if-eq.ensures in
          let free : length (records q) < room q =
          omega (
            arith,
            v.queued.size,
            v.room,
            c.requires.spots,
            ap one on,
            many_more t (λ u. sits (seat_of S u) p),
            many_front (t + 1) S.newcomer (λ u. sits (seat_of S u) p) (omega arith),
          ) in
          let x : Trainee = record { 0 = t } in
          record {
            queued = subst (λ (z : WorkList Trainee). Queued S (t + 1) p old (records z)) (sym w.waiting-is)
                (queued_more S t p old (records q) v.queued x (records w.add.new.self) on refl
                (added (records q) (records w.add.new.self) (room q) x w.add.result w.add.ensures.outcome free));
            room = ap room w.waiting-is ∙ w.add.ensures.room ∙ v.room;
          }
      | else-eq w ↦
          record {
            queued = subst (λ (z : WorkList Trainee). Queued S (t + 1) p old (records z)) (sym w.waiting-is)
                (queued_skip S t p old (records q) v.queued (sym seat ∙ sym w.if-eq.ensures));
            room = ap room w.waiting-is ∙ v.room;
          }
    ]
