use Rattle.std.proofs.Common.{◌≡◌, ◌+◌, ◌<◌, true, false, sym, ap, ◌∙◌, arith, below_more}
use Rattle.std.proofs.lemmas.Bool.{both_ways, ne_eqb}
use Rattle.std.proofs.lemmas.List.{get_or-take, length-take}
use Rattle.voting.specs.Placements.{stored}
use Rattle.assignment.specs.declared.state.TraineeState.{TraineeState}
use Rattle.assignment.specs.Searches.{inside, is_reached}
use Rattle.assignment.specs.States.{no_trainee_state}
use Rattle.assignment.proofs.search.Search.slack.Goals as goal
use Rattle.assignment.proofs.search.Search.slack.Goals.{then-t-newcomer, else-t-newcomer+else-is_inside}

pub loop-t-preserved : goal.loop-t-preserved
loop-t-preserved c =
    let v = c.loop-t.invariant in
    let S = c.args.self.now.state.now in
    let V = c.args.self.now.reached in
    let t = c.loop-t.t in
    let l : t < S.newcomer + 1 = omega (arith, c.loop-t-test.true, length-take (S.newcomer + 1) S.trainees) in
    elim c.if-t-newcomer.branch [
      | then-t-newcomer w ↦
          record {
            some = omega (arith, w.d-is, w.row_slack-d.ensures.some);
            spare = below_more _ _ (λ u l r s a o. omega (arith, v.spare u l r s a o, w.d-is, w.row_slack-d.ensures.most))
                (λ r s a o. omega (arith, w.row_slack-d.ensures.spare s a o, w.d-is));
          }
      | else-t-newcomer+else-is_inside w ↦
          let out : is_reached S V t ≡ false =
          rw (ne_eqb t S.newcomer w.if-t-newcomer.false)
          (ap (λ (x : TraineeState). inside V (stored x.seat)) (sym (get_or-take (S.newcomer + 1) S.trainees t no_trainee_state l)) ∙ sym w.is_inside.ensures ∙ w.if-is_inside.false) in
          record {
            some = omega (arith, v.some, w.d-is);
            spare = below_more _ _ (λ u l r s a o. omega (arith, v.spare u l r s a o, w.d-is)) (λ r. absurd (both_ways _ out r));
          }
    ]
