use Rattle.std.proofs.Common.{◌≡◌, true, Some, get_or, length, ap, ◌∙◌, subst, arith, below_more}
use Rattle.assignment.specs.declared.row.Choice.{Choice}
use Rattle.assignment.specs.declared.row.Row.{Row}
use Rattle.assignment.specs.Progress.{progress}
use Rattle.assignment.specs.Rows.{no_choice, choices_in}
use Rattle.assignment.specs.Searches.{marked, Grown}
use Rattle.assignment.specs.States.{value, Tight}
use Rattle.assignment.proofs.Growth.{grown_trans, along}
use Rattle.assignment.proofs.Searches.{closed_choices}
use Rattle.assignment.proofs.search.Search.scan.Goals as goal

pub returns-then-probe-clause-grown : goal.returns-then-probe-clause-grown
returns-then-probe-clause-grown c =
    let s = c.args.self.now in
    let s' = c.loop-choice.self in
    grown_trans s.table.now s.state.now _ _ _ c.loop-choice.invariant.grown
    (along (λ T S. Grown T S (progress s') (progress c.probe.new.self)) c.loop-choice.invariant.kept.table c.loop-choice.invariant.kept.state c.probe.ensures.grown)

pub loop-choice-preserved : goal.loop-choice-preserved
loop-choice-preserved c =
    let s = c.args.self.now in
    let s' = c.loop-choice.self in
    let V' = c.probe.new.self.reached in
    let t = c.args.t in
    let i = c.loop-choice.choice-index in
    let v = c.loop-choice.invariant in
    let g = along (λ T S. Grown T S (progress s') (progress c.probe.new.self)) v.kept.table v.kept.state c.probe.ensures.grown in
    let here = ap (λ xs. get_or xs i no_choice) (c.list-choice-items.ensures ∙ ap choices_in c.row-row.ensures) in
    let probed = along (λ T S. Tight T S t (Some (get_or c.list-choice-items.result.now i no_choice).practice.0) → marked V' (get_or c.list-choice-items.result.now i no_choice).practice.0 ≡ true) v.kept.table v.kept.state c.if-probe.ensures.probed in
    record {
      kept = record { table = c.probe.ensures.kept.table ∙ v.kept.table; state = c.probe.ensures.kept.state ∙ v.kept.state };
      grown = grown_trans s.table.now s.state.now _ _ _ v.grown g;
      tight = below_more _ _ (λ j l b. g.still _ (v.tight j l b))
          (subst (λ (x : Choice). Tight s.table.now s.state.now t (Some x.practice.0) → marked V' x.practice.0 ≡ true) here probed);
    }

pub returns-clause-scanned : goal.returns-clause-scanned
returns-clause-scanned c =
    let s = c.args.self.now in
    let T = s.table.now in
    let S = s.state.now in
    let t = c.args.t in
    let e = c.list-choice-items.ensures ∙ ap choices_in c.row-row.ensures in
    closed_choices T S c.loop-choice.self.reached t (T.stands t (omega (arith, c.requires.early, s.ready.next)))
    (subst (λ (r : Row). r.none ≡ value S t → ⊥) c.row-row.ensures c.if-row-self.false)
    (λ i l. c.loop-choice.invariant.tight i (omega (arith, ap length e)))
