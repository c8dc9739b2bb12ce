use Rattle.std.proofs.Common.{◌<◌, length, get_or, sym, ap, arith, below_more}
use Rattle.assignment.specs.declared.row.Choice.{Choice}
use Rattle.assignment.specs.Rows.{no_choice, size}
use Rattle.assignment.proofs.Lists.{stands_once, stands_twice}
use Rattle.assignment.proofs.row.Row.is_good.Goals as goal
use Rattle.assignment.proofs.row.Row.is_good.Goals.{then-choice-m-via-then-choice-m, then-choice-m-via-else-choice-m+then-choice-gt-GREATEST, then-choice-m-via-else-choice-m+else-choice-gt-GREATEST+then-is_chosen}

pub returns-then-choice-m-clause-no : goal.returns-then-choice-m-clause-no
returns-then-choice-m-clause-no c _ g =
    let r = c.args.self.now in
    let i = c.loop-i.i in
    let e = c.list-choices.ensures in
    let here = ap (λ xs. get_or xs i no_choice) e in
    let l : i < size r = omega (arith, ap length e) in
    elim c.then-choice-m.branch [
      | then-choice-m-via-then-choice-m w ↦ omega (arith, g.known i l, ap (λ (x : Choice). x.practice.0) here)
      | then-choice-m-via-else-choice-m+then-choice-gt-GREATEST w ↦ omega (arith, g.modest i l, ap (λ (x : Choice). x.weight) here)
      | then-choice-m-via-else-choice-m+else-choice-gt-GREATEST+then-is_chosen w ↦
          stands_twice r i _ c.list-choices.result.now l (ap (λ (x : Choice). x.practice.0) here) c.list-choices.ensures c.args.m (sym w.if-is_chosen.ensures) g
    ]

pub loop-i-preserved : goal.loop-i-preserved
loop-i-preserved c =
    let r = c.args.self.now in
    let i = c.loop-i.i in
    let e = c.list-choices.ensures in
    let here = ap (λ xs. get_or xs i no_choice) e in
    let l : i < size r = omega (arith, ap length e) in
    let v = c.loop-i.invariant in
    record {
      known = below_more _ _ v.known (omega (arith, ap (λ (x : Choice). x.practice.0) here));
      modest = below_more _ _ v.modest (omega (arith, ap (λ (x : Choice). x.weight) here));
      once = below_more _ _ v.once
          (stands_once r i _ c.list-choices.result.now l (ap (λ (x : Choice). x.practice.0) here) c.list-choices.ensures (sym c.if-is_chosen.ensures));
    }
