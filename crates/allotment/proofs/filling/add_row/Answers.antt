use Rattle.std.proofs.Common.{sym, ◌∙◌, subst}
use Rattle.rules.specs.Questions.{numbers}
use Rattle.assignment.specs.Rows.{row_of}
use Rattle.allotment.specs.Tabled.{Weighed}
use Rattle.allotment.proofs.Tabling.{weighed_row}
use Rattle.allotment.proofs.filling.add_row.Goals as goal

pub returns : goal.returns
returns g c =
    let list = c.args.list.now in
    let w = g.W.Weigh.weighs c.args.weighing.now c.args.t.0 (numbers list) in (
      row_of c.deref.result.now c.weigh.result,
      subst (λ cs. Weighed (numbers list) w (row_of cs c.weigh.result)) (sym (c.deref.ensures.0 ∙ c.choices_of-choices.ensures.exact))
          (weighed_row w list c.weigh.result c.choices_of-choices.ensures.modest c.weigh.ensures.exact c.weigh.ensures.modest),
      c.add.ensures,
    )
