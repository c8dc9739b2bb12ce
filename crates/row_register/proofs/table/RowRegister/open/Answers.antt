use Rattle.std.proofs.Common.{◌≡◌, length, take, replicate, refl, ap, ◌∙◌, rules, []}
use Rattle.row_register.specs.Rows.{row_of}
use Rattle.row_register.proofs.Standing.{opens}
use Rattle.row_register.proofs.table.RowRegister.open.Goals as goal

pub invariant_of-result : goal.invariant_of-result
invariant_of-result c =
    let x = c.opened-numbers in
    let clear : c.fill.new.self ≡ replicate (length (take x.result.trainees c.args.rows.now)) (row_of []) =
    c.fill.ensures.after (search rules) ∙ ap (replicate (length (take x.result.trainees c.args.rows.now))) c.row_of.ensures in
    let a = opens c.args.practices c.args.trainees c.args.rows.now x.result.places.items x.result.trainees x.ensures.trainees x.ensures.places c.fill.new.self clear in
    record {
      room = a.room;
      few = λ t l. (a.neat t l).few;
      long = λ t l. (a.neat t l).long;
      zeros = λ t l. (a.neat t l).zeros;
      law = a.law;
    }

pub returns : goal.returns
returns c =
    let x = c.opened-numbers in
    let clear : c.fill.new.self ≡ replicate (length (take x.result.trainees c.args.rows.now)) (row_of []) =
    c.fill.ensures.after (search rules) ∙ ap (replicate (length (take x.result.trainees c.args.rows.now))) c.row_of.ensures in
    let a = opens c.args.practices c.args.trainees c.args.rows.now x.result.places.items x.result.trainees x.ensures.trainees x.ensures.places c.fill.new.self clear in
    record { meaning = a.means; rows = a.holds; lent = refl }
