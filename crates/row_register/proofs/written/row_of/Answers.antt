use Rattle.std.proofs.Common.{get_or, sym, arith, rules}
use Rattle.rules.specs.Questions.{numbers}
use Rattle.rules.proofs.Numbers.{length_numbers}
use Rattle.row_register.proofs.Filled.{filled}
use Rattle.row_register.proofs.Rowing.{row_made}
use Rattle.row_register.proofs.written.row_of.Goals as goal

pub returns : goal.returns
returns c =
    let xs = numbers c.args.list.now in
    let made = c.from_fn.ensures.items in
    row_made xs c.from_fn.result _ (sym (length_numbers c.args.list.now)) (omega (arith, c.requires, length_numbers c.args.list.now)) made.long
    (λ k l. filled _ (λ i. get_or xs i 0) _ (λ i y q h. search rules) c.from_fn.result 0 12 made.each k 0 (omega arith) l)
