use Rattle.std.proofs.Common.{◌≡◌, ◌<◌, true, false, sym, ◌∙◌, arith}
use Rattle.std.proofs.lemmas.Bool.{lt-ltb}
use Rattle.rules.specs.Questions.{listed}
use Rattle.rules.proofs.Finding.{contains_listed}
use Rattle.sheet.proofs.numbers.check_choice.Goals as goal

pub returns-then-contains : goal.returns-then-contains
returns-then-contains c =
    let within : c.args.p < c.args.practices = omega (arith, c.from.ensures) in
    let again : listed c.args.earlier.now c.args.p ≡ true = sym (c.if-contains.ensures.value ∙ contains_listed c.args.earlier.now c.args.p) in
    rw (lt-ltb c.args.p c.args.practices within, again)

pub returns-else-contains : goal.returns-else-contains
returns-else-contains c =
    let within : c.args.p < c.args.practices = omega (arith, c.from.ensures) in
    let once : listed c.args.earlier.now c.args.p ≡ false = sym (c.if-contains.ensures.value ∙ contains_listed c.args.earlier.now c.args.p) in
    rw (lt-ltb c.args.p c.args.practices within, once)
