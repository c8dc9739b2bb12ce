use Rattle.std.proofs.Common.{◌≡◌, ◌<◌, ◌≤◌, true, false, length, get_or, take, Err, sym, ap, ◌∙◌, arith}
use Rattle.rules.specs.Meaning.{meant, is_open, trainees}
use Rattle.rules.specs.Questions.{numbers, listed}
use Rattle.rules.specs.Refusals.{answer_of}
use Rattle.rules.proofs.Numbers.{number, length_numbers, front_numbers}
use Rattle.rules.proofs.Checking.{by_choices, step_on, step_shut, step_again}
use Rattle.rules.proofs.entry.check_entry.Goals as goal

pub returns-then-not-is_open : goal.returns-then-not-is_open
returns-then-not-is_open g c =
    let m = meant g.R.Roll.entries g.R.Terms.rules c.args.r.now in
    let list = c.args.list.now in
    let xs = numbers list in
    let i = c.loop-i.i in
    let h : c.args.t.0 < trainees m.entries = omega (arith, c.trainees.ensures) in
    let l : length xs ≤ m.rules.longest = omega (arith, c.longest-longest.ensures, length_numbers list) in
    let il : i < length xs = omega (arith, length_numbers list) in
    let shut : is_open m (get_or xs i 0) ≡ false = rw (number list i c.loop-i-test.true) (sym c.if-not-is_open.ensures) in
    ap Err c.refusal-then-not-is_open.ensures ∙ ap answer_of (sym (by_choices m c.args.t.0 xs h l ∙ c.loop-i.invariant ∙ step_shut m xs i il shut))

pub returns-then-is_listed : goal.returns-then-is_listed
returns-then-is_listed g c =
    let m = meant g.R.Roll.entries g.R.Terms.rules c.args.r.now in
    let list = c.args.list.now in
    let xs = numbers list in
    let i = c.loop-i.i in
    let h : c.args.t.0 < trainees m.entries = omega (arith, c.trainees.ensures) in
    let l : length xs ≤ m.rules.longest = omega (arith, c.longest-longest.ensures, length_numbers list) in
    let il : i < length xs = omega (arith, length_numbers list) in
    let shows : is_open m (get_or xs i 0) ≡ true = rw (number list i c.loop-i-test.true) (sym c.if-not-is_open.ensures) in
    let again : listed (take i xs) (get_or xs i 0) ≡ true = rw (number list i c.loop-i-test.true, ← front_numbers list i) (sym c.if-is_listed.ensures) in
    ap Err c.refusal-then-is_listed.ensures ∙ ap answer_of (sym (by_choices m c.args.t.0 xs h l ∙ c.loop-i.invariant ∙ step_again m xs i il shows again))

pub loop-i-preserved : goal.loop-i-preserved
loop-i-preserved g c =
    let m = meant g.R.Roll.entries g.R.Terms.rules c.args.r.now in
    let list = c.args.list.now in
    let xs = numbers list in
    let i = c.loop-i.i in
    let il : i < length xs = omega (arith, length_numbers list) in
    let shows : is_open m (get_or xs i 0) ≡ true = rw (number list i c.loop-i-test.true) (sym c.if-not-is_open.ensures) in
    let once : listed (take i xs) (get_or xs i 0) ≡ false = rw (number list i c.loop-i-test.true, ← front_numbers list i) (sym c.if-is_listed.ensures) in
    c.loop-i.invariant ∙ step_on m xs i il shows once
