use Rattle.std.proofs.Common.{◌≡◌, ℕ, ◌+◌, ◌-◌, length, take, Ok, Err, sym, ap, ◌∙◌, arith, rules}
use Rattle.std.proofs.lemmas.List.{length-drop}
use Rattle.std.proofs.lemmas.Result.{err_from_is_err_and}
use Rattle.sheet.specs.Reading.{one, off_choice, choices}
use Rattle.sheet.specs.Told.{left}
use Rattle.sheet.proofs.Loops.{choices_next, choices_stop}
use Rattle.sheet.proofs.unread.Unread.choices.Goals as goal

pub returns-in_err-behind-clause-reads : goal.returns-in_err-behind-clause-reads
returns-in_err-behind-clause-reads c =
    let d = c.in_err-behind.field-0.0 in
    let p = err_from_is_err_and c.from_residual.result c.from_residual.ensures.1 in
    let s = c.args.self.rest.now in
    let i = c.loop.counter in
    let m : ℕ = c.args.n - i in
    let before : length s - length c.loop.left.rest.now ≡ i = omega (arith, length-drop i s, ap length c.loop.invariant.2, c.loop.invariant.1) in
    let wrong = off_choice c.args.practices (take (length s - length c.loop.left.rest.now) s) in
    let told : Err d ≡ one c.loop.left.size wrong c.loop.left.rest.now = c.in_err-behind.ensures.reads wrong (λ n r l q. search rules) in
    let stopped = rw (c.loop.invariant.0, before) at told in
    rw (p.1, p.2) (sym (choices_stop c.args.self.size c.args.practices i m s c.loop.left.rest.now (omega arith) d stopped) ∙ c.loop.invariant.3)

pub loop-preserved : goal.loop-preserved
loop-preserved c =
    let after = c.in_ok-behind.behind in
    let s = c.args.self.rest.now in
    let i = c.loop.counter in
    let m : ℕ = c.args.n - i in
    let before : length s - length c.loop.left.rest.now ≡ i = omega (arith, length-drop i s, ap length c.loop.invariant.2, c.loop.invariant.1) in
    let wrong = off_choice c.args.practices (take (length s - length c.loop.left.rest.now) s) in
    let told : Ok (c.in_ok-behind.field-0-0, after.rest.now) ≡ one c.loop.left.size wrong c.loop.left.rest.now = c.in_ok-behind.ensures.reads wrong (λ n r l q. search rules) in
    let went = rw (c.loop.invariant.0, before) at told in
    let r = choices_next c.args.self.size c.args.practices i m s c.loop.left.rest.now (omega arith) c.in_ok-behind.field-0-0 after.rest.now c.loop.invariant.2 went in
    let e : c.args.n - (i + 1) ≡ m - 1 = omega arith in (
      c.in_ok-behind.ensures.size ∙ c.loop.invariant.0,
      r.0,
      r.1,
      ap (λ (n : ℕ). left (choices c.args.self.size c.args.practices (take (i + 1) s) n after.rest.now)) e ∙ sym r.2 ∙ c.loop.invariant.3,
    )
