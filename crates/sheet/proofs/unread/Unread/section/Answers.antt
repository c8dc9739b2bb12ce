use Rattle.std.proofs.Common.{◌≡◌, ℕ, ◌+◌, ◌-◌, Ok, Err, sym, ap, ◌∙◌, arith}
use Rattle.std.proofs.lemmas.Result.{err_from_is_err_and}
use Rattle.sheet.specs.Told.{times}
use Rattle.sheet.proofs.Loops.{times_on, times_stop, section_stop}
use Rattle.sheet.proofs.unread.Unread.section.Goals as goal

pub returns-in_err-left-clause-reads : goal.returns-in_err-left-clause-reads
returns-in_err-left-clause-reads g c =
    λ wrong next h k.
    let d = c.in_err-left.field-0.0 in
    let p = err_from_is_err_and c.from_residual-in_err-left.result c.from_residual-in_err-left.ensures.1 in
    let m : ℕ = c.in_ok-n.n - c.loop.counter in
    let went : Err d ≡ next c.loop.left.rest.now = k c.loop.left (Err d) c.loop.invariant.0 c.in_err-left.ensures in
    let stopped = sym (c.loop.invariant.1 next k) ∙ times_stop next m c.loop.left.rest.now d (omega arith) went in
    rw (p.1, p.2) (sym (section_stop c.args.self.size wrong next c.args.self.rest.now c.in_ok-n.n c.in_ok-n.left.rest.now (c.in_ok-n.ensures.reads wrong h) d stopped))

pub loop-preserved : goal.loop-preserved
loop-preserved g c =
    let m : ℕ = c.in_ok-n.n - c.loop.counter in
    let after = c.in_ok-left.left in
    let e : c.in_ok-n.n - (c.loop.counter + 1) ≡ m - 1 = omega arith in (
      c.requires.stays c.loop.left (Ok after) c.in_ok-left.ensures ∙ c.loop.invariant.0,
      λ next k.
          let went : Ok after.rest.now ≡ next c.loop.left.rest.now = k c.loop.left (Ok after) c.loop.invariant.0 c.in_ok-left.ensures in
          ap (λ (n : ℕ). times next n after.rest.now) e ∙ sym (times_on next m c.loop.left.rest.now after.rest.now (omega arith) went) ∙ c.loop.invariant.1 next k,
    )
