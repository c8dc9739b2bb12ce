use Rattle.std.proofs.Common.{◌≡◌, Ok, Err, ap, ◌∙◌, arith, length-take}
use Rattle.std.proofs.lemmas.List.{length-replicate}
use Rattle.std.proofs.lemmas.Result.{err_from_is_err_and}
use Rattle.round.specs.Seen.{seen}
use Rattle.round.proofs.Allotting.{goes_on_most}
use Rattle.round.proofs.Noting.{narrow}
use Rattle.round.proofs.makes.allot_noted.Goals as goal

pub returns-in_err-seated-clause-law : goal.returns-in_err-seated-clause-law
returns-in_err-seated-clause-law g c =
    let p = err_from_is_err_and c.from_residual.result c.from_residual.ensures.1 in
    let is : c.from_residual.result ≡ Err c.in_err-seated.field-0.0 = p.1 ∙ ap (λ x. Err x) p.2 in
    rw is (goes_on_most _ _ c.args.w c.args.k _ _ (Err c.in_err-seated.field-0.0) (g.R.Roll.lawful c.args.round.now.register).few_trainees c.in_err-seated.ensures.exact (simp (length-take, length-replicate) (omega arith)) (simp (length-take, length-replicate) (omega arith)))

pub note-requires-clause-short : goal.note-requires-clause-short
note-requires-clause-short g c = omega (arith, c.requires, (g.R.Roll.lawful c.args.round.now.register).few_trainees)

pub note-requires-clause-narrow : goal.note-requires-clause-narrow
note-requires-clause-narrow g c =
    narrow (seen g.R.Roll.entries g.R.Terms.rules c.args.round.now) (seen g.R.Roll.entries g.R.Terms.rules c.allot.new.self) _ _ c.in_ok-seated.seated
    (g.R.Roll.lawful c.args.round.now.register) c.in_ok-seated.ensures.exact

pub returns-clause-law : goal.returns-clause-law
returns-clause-law g c =
    goes_on_most _ _ c.args.w c.args.k _ _ (Ok c.in_ok-seated.seated) (g.R.Roll.lawful c.args.round.now.register).few_trainees c.in_ok-seated.ensures.exact (simp (length-take, length-replicate) (omega arith)) (simp (length-take, length-replicate) (omega arith))
