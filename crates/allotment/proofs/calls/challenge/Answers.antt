use Rattle.std.proofs.Common.{◌≡◌, eqb, leb, length, None, Err, sym, ap, ◌∙◌, subst, ⊎_elim, arith}
use Rattle.std.proofs.lemmas.Bool.{and_from, and_left, and_right, eq-eqb, ne_eqb, le-leb, lt-leb}
use Rattle.std.proofs.lemmas.Result.{err_from_is_err_and}
use Rattle.rules.specs.declared.words.Reason.TheVariants.{WrongLength}
use Rattle.rules.specs.Words.{of_round}
use Rattle.rules.specs.Meaning.{Entries, trainees}
use Rattle.rules.proofs.Outcomes.{none_from_ok, some_from_err}
use Rattle.voting.specs.Placements.{Placement, Feasible}
use Rattle.allotment.specs.Bytes.{offered_by}
use Rattle.allotment.specs.Calls.{first_unfit, not_feasible}
use Rattle.allotment.proofs.Answering.{Challenges, challenges_short, challenges_unfit, none_unfit}
use Rattle.allotment.proofs.Fitting.{fitting_feasible}
use Rattle.allotment.proofs.calls.challenge.Goals as goal

pub returns-then-offered-n : goal.returns-then-offered-n
returns-then-offered-n g c =
    let e : Entries = g.R.Roll.entries c.args.roll.now in
    let a = length c.args.offered.now in
    let b = length c.args.rival.now in
    challenges_short e c.args.offered.now c.args.rival.now c.refusal.result
    (
    ⊎_elim (λ k. and_left (eqb a (trainees e)) (leb (trainees e) b) (ne_eqb a (trainees e) (λ i. k (i ∙ sym c.trainees-n.ensures))))
    (λ k. and_right (eqb a (trainees e)) (leb (trainees e) b) (lt-leb (trainees e) b (omega (arith, k.1, c.trainees-n.ensures))))
    c.then-offered-n.either
    )
    (c.refusal.ensures ∙ ap (of_round WrongLength) c.trainees-n.ensures)

pub returns-in_err-check_fit : goal.returns-in_err-check_fit
returns-in_err-check_fit g c =
    let e : Entries = g.R.Roll.entries c.args.roll.now in
    let a = length c.args.offered.now in
    let b = length c.args.rival.now in
    let p = err_from_is_err_and c.from_residual.result c.from_residual.ensures.1 in
    let x = c.in_err-check_fit.field-0.0 in
    let is : c.from_residual.result ≡ Err x = p.1 ∙ ap Err p.2 in
    subst (λ r. Challenges e c.args.offered.now c.args.rival.now r c.args.rival.now) (sym is)
    (
    challenges_unfit e c.args.offered.now c.args.rival.now
    (
    and_from (eqb a (trainees e)) (leb (trainees e) b) (eq-eqb a (trainees e) (c.if-offered-n.false ∙ c.trainees-n.ensures))
    (le-leb (trainees e) b (omega (arith, c.if-rival-n.false, c.trainees-n.ensures)))
    )
    x (some_from_err (not_feasible (first_unfit e (offered_by c.args.offered.now) (trainees e))) x c.in_err-check_fit.ensures)
    )

pub challenge_in-requires : goal.challenge_in-requires
challenge_in-requires g c =
    let e : Entries = g.R.Roll.entries c.args.roll.now in
    let M : Placement = offered_by c.args.offered.now in
    let fit : first_unfit e M (trainees e) ≡ None =
    none_unfit (first_unfit e M (trainees e)) (none_from_ok (not_feasible (first_unfit e M (trainees e))) c.in_ok-check_fit.ensures) in
    record {
      fits = subst (λ x. Feasible x M) (sym c.read.ensures) (fitting_feasible e M fit);
      room = omega (arith, c.if-rival-n.false, c.trainees-n.ensures, ap trainees c.read.ensures);
    }
