use Rattle.std.proofs.Common.{◌≡◌, ◌<◌, Err, sym, refl, ap, ◌∙◌, arith}
use Rattle.rules.specs.Meaning.{Entries, Lawful, trainees}
use Rattle.rules.specs.Refusals.{answer_of}
use Rattle.voting.specs.Placements.{Seat, Placement, stored}
use Rattle.allotment.specs.Bytes.{offered_by}
use Rattle.allotment.specs.Calls.{not_feasible}
use Rattle.allotment.proofs.Fitting.{counted_none, counted_more, counted_few, read_offered, fits_counted, fits_below, fit_more, unfit_here}
use Rattle.allotment.proofs.fits.check_fit.Goals as goal

pub loop-t-init : goal.loop-t-init
loop-t-init g c = record { fits = refl; counted = counted_none (offered_by c.args.offered.now) }

pub count_in-requires : goal.count_in-requires
count_in-requires g c =
    let e : Entries = g.R.Roll.entries c.args.roll.now in
    let lawful : Lawful e = g.R.Roll.lawful c.args.roll.now in
    record {
      below = fits_below e lawful c.loop-t.t c.loop-t.counts (stored c.seat_of-seat.result) (sym c.if-not-is_fit.ensures);
      few = counted_few c.loop-t.t (offered_by c.args.offered.now) c.loop-t.counts (omega (arith, lawful.few_trainees, c.requires)) c.loop-t.invariant.counted;
    }

pub loop-t-preserved : goal.loop-t-preserved
loop-t-preserved g c =
    let e : Entries = g.R.Roll.entries c.args.roll.now in
    let M : Placement = offered_by c.args.offered.now in
    let s : Seat = stored c.seat_of-seat.result in
    let here : s ≡ M c.loop-t.t = read_offered c.args.offered.now c.loop-t.t s c.loop-t-test.true c.seat_of-seat.ensures in
    record {
      fits =
          fit_more e M c.loop-t.t c.loop-t.invariant.fits
          (sym (fits_counted e M c.loop-t.t c.loop-t.counts s c.loop-t.invariant.counted here) ∙ sym c.if-not-is_fit.ensures);
      counted = counted_more c.loop-t.t M s c.loop-t.counts c.count_in.new.counts here c.loop-t.invariant.counted c.count_in.ensures;
    }

pub returns-then-not-is_fit : goal.returns-then-not-is_fit
returns-then-not-is_fit g c =
    let e : Entries = g.R.Roll.entries c.args.roll.now in
    let M : Placement = offered_by c.args.offered.now in
    let s : Seat = stored c.seat_of-seat.result in
    let here : s ≡ M c.loop-t.t = read_offered c.args.offered.now c.loop-t.t s c.loop-t-test.true c.seat_of-seat.ensures in
    let l : c.loop-t.t < trainees e = omega (arith, c.requires, c.loop-t-test.true) in
    ap Err c.refusal.ensures ∙
    ap (λ o. answer_of (not_feasible o))
    (
    sym
    (
    unfit_here e M (trainees e) c.loop-t.t l c.loop-t.invariant.fits
    (sym (fits_counted e M c.loop-t.t c.loop-t.counts s c.loop-t.invariant.counted here) ∙ sym c.if-not-is_fit.ensures)
    )
    )
