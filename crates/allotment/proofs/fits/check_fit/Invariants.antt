use Rattle.std.proofs.Common.{◌≡◌, None}
use Rattle.allotment.specs.Bytes.{offered_by}
use Rattle.allotment.specs.Calls.{first_unfit}
use Rattle.allotment.specs.Counts.{Counted}
use Rattle.allotment.proofs.fits.check_fit.Given as goal

abbrev pub invariant-loop-t : goal.invariant-loop-t
invariant-loop-t g l = record {
  fits : first_unfit (g.R.Roll.entries l.roll) (offered_by l.offered) l.t ≡ None;
  counted : Counted l.t (offered_by l.offered) l.counts;
}
