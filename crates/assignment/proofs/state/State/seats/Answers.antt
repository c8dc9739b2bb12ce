use Rattle.std.proofs.Common.{None, refl, ap, arith}
use Rattle.voting.specs.Placements.{stored}
use Rattle.assignment.proofs.Starts.{get_or_all}
use Rattle.assignment.proofs.state.State.seats.Goals as goal

pub loop-t-init : goal.loop-t-init
loop-t-init c =
    record {
      size = refl;
      below = λ u l. absurd (omega arith);
      above = λ u l. ap stored (get_or_all 400 u None);
    }
