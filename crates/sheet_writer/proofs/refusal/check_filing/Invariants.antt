use Rattle.std.proofs.Common.{◌≡◌, drop}
use Rattle.sheet_writer.specs.Writing.{filed_refusal}
use Rattle.sheet_writer.proofs.refusal.check_filing.Given as goal

abbrev pub invariant-loop-t : goal.invariant-loop-t
invariant-loop-t l = filed_refusal l.practices l.t-counter (drop l.t-counter l.filing) ≡ filed_refusal l.practices 0 l.filing
