use Rattle.std.proofs.Common.{◌≡◌, ℕ, ◌+◌, ◌<◌, ◌≤◌, cond, length}
use Rattle.assignment.specs.Searches.{comes_to}
use Rattle.assignment.specs.States.{seats_in, value_in}
use Rattle.assignment.proofs.prices.lower_values.Given as goal

abbrev pub invariant-loop-t : goal.invariant-loop-t
invariant-loop-t l = record {
  size : length l.trainee-items ≡ length l.initial.trainee-items;
  below :
      (u : ℕ) → u < l.t →
      value_in l.trainee-items u + cond (comes_to l.newcomer (seats_in l.initial.trainee-items) l.reached u) l.d 0 ≡ value_in l.initial.trainee-items u;
  above : (u : ℕ) → l.t ≤ u → value_in l.trainee-items u ≡ value_in l.initial.trainee-items u;
  seats : (u : ℕ) → seats_in l.trainee-items u ≡ seats_in l.initial.trainee-items u;
}
