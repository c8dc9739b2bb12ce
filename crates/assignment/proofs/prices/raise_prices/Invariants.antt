use Rattle.std.proofs.Common.{◌≡◌, ℕ, ◌+◌, ◌<◌, ◌≤◌, cond, length}
use Rattle.assignment.specs.Searches.{marked}
use Rattle.assignment.specs.States.{price_in, count_in}
use Rattle.assignment.proofs.prices.raise_prices.Given as goal

abbrev pub invariant-loop-p : goal.invariant-loop-p
invariant-loop-p l = record {
  size : length l.practices ≡ 100;
  below : (q : ℕ) → q < l.p → price_in l.practices q ≡ price_in l.initial.practices q + cond (marked l.reached q) l.d 0;
  above : (q : ℕ) → l.p ≤ q → price_in l.practices q ≡ price_in l.initial.practices q;
  counts : (q : ℕ) → count_in l.practices q ≡ count_in l.initial.practices q;
}
