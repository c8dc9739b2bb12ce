use Rattle.std.proofs.Common.{◌≡◌, ℕ, ◌^◌, ◌<◌, ◌≤◌}
use Rattle.assignment.specs.Rows.{choice_of, weight_of}
use Rattle.assignment.proofs.row.Row.is_good.Given as goal

abbrev pub invariant-loop-i : goal.invariant-loop-i
invariant-loop-i l = record {
  known : (k : ℕ) → k < l.i → choice_of l.self k < l.m;
  modest : (k : ℕ) → k < l.i → weight_of l.self k ≤ 2 ^ 30;
  once : (k : ℕ) → k < l.i → (j : ℕ) → j < k → choice_of l.self j ≡ choice_of l.self k → ⊥;
}
