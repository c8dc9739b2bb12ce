use Rattle.std.proofs.Common.{◌≡◌, ℕ, ◌<◌, true, Some}
use Rattle.assignment.specs.Progress.{progress, Kept}
use Rattle.assignment.specs.Searches.{marked, Grown}
use Rattle.assignment.specs.States.{choice, Tight}
use Rattle.assignment.proofs.search.Search.scan.Given as goal

abbrev pub invariant-loop-choice : goal.invariant-loop-choice
invariant-loop-choice l =
    let T = l.initial.self.table.now in
    let S = l.initial.self.state.now in
    record {
      kept : Kept l.initial.self l.self;
      grown : Grown T S (progress l.initial.self) (progress l.self);
      tight :
          (j : ℕ) → j < l.choice-index → Tight T S l.t (Some (choice T l.t j)) → marked l.self.reached (choice T l.t j) ≡ true;
    }
