use Rattle.std.proofs.Common.{◌≡◌, ℕ, ◌^◌, ◌<◌, ◌≤◌, map, get_or, take, Some}
use Rattle.rules.specs.Questions.{numbers}
use Rattle.allotment.specs.Tabled.{choice_by}
use Rattle.allotment.specs.Vectors.{no_practice}
use Rattle.allotment.proofs.filling.choices_of.Given as goal

abbrev pub invariant-loop-p : goal.invariant-loop-p
invariant-loop-p g l = record {
  exact : l.choices.items ≡ map (choice_by (g.W.Weigh.weighs l.weighing l.t.0 (numbers l.list))) (take l.p-index l.list);
  modest : (i : ℕ) → i < l.p-index → g.W.Weigh.weighs l.weighing l.t.0 (numbers l.list) (Some (get_or l.list i no_practice).0) ≤ 2 ^ 30;
}
