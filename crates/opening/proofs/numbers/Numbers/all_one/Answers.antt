use Rattle.std.proofs.Common.{ℕ, ◌∙◌, ap, take}
use Rattle.std.proofs.lemmas.List.{take-replicate}
use Rattle.opening.proofs.numbers.Numbers.all_one.Goals as goal

pub returns-clause-places : goal.returns-clause-places
returns-clause-places c = let P = c.args.practices in c.truncate.ensures.items ∙ ap (take P) c.from-places.ensures.0 ∙ take-replicate {X = ℕ} P 100 1 c.requires
