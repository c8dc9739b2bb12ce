use Rattle.std.proofs.Common.{sym, ap, ◌∙◌, arith}
use Rattle.rules.specs.Meaning.{list_of}
use Rattle.rules.specs.Questions.{choice_in}
use Rattle.layers.specs.Kept.{list_shortened}
use Rattle.layers.proofs.Cut.{choice_cut}
use Rattle.layers.proofs.short.ShortRoll.choice.Goals as goal

pub returns-else-k-self : goal.returns-else-k-self
returns-else-k-self g c =
    let s = c.args.self.now in
    let e = g.R.Roll.entries s.below in
    choice_cut s.most (list_of e c.args.t.0) c.args.k (omega arith) ∙ sym (ap (λ l. choice_in l c.args.k) (list_shortened s.most e c.args.t.0))
