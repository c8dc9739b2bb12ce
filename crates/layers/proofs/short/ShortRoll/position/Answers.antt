use Rattle.std.proofs.Common.{◌≡◌, ltb, sym, ap, ◌∙◌, rules}
use Rattle.std.proofs.lemmas.Map.Entries.{option_filter}
use Rattle.rules.specs.Meaning.{list_of}
use Rattle.rules.specs.Questions.{position_in}
use Rattle.layers.specs.Kept.{list_shortened}
use Rattle.layers.proofs.Cut.{position_within}
use Rattle.layers.proofs.short.ShortRoll.position.Goals as goal

pub returns : goal.returns
returns g c =
    let s = c.args.self.now in
    let e = g.R.Roll.entries s.below in
    let t = c.args.t.0 in
    let p = c.args.p.0 in
    let is : c.filter.result ≡ option_filter (λ k. ltb k s.most) (position_in (list_of e t) p) = search rules in
    is ∙ position_within s.most (list_of e t) p ∙ sym (ap (λ l. position_in l p) (list_shortened s.most e t))
