use Rattle.std.proofs.Common.{ℕ, ◌<◌, List, [], ◌∷◌, ◌++◌, length, take, sym, ap, ◌∙◌, arith}
use Rattle.std.proofs.lemmas.List.{take_more, length-take-le}
use Rattle.rules.specs.Meaning.{list_of}
use Rattle.sheet_writer.specs.Over.{over}
use Rattle.sheet_writer.proofs.Parts.{set_behind}
use Rattle.sheet_writer.proofs.lists.put_choices.Goals as goal

pub loop-k-preserved : goal.loop-k-preserved
loop-k-preserved g c =
    let list = list_of (g.R.Roll.entries c.args.roll.now) c.args.t.0 in
    let k = c.loop-k.k in
    let E = c.args.out.now in
    let within : k < length list = omega (arith, c.requires) in
    set_behind (take k list) E c.loop-k.out k c.choice_byte.result (length-take-le k list (omega arith)) (omega (arith, c.requires)) c.loop-k.invariant
    ∙ ap (λ (b : ℕ). over (take k list ++ (b ∷ [])) E) c.choice_byte.ensures
    ∙ ap (λ (s : List ℕ). over s E) (sym (take_more list k 0 within))
