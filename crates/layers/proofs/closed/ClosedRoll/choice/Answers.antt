use Rattle.std.proofs.Common.{filter, take, ap, sym, ◌∙◌, rules, tests, arith}
use Rattle.std.specs.List.{slice_get}
use Rattle.std.proofs.lemmas.Iterator.{YieldsList-from_range}
use Rattle.std.proofs.lemmas.Iterator.Adapters.{option_map_id}
use Rattle.std.proofs.lemmas.Iterator.Consumers.{YieldsList-at, YieldsList-from_filter_map, nth_from_yields_List}
use Rattle.std.proofs.lemmas.List.{take_all}
use Rattle.rules.specs.Meaning.{list_of}
use Rattle.rules.specs.Questions.{choice_in}
use Rattle.layers.specs.Shown.{unclosed}
use Rattle.layers.specs.Kept.{list_without}
use Rattle.layers.proofs.Chosen.{chosen, chosen_from, choice_get}
use Rattle.layers.proofs.closed.ClosedRoll.choice.Goals as goal

pub returns : goal.returns
returns g c =
    let e = g.R.Roll.entries c.args.self.now.below in
    let test = unclosed c.args.self.now.closed in
    let list = list_of e c.args.t.0 in
    let n = c.list_length.result in
    let k = c.args.k in
    sym (option_map_id c.nth.result)
    ∙ nth_from_yields_List c.nth.result _ k c.nth.ensures.ran
    (YieldsList-from_filter_map _ (chosen test list) (YieldsList-at c.filter_map.ensures.source (YieldsList-from_range 0 n n (cc) (omega arith))) c.filter_map.ensures.closure (λ x r q k. search (rules, tests)))
    ∙ ap (λ ps. slice_get ps k) (chosen_from test list n 0)
    ∙ choice_get (filter test (take n list)) k
    ∙ ap (λ xs. choice_in (filter test xs) k) (take_all n list (omega arith))
    ∙ sym (ap (λ xs. choice_in xs k) (list_without c.args.self.now.closed e c.args.t.0))
