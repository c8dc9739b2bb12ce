use Rattle.std.proofs.Common.{length, filter, take, ap, ◌∙◌, rules, tests, arith}
use Rattle.std.proofs.lemmas.Iterator.{YieldsList-from_range}
use Rattle.std.proofs.lemmas.Iterator.Consumers.{YieldsList-at, YieldsList-from_filter_map, count_from_yields_List}
use Rattle.std.proofs.lemmas.List.{length-map}
use Rattle.rules.specs.Meaning.{list_of}
use Rattle.layers.specs.Shown.{unclosed}
use Rattle.layers.proofs.Chosen.{practice, chosen, chosen_from}
use Rattle.layers.proofs.closed.Closed.shown_among.Goals as goal

pub returns : goal.returns
returns g c =
    let test = unclosed c.args.self.now.closed in
    let list = list_of (g.R.Roll.entries c.args.self.now.below) c.args.t.0 in
    count_from_yields_List c.filter_map.result c.count.result c.count.ensures.ran
    (YieldsList-from_filter_map _ (chosen test list) (YieldsList-at c.filter_map.ensures.source (YieldsList-from_range 0 c.args.n c.args.n (cc) (omega arith))) c.filter_map.ensures.closure (λ x r q k. search (rules, tests)))
    ∙ ap length (chosen_from test list c.args.n 0)
    ∙ length-map (filter test (take c.args.n list)) practice
