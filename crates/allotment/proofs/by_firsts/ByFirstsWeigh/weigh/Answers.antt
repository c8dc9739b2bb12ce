use Rattle.std.proofs.Common.{◌≡◌, ◌<◌, false, length, get_or, rules, arith}
use Rattle.voting.specs.Placements.{stored, sits}
use Rattle.allotment.specs.Vectors.{no_practice}
use Rattle.allotment.specs.Weights.{firsts_in, places_in}
use Rattle.allotment.proofs.Fallbacks.{weighs_fallback}
use Rattle.allotment.proofs.by_firsts.ByFirstsWeigh.weigh.Goals as goal

pub returns-then-is_short-clause-exact : goal.returns-then-is_short-clause-exact
returns-then-is_short-clause-exact c =
    let ds = c.args.self.now.demands.items in
    let list = c.args.list.now in
    let some : 0 < length list = omega (arith, c.in-len1-up.len_at_least) in
    let other : sits (stored c.args.seat) (get_or list 0 no_practice).0 ≡ false = search rules in
    weighs_fallback (firsts_in ds) (places_in ds) list (stored c.args.seat) c.fallback_weight.result c.fallback.result some other
    (search rules) c.fallback.ensures c.fallback_weight.ensures
