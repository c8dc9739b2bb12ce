use Rattle.std.proofs.Common.{◌≡◌, ℕ, max, unwrap_or, sym, ap, ◌∙◌}
use Rattle.std.specs.List.{reduce}
use Rattle.std.proofs.lemmas.Iterator.{YieldsList-from_slice}
use Rattle.std.proofs.lemmas.Iterator.Adapters.{option_map_id}
use Rattle.std.proofs.lemmas.Iterator.Consumers.{max_from_yields_List, YieldsList-from_copied, YieldsList-at}
use Rattle.rank_grid.proofs.runs.greatest.Goals as goal

pub returns : goal.returns
returns c =
    let xs = c.args.run.now in
    let e : c.max.result ≡ reduce max xs =
    sym (option_map_id c.max.result) ∙ max_from_yields_List {v = λ (x : ℕ). x} _ c.max.result c.max.ensures.ran (YieldsList-from_copied (YieldsList-at c.copied.ensures.source (YieldsList-from_slice xs c.iter.ensures.rest))) in
    c.unwrap_or.ensures ∙ ap (λ o. unwrap_or o 0) e
