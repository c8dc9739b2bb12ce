use Rattle.std.proofs.Common.{◌+◌, ◌^◌, ◌<◌, ◌≤◌, [], length, get_or, map, sum, ◌∙◌, arith, rules}
use Rattle.std.specs.List.{flat_map, range_with_len}
use Rattle.std.proofs.lemmas.Iterator.{YieldsList-from_range, YieldsList-from_map}
use Rattle.std.proofs.lemmas.Iterator.Consumers.{sum_from_yields_List, fits_from_yields_list}
use Rattle.rules.specs.Meaning.{Entries, Lawful}
use Rattle.rules.proofs.Lawfully.{strict_of}
use Rattle.sheet.specs.Format.{measured}
use Rattle.sheet_writer.proofs.Lengths.{all_lengths, lengths_most}
use Rattle.sheet_writer.proofs.lists.lists_length.Goals as goal

few : (e : Entries) → Lawful e → length (flat_map measured e.lists) ≤ 5200
few e law = omega (arith, lengths_most e.lists (λ t. (strict_of e law t).short), law.few_trainees)

pub sum-requires-clause-fits : goal.sum-requires-clause-fits
sum-requires-clause-fits g c =
    let e = g.R.Roll.entries c.args.roll.now in
    let n = c.trainees.result in
    let small : sum (map (λ t. 1 + length (get_or e.lists t [])) (range_with_len 0 n)) < 2 ^ 64 = omega (arith, all_lengths e.lists n c.trainees.ensures, few e (g.R.Roll.lawful c.args.roll.now)) in
    fits_from_yields_list _ (2 ^ 64) (YieldsList-from_map _ (λ t. 1 + length (get_or e.lists t [])) (YieldsList-from_range 0 n n c.map.ensures.source (omega arith)) c.map.ensures.closure (λ x r q k. search rules)) small

pub returns-clause-all : goal.returns-clause-all
returns-clause-all g c =
    let lists = (g.R.Roll.entries c.args.roll.now).lists in
    let n = c.trainees.result in
    sum_from_yields_List _ c.sum.result c.sum.ensures.ran (YieldsList-from_map _ (λ t. 1 + length (get_or lists t [])) (YieldsList-from_range 0 n n c.map.ensures.source (omega arith)) c.map.ensures.closure (λ x r q k. search rules))
    ∙ all_lengths lists n c.trainees.ensures

pub returns-clause-few : goal.returns-clause-few
returns-clause-few g c =
    omega (arith, returns-clause-all g c, few (g.R.Roll.entries c.args.roll.now) (g.R.Roll.lawful c.args.roll.now))
