use Rattle.std.proofs.Common.{◌≡◌, ℕ, ◌+◌, ◌-◌, ◌*◌, ◌<◌, ◌≤◌, List, ◌++◌, length, take, ap, ◌∙◌, arith, rules}
use Rattle.std.specs.List.{flat_map}
use Rattle.std.proofs.lemmas.List.{length-take-le}
use Rattle.sheet.specs.Format.{pair}
use Rattle.sheet.proofs.Sheets.{length_pairs}
use Rattle.sheet_writer.specs.Over.{over}
use Rattle.sheet_writer.proofs.Parts.{behind, joined_next}
use Rattle.sheet_writer.proofs.sections.put_places.Goals as goal

pub slice_bounds-put_pair-end : goal.slice_bounds-put_pair-end
slice_bounds-put_pair-end g c =
    let ps = (g.R.Roll.entries c.args.roll.now).places in
    let h : 2 * c.loop-p.p + 2 ≤ length c.args.out.now = omega (arith, c.practices-p-end.ensures, length_pairs ps, c.requires) in
    search rules

pub loop-p-preserved : goal.loop-p-preserved
loop-p-preserved g c =
    let ps = (g.R.Roll.entries c.args.roll.now).places in
    let E = c.args.out.now in
    let p = c.loop-p.p in
    let at : ℕ = 2 * p in
    let within : p < length ps = omega (arith, c.practices-p-end.ensures) in
    let lt = length-take-le p ps (omega arith) in
    let l : length (flat_map pair (take p ps)) ≡ at = omega (arith, length_pairs (take p ps)) in
    behind (flat_map pair (take p ps)) (pair c.places_of.result) E c.loop-p.out c.put_pair.new.out at (at + 2 - at) l (omega arith) c.loop-p.invariant c.put_pair.ensures
    ∙ ap (λ (v : ℕ). over (flat_map pair (take p ps) ++ pair v) E) c.places_of.ensures
    ∙ ap (λ (s : List ℕ). over s E) (joined_next pair 0 ps p within)
