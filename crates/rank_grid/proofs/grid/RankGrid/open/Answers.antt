use Rattle.std.proofs.Common.{◌≡◌, ℕ, ◌*◌, ◌++◌, List, length, take, drop, replicate, refl, ap, ◌∙◌, rules}
use Rattle.rules.specs.Meaning.{trainees}
use Rattle.opening.specs.Opening.{opening_refusal, opened}
use Rattle.rank_grid.proofs.Standing.{Opens, opens}
use Rattle.rank_grid.proofs.grid.RankGrid.open.Goals as goal

-- the grid that is made, by what the calls say
made : (P T needed practices used trained : ℕ) (memory places front : List ℕ)
    → needed ≡ T * P → trained ≡ trainees (opened (opening_refusal P T needed (length memory)) P T).entries → places ≡ (opened (opening_refusal P T needed (length memory)) P T).entries.places
    → practices ≡ length places → used ≡ trained * practices → front ≡ replicate (length (take used memory)) 0
    → Opens (opened (opening_refusal P T (T * P) (length memory)) P T) memory trained places (front ++ drop used memory)
made P T needed practices used trained memory places front n ts ps p u clear =
    let v : used ≡ trained * length places = u ∙ ap (λ (k : ℕ). trained * k) p in
    rw v (opens P T memory places trained (rw n at ts) (rw n at ps) front (rw v at clear))

pub invariant_of-result : goal.invariant_of-result
invariant_of-result c =
    let x = c.opened-numbers.ensures in
    let a = made c.args.practices c.args.trainees c.needed.result c.practices.result c.needed-used.result c.opened-numbers.result.trainees c.args.cells.now c.opened-numbers.result.places.items c.fill.new.self c.needed.ensures x.trainees x.places c.practices.ensures c.needed-used.ensures (c.fill.ensures.after (search rules)) in
    record { room = a.room; shows = a.shows; law = a.law }

pub returns : goal.returns
returns c =
    let x = c.opened-numbers.ensures in
    let a = made c.args.practices c.args.trainees c.needed.result c.practices.result c.needed-used.result c.opened-numbers.result.trainees c.args.cells.now c.opened-numbers.result.places.items c.fill.new.self c.needed.ensures x.trainees x.places c.practices.ensures c.needed-used.ensures (c.fill.ensures.after (search rules)) in
    record { meaning = a.means; cells = a.holds; lent = refl }
