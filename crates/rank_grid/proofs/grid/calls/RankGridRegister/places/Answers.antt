use Rattle.std.proofs.Common.{◌≡◌, length, set, length-set}
use Rattle.rules.proofs.Lawfully.{lawful_after_places}
use Rattle.rules.proofs.Outcomes.{none_from_ok}
use Rattle.rank_grid.specs.Grid.{grid_meaning}
use Rattle.rank_grid.proofs.grid.calls.RankGridRegister.places.Goals as goal

pub invariant_of-self : goal.invariant_of-self
invariant_of-self c =
    let s = c.args.self.now in
    let t : c.set_places.new.self.trainees ≡ s.numbers.trainees = c.set_places.ensures.trainees in
    let q : c.set_places.new.self.places.items ≡ set s.numbers.places.items c.args.p.0 c.args.n = c.set_places.ensures.places in
    let n : length (set s.numbers.places.items c.args.p.0 c.args.n) ≡ length s.numbers.places.items = length-set s.numbers.places.items c.args.p.0 c.args.n in
    let law = lawful_after_places (grid_meaning s) c.args.p.0 c.args.n s.law (none_from_ok _ c.in_ok-check_places.ensures) in
    record { room = rw (t, q, n) s.room; shows = rw (t, q, n) s.shows; law = rw (t, q, n) law }
