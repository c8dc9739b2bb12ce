use Rattle.std.proofs.Common.{◌≡◌, length, Ok, sym, refl, ap, ◌∙◌}
use Rattle.rules.specs.Meaning.{Entries, with_list}
use Rattle.rules.specs.Questions.{numbers}
use Rattle.rules.proofs.Outcomes.{none_from_ok, outcome_none}
use Rattle.rank_grid.specs.Reading.{written}
use Rattle.rank_grid.specs.Grid.{grid_meaning}
use Rattle.rank_grid.proofs.Standing.{let_in, held_still}
use Rattle.rank_grid.proofs.grid.calls.RankGridRegister.enter.Goals as goal

pub returns-in_err-check_entry-clause-cells : goal.returns-in_err-check_entry-clause-cells
returns-in_err-check_entry-clause-cells c = held_still c.args.self.now

pub write_run-requires : goal.write_run-requires
write_run-requires c =
    let s = c.args.self.now in
    let P = c.len-practices.result in
    let xs = numbers c.args.list.now in
    let n : P ≡ length s.numbers.places.items = c.len-practices.ensures.value in
    let a = let_in s c.args.t.0 xs (none_from_ok _ c.in_ok-check_entry.ensures) P n (written s.cells.now P c.args.t.0 xs) refl in
    record { room = rw n a.near; strict = rw n a.strict }

pub invariant_of-self : goal.invariant_of-self
invariant_of-self c =
    let a = let_in c.args.self.now c.args.t.0 (numbers c.args.list.now) (none_from_ok _ c.in_ok-check_entry.ensures) c.len-practices.result c.len-practices.ensures.value c.write_run.new.cells c.write_run.ensures in
    record { room = a.room; shows = a.shows; law = a.law }

pub returns : goal.returns
returns c =
    let m = grid_meaning c.args.self.now in
    let xs = numbers c.args.list.now in
    let o = none_from_ok _ c.in_ok-check_entry.ensures in
    let a = let_in c.args.self.now c.args.t.0 xs o c.len-practices.result c.len-practices.ensures.value c.write_run.new.cells c.write_run.ensures in
    record {
      enters = outcome_none m (with_list m c.args.t.0 xs) _ o ∙ ap (λ (x : Entries). (Ok tt, record { entries = x; rules = m.rules })) (sym a.entries);
      cells = a.holds;
      lent = refl;
    }
