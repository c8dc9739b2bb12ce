use Rattle.std.proofs.Common.{Ok, sym, refl, ap, ◌∙◌}
use Rattle.rules.specs.Meaning.{Entries, with_list}
use Rattle.rules.specs.Questions.{numbers}
use Rattle.rules.proofs.Outcomes.{none_from_ok, outcome_none}
use Rattle.row_register.specs.Table.{row_meaning}
use Rattle.row_register.proofs.Standing.{let_in, held_still}
use Rattle.row_register.proofs.table.calls.RowRegisterRegister.enter.Goals as goal

pub returns-in_err-check_entry-clause-rows : goal.returns-in_err-check_entry-clause-rows
returns-in_err-check_entry-clause-rows c = held_still c.args.self.now

pub invariant_of-self : goal.invariant_of-self
invariant_of-self c =
    let a = let_in c.args.self.now c.args.t.0 (numbers c.args.list.now) (none_from_ok _ c.in_ok-check_entry.ensures) c.row_of.result c.row_of.ensures in
    record {
      room = a.room;
      few = λ t l. (a.neat t l).few;
      long = λ t l. (a.neat t l).long;
      zeros = λ t l. (a.neat t l).zeros;
      law = a.law;
    }

pub returns : goal.returns
returns c =
    let m = row_meaning c.args.self.now in
    let xs = numbers c.args.list.now in
    let o = none_from_ok _ c.in_ok-check_entry.ensures in
    let a = let_in c.args.self.now c.args.t.0 xs o c.row_of.result c.row_of.ensures in
    record {
      enters = outcome_none m (with_list m c.args.t.0 xs) _ o ∙ ap (λ (x : Entries). (Ok tt, record { entries = x; rules = m.rules })) (sym a.entries);
      rows = a.holds;
      lent = refl;
    }
