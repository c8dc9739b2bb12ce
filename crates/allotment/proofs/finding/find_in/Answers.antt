use Rattle.std.proofs.Common.{length, Ok, refl, ap, subst, arith}
use Rattle.rules.specs.Meaning.{Entries, trainees}
use Rattle.voting.specs.Placements.{Placement, seating}
use Rattle.voting.specs.Weights.{Weighing, Heaviest}
use Rattle.assignment.specs.declared.placed.Placed.{Placed}
use Rattle.assignment.specs.declared.table.Table.{Table}
use Rattle.assignment.specs.Placing.{enough, Best}
use Rattle.allotment.specs.declared.by_firsts.ByFirsts.{ByFirsts}
use Rattle.allotment.specs.Copies.{entries}
use Rattle.allotment.specs.Tabled.{by_lists}
use Rattle.allotment.specs.Weights.{firsts_in, places_in, by_firsts}
use Rattle.allotment.proofs.Answering.{answer_ok}
use Rattle.allotment.proofs.Deciding.{holds_weights}
use Rattle.allotment.proofs.Tabling.{heaviest_tabled}
use Rattle.allotment.proofs.finding.find_in.Goals as goal

pub decide-requires : goal.decide-requires
decide-requires c =
    let e : Entries = entries c.args.lists.now in
    let b : ByFirsts = c.of-weighing.result in
    let T : Table = c.hold.new.table in
    let f : Placed = c.in_ok-placed.placed in
    let M : Placement = seating f.seats in
    let w : Weighing = by_lists e (λ t list s. by_firsts (firsts_in b.demands.items) (places_in b.demands.items) list s) in
    let best : Best T f = (answer_ok T (enough T (length c.args.waiting.now) (length c.args.moves.now)) (Ok f) f c.in_ok-placed.ensures.answer refl).1 in
    record {
      holds = c.of-weighing.ensures;
      heaviest = subst (λ x. Heaviest e x M) (holds_weights e b c.of-weighing.ensures) (heaviest_tabled e w T M c.hold.ensures best.heaviest);
      rest = λ t l. best.rest t (omega (arith, ap trainees c.hold.ensures.same));
    }
