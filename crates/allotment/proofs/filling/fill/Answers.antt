use Rattle.std.proofs.Common.{ℕ, List, refl, subst}
use Rattle.rules.specs.Meaning.{Entries, list_of}
use Rattle.voting.specs.Placements.{Seat}
use Rattle.allotment.specs.Copies.{entries}
use Rattle.allotment.specs.Tabled.{Weighed, by_lists}
use Rattle.allotment.proofs.Copying.{lawful_in, list_read, trainee_read}
use Rattle.allotment.proofs.Tabling.{row_taken, filled_more}
use Rattle.allotment.proofs.filling.fill.Goals as goal

pub unwrap-requires : goal.unwrap-requires
unwrap-requires g c =
    let L = c.args.lists.now in
    let e : Entries = entries L in
    let w : ℕ → List ℕ → Seat → ℕ = g.W.Weigh.weighs c.args.weighing.now in
    let lists = c.deref-list-items.result.now in
    let same = c.deref-list-items.ensures.0 in
    let t = c.loop-t.t in
    let row = c.add_row.ensures in
    let weighed : Weighed (list_of e t) (by_lists e w t) row.0 =
    subst (λ l. Weighed l (w t l) row.0) (list_read L lists same t c.loop-t-test.true c.list-item.result c.deref.result.now c.list-item.is c.deref.ensures.0) row.1 in
    rw (row_taken e (by_lists e w) t c.loop-t.table row.0 (lawful_in L) (trainee_read L lists same t c.loop-t-test.true) c.loop-t.invariant weighed c.add_row.result c.add_row.new.table row.2).0 refl

pub loop-t-preserved : goal.loop-t-preserved
loop-t-preserved g c =
    let L = c.args.lists.now in
    let e : Entries = entries L in
    let w : ℕ → List ℕ → Seat → ℕ = g.W.Weigh.weighs c.args.weighing.now in
    let lists = c.deref-list-items.result.now in
    let same = c.deref-list-items.ensures.0 in
    let t = c.loop-t.t in
    let row = c.add_row.ensures in
    let weighed : Weighed (list_of e t) (by_lists e w t) row.0 =
    subst (λ l. Weighed l (w t l) row.0) (list_read L lists same t c.loop-t-test.true c.list-item.result c.deref.result.now c.list-item.is c.deref.ensures.0) row.1 in
    filled_more e (by_lists e w) t c.loop-t.table row.0 (lawful_in L) (trainee_read L lists same t c.loop-t-test.true) c.loop-t.invariant weighed c.add_row.result c.add_row.new.table row.2
