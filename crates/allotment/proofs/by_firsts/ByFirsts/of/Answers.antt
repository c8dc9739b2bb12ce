use Rattle.std.proofs.Common.{◌≡◌, ℕ, ◌+◌, List, map, Some, None, sym, ap, ◌∙◌, subst, arith}
use Rattle.arrayvec.specs.ArrayVec.{ArrayVec}
use Rattle.rules.specs.Meaning.{Entries, list_of}
use Rattle.rules.specs.Questions.{numbers}
use Rattle.voting.specs.Local.{first_choice}
use Rattle.allotment.specs.declared.by_firsts.Demand.{Demand}
use Rattle.allotment.specs.Copies.{entries}
use Rattle.allotment.proofs.Copying.{lawful_in, list_read, trainee_read}
use Rattle.allotment.proofs.Demands.{Demanded, firsts, demanded_none, demanded_skip, demanded_more, first_known, firsts_few}
use Rattle.allotment.proofs.by_firsts.ByFirsts.of.Goals as goal
use Rattle.allotment.proofs.by_firsts.ByFirsts.of.Goals.{in-Some, in_default}

pub loop-list-init : goal.loop-list-init
loop-list-init c =
    let e : Entries = entries c.args.lists.now in
    subst (λ (ds : List Demand). Demanded e 0 ds)
    (sym (c.undemanded-demands.ensures ∙ ap (λ (ps : List ℕ). map (λ (n : ℕ). record { firsts = 0; places = n }) ps) c.deref.ensures.0))
    (demanded_none e)

pub count_first-requires : goal.count_first-requires
count_first-requires c =
    let L = c.args.lists.now in
    let e : Entries = entries L in
    let t = c.loop-list.list-index in
    let lists = c.deref-list-items.result.now in
    let same = c.deref-list-items.ensures.0 in
    let first : firsts e t ≡ Some c.in-Some.first.0 =
    ap first_choice (sym (list_read L lists same t c.loop-list-test.true c.list-item.result c.deref-in-loop-list.result.now c.list-item.is c.deref-in-loop-list.ensures.0)) ∙ sym c.in-Some.ensures in
    record {
      known = first_known e (lawful_in L) t c.loop-list.demands.items c.in-Some.first.0 c.loop-list.invariant first;
      few =
          firsts_few e t c.loop-list.demands.items c.in-Some.first.0 c.loop-list.invariant
          (omega (arith, (lawful_in L).few_trainees, trainee_read L lists same t c.loop-list-test.true));
    }

pub loop-list-preserved : goal.loop-list-preserved
loop-list-preserved c =
    let L = c.args.lists.now in
    let e : Entries = entries L in
    let t = c.loop-list.list-index in
    let lists = c.deref-list-items.result.now in
    let own : list_of e t ≡ numbers c.deref-in-loop-list.result.now =
    sym (list_read L lists c.deref-list-items.ensures.0 t c.loop-list-test.true c.list-item.result c.deref-in-loop-list.result.now c.list-item.is c.deref-in-loop-list.ensures.0) in
    elim c.match-first_choice.branch [
      | in-Some w ↦
          let first : firsts e t ≡ Some w.in-Some.first.0 = ap first_choice own ∙ sym w.in-Some.ensures in
          subst (λ (ds : List Demand). Demanded e (t + 1) ds) (sym w.count_first.ensures ∙ ap (λ (v : ArrayVec Demand). v.items) (sym w.demands-is))
          (
          demanded_more e t c.loop-list.demands.items w.in-Some.first.0 first
          (first_known e (lawful_in L) t c.loop-list.demands.items w.in-Some.first.0 c.loop-list.invariant first) c.loop-list.invariant
          )
      | in_default w ↦
          let none : firsts e t ≡ None = ap first_choice own ∙ sym w.in_default.ensures in
          subst (λ (v : ArrayVec Demand). Demanded e (t + 1) v.items) (sym w.demands-is) (demanded_skip e t c.loop-list.demands.items none c.loop-list.invariant)
    ]
