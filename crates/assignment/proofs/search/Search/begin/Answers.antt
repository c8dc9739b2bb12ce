use Rattle.std.proofs.Common.{◌≡◌, ◌<◌, false, [], ◌∷◌, ◌++◌, length, replicate, refl, ap, ◌∙◌, arith}
use Rattle.rules.specs.declared.words.Trainee.{Trainee}
use Rattle.worklist.specs.Records.{records, room}
use Rattle.worklist.proofs.Ends.{added}
use Rattle.assignment.specs.Searches.{progress_of}
use Rattle.assignment.proofs.Searches.{explored_start, covered_start}
use Rattle.assignment.proofs.Starts.{get_or_all}
use Rattle.assignment.proofs.search.Search.begin.Goals as goal

pub invariant_of-result : goal.invariant_of-result
invariant_of-result c =
    let S = c.args.state.now in
    let x : Trainee = record { 0 = S.newcomer } in
    let q = c.new-queue.result in
    let free : length (records q) < room q = omega (arith, ap length c.new-queue.ensures.empty, c.new-queue.ensures.room, c.requires.spots, c.requires.ready.next) in
    let e : records c.add.new.self ≡ x ∷ [] = added (records q) (records c.add.new.self) (room q) x c.add.result c.add.ensures.outcome free ∙ ap (λ z. z ++ x ∷ []) c.new-queue.ensures.empty in
    record {
      ready = c.requires.ready;
      explored = ∣ explored_start c.args.table.now S (progress_of c.new.result c.add.new.self (replicate 100 false)) x c.requires.ready refl c.new.ensures.empty e
          (λ p. get_or_all 100 p false) (omega (arith, c.requires.slots, c.new.ensures.room))
          (omega (arith, c.requires.spots, c.new-queue.ensures.room, c.add.ensures.room)) ∣₁;
    }

pub returns-clause-covered : goal.returns-clause-covered
returns-clause-covered c =
    let S = c.args.state.now in
    let x : Trainee = record { 0 = S.newcomer } in
    let q = c.new-queue.result in
    let free : length (records q) < room q = omega (arith, ap length c.new-queue.ensures.empty, c.new-queue.ensures.room, c.requires.spots, c.requires.ready.next) in
    let e : records c.add.new.self ≡ x ∷ [] = added (records q) (records c.add.new.self) (room q) x c.add.result c.add.ensures.outcome free ∙ ap (λ z. z ++ x ∷ []) c.new-queue.ensures.empty in
    covered_start c.args.table.now S (progress_of c.new.result c.add.new.self (replicate 100 false)) x c.requires.ready refl c.new.ensures.empty e
    (λ p. get_or_all 100 p false) (omega (arith, c.requires.slots, c.new.ensures.room))
    (omega (arith, c.requires.spots, c.new-queue.ensures.room, c.add.ensures.room))
