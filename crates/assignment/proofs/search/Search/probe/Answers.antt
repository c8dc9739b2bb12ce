use Rattle.std.proofs.Common.{◌≡◌, ◌<◌, true, length, set, get_or, refl, ap, arith, rules}
use Rattle.rules.specs.declared.words.Move.{Move}
use Rattle.worklist.specs.Records.{records, room}
use Rattle.worklist.proofs.Ends.{added}
use Rattle.assignment.specs.Progress.{progress}
use Rattle.assignment.specs.Searches.{progress_of}
use Rattle.assignment.specs.States.{no_trainee_state}
use Rattle.assignment.proofs.Bounds.{moves_few, spots_left}
use Rattle.assignment.proofs.Gaps.{choice_small, gap_tight, tight_gap}
use Rattle.assignment.proofs.Notes.{noted, explored_note, grown_note}
use Rattle.assignment.proofs.Truths.{explored_of}
use Rattle.assignment.proofs.search.Search.probe.Goals as goal
use Rattle.assignment.proofs.search.Search.probe.Goals.{then-self-p-via-then-self-p, then-self-p-via-else-self-p+then-gap-ne0}

pub returns-then-self-p-clause-probed : goal.returns-then-self-p-clause-probed
returns-then-self-p-clause-probed c b =
    let s = c.args.self.now in
    elim c.then-self-p.branch [
      | then-self-p-via-then-self-p w ↦ w.if-self-p.true
      | then-self-p-via-else-self-p+then-gap-ne0 w ↦
          absurd (omega (arith, w.if-gap-ne0.true, w.gap.ensures, tight_gap s.table.now s.state.now c.args.t c.args.choice c.requires.within b))
    ]

pub returns-then-self-p-2-clause-probed : goal.returns-then-self-p-2-clause-probed
returns-then-self-p-2-clause-probed c =
    let s = c.args.self.now in
    record {
      tight = gap_tight s.table.now s.state.now c.args.t c.args.choice c.requires.within (omega (arith, c.gap.ensures));
      free = (
        choice_small s.table.now s.state.now c.args.t c.args.choice c.requires.within,
        omega (arith, ap (λ xs. get_or xs c.args.choice.practice.0 0) c.deref.ensures.0),
      );
    }

pub let_wait-requires-clause-spots : goal.let_wait-requires-clause-spots
let_wait-requires-clause-spots c =
    let s = c.args.self.now in
    let x = explored_of s.table.now s.state.now (progress s) s.explored in
    omega (arith, spots_left s.table.now s.state.now s.reached s.ready c.args.choice.practice.0 c.if-self-p.false, x.waited, x.spots)

pub invariant_of-self : goal.invariant_of-self
invariant_of-self c =
    let s = c.args.self.now in
    let T = s.table.now in
    let S = s.state.now in
    let p = c.args.choice.practice.0 in
    let x = explored_of T S (progress s) s.explored in
    let l = choice_small T S c.args.t c.args.choice c.requires.within in
    let step : Move = record { trainee = record { 0 = c.args.t }; left = (get_or S.trainees c.args.t no_trainee_state).seat; taken = c.args.choice.practice } in
    let free : length (records s.moves) < room s.moves = omega (arith, moves_few T S (progress s) s.ready x, s.ready.next, x.slots) in
    let size : length s.reached ≡ 100 = search rules in
    let h = noted S (progress s) (progress_of c.add.new.self c.let_wait.new.waiting (set s.reached p true)) step (omega (arith, T.small))
    (added (records s.moves) (records c.add.new.self) (room s.moves) step c.add.result c.add.ensures.outcome free)
    refl c.let_wait.ensures.queued c.add.ensures.room c.let_wait.ensures.room in
    record {
      ready = s.ready;
      explored = ∣ explored_note T S (progress s) _ step h s.ready x l c.if-self-p.false
          (gap_tight T S c.args.t c.args.choice c.requires.within (omega (arith, c.gap.ensures)))
          (omega (arith, s.ready.sound.fits p l, ap (λ xs. get_or xs p 0) c.deref.ensures.0))
          c.requires.comes.early refl c.requires.comes.reached ∣₁;
    }

pub returns-clause-grown : goal.returns-clause-grown
returns-clause-grown c =
    let s = c.args.self.now in
    let T = s.table.now in
    let S = s.state.now in
    let p = c.args.choice.practice.0 in
    let x = explored_of T S (progress s) s.explored in
    let l = choice_small T S c.args.t c.args.choice c.requires.within in
    let step : Move = record { trainee = record { 0 = c.args.t }; left = (get_or S.trainees c.args.t no_trainee_state).seat; taken = c.args.choice.practice } in
    let free : length (records s.moves) < room s.moves = omega (arith, moves_few T S (progress s) s.ready x, s.ready.next, x.slots) in
    let size : length s.reached ≡ 100 = search rules in
    let h = noted S (progress s) (progress_of c.add.new.self c.let_wait.new.waiting (set s.reached p true)) step (omega (arith, T.small))
    (added (records s.moves) (records c.add.new.self) (room s.moves) step c.add.result c.add.ensures.outcome free)
    refl c.let_wait.ensures.queued c.add.ensures.room c.let_wait.ensures.room in
    grown_note T S (progress s) _ step h s.ready c.if-self-p.false
