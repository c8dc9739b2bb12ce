use Rattle.std.proofs.Common.{◌≡◌, ◌+◌, length, get_or, ap, ◌∙◌, arith, length-set}
use Rattle.std.proofs.lemmas.List.{take_all}
use Rattle.rules.specs.Meaning.{Strict}
use Rattle.rules.specs.Questions.{numbers}
use Rattle.rank_grid.specs.Ranks.{rank}
use Rattle.rules.proofs.Numbers.{number, length_numbers}
use Rattle.rank_grid.proofs.Ranking.{rank_write}
use Rattle.std.proofs.lemmas.List.FromFn.{fill_by_all}
use Rattle.rank_grid.proofs.runs.write_ranks.Goals as goal

pub bounds-run-p : goal.bounds-run-p
bounds-run-p c =
    let i = c.loop-i.i in
    omega (arith, c.requires.below i (omega (arith, length_numbers c.args.list.now)), number c.args.list.now i c.loop-i-test.true, c.loop-i.auto.run, c.fill.ensures.len)

pub loop-i-preserved : goal.loop-i-preserved
loop-i-preserved c =
    let list = c.args.list.now in
    let xs = numbers list in
    let i = c.loop-i.i in
    let run = c.loop-i.run in
    let long : length c.args.run.now ≡ length run = omega (arith, c.fill.ensures.len) in
    let s : Strict (length run) xs = rw (← long) c.requires in
    λ p l.
    rw (← number list i c.loop-i-test.true)
    (rank_write run xs i s (omega (arith, length_numbers list)) c.loop-i.invariant p (omega (arith, length-set run (get_or list i (record { 0 = 0 })).0 (i + 1))))

pub returns : goal.returns
returns c =
    let xs = numbers c.args.list.now in
    let n = length c.args.run.now in
    let run = c.loop-i.run in
    let long : length run ≡ n = omega (arith, c.fill.ensures.len) in
    let all = take_all c.loop-i.i xs (omega (arith, length_numbers c.args.list.now)) in
    fill_by_all (rank xs) run n 0 long (λ p l. c.loop-i.invariant p (omega arith) ∙ ap (λ ys. rank ys p) all)
