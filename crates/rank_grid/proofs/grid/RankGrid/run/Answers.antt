use Rattle.std.proofs.Common.{◌≡◌, ◌+◌, ◌-◌, ◌*◌, ◌≤◌, ◌<◌, length, arith}
use Rattle.std.proofs.lemmas.Bool.{lt-ltb, le-ltb}
use Rattle.rank_grid.specs.Reading.{lists_of}
use Rattle.rank_grid.proofs.Gridded.{run_is, trainees_are}
use Rattle.rank_grid.proofs.grid.RankGrid.run.Goals as goal

pub returns-then-t-self : goal.returns-then-t-self
returns-then-t-self c =
    let s = c.args.self.now in
    let P = length s.numbers.places.items in
    let l : length (lists_of s.cells.now s.numbers.trainees P) ≤ c.args.t.0 = omega (arith, trainees_are s.cells.now s.numbers.trainees P) in
    rw (le-ltb c.args.t.0 (length (lists_of s.cells.now s.numbers.trainees P)) l)

pub returns : goal.returns
returns c =
    let s = c.args.self.now in
    let P = length s.numbers.places.items in
    let t = c.args.t.0 in
    let n : c.len-practices.result ≡ P = c.len-practices.ensures.value in
    let w : t * P + P - t * P ≡ P = omega arith in
    let l : t < length (lists_of s.cells.now s.numbers.trainees P) = omega (arith, trainees_are s.cells.now s.numbers.trainees P) in
    rw (n, w, lt-ltb t (length (lists_of s.cells.now s.numbers.trainees P)) l) (run_is s.cells.now s.numbers.trainees P t s.room s.shows c.if-t-self.false)
