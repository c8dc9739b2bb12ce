use Rattle.std.proofs.Common.{length, sym}
use Rattle.rank_grid.proofs.Gridded.{trainees_are}
use Rattle.rank_grid.proofs.grid.questions.RankGridRoll.trainees.Goals as goal

pub returns : goal.returns
returns c = let s = c.args.self.now in sym (trainees_are s.cells.now s.numbers.trainees (length s.numbers.places.items))
