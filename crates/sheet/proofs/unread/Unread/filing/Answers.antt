use Rattle.std.proofs.Common.{◌∙◌, rules}
use Rattle.sheet.specs.Reading.{one, off_count, off_filed}
use Rattle.sheet.specs.Told.{left}
use Rattle.sheet.proofs.Loops.{counted_number}
use Rattle.sheet.proofs.unread.Unread.filing.Goals as goal

pub returns-clause-reads : goal.returns-clause-reads
returns-clause-reads c =
    let size = c.args.self.size in
    c.section.ensures.reads (off_count c.args.trainees) (λ s. left (one size (off_filed c.args.practices) s)) (λ n r l q. search rules) (λ u r e q. search rules)
    ∙ counted_number (one size (off_filed c.args.practices)) size (off_count c.args.trainees) c.args.self.rest.now
