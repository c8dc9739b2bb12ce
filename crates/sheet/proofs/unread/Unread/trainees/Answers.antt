use Rattle.std.proofs.Common.{◌∙◌, rules}
use Rattle.sheet.specs.Reading.{above, list}
use Rattle.sheet.specs.Told.{left}
use Rattle.sheet.proofs.Loops.{counted_number}
use Rattle.sheet.proofs.unread.Unread.trainees.Goals as goal

pub returns-clause-reads : goal.returns-clause-reads
returns-clause-reads c =
    let size = c.args.self.size in
    c.section.ensures.reads (above 400) (λ s. left (list size c.args.practices s)) (λ n r l q. search rules) (λ u r e q. search rules)
    ∙ counted_number (list size c.args.practices) size (above 400) c.args.self.rest.now
