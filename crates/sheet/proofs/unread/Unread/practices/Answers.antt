use Rattle.std.proofs.Common.{◌∙◌, rules}
use Rattle.rules.specs.Refusals.{off_places}
use Rattle.sheet.specs.Reading.{above, two}
use Rattle.sheet.specs.Told.{left}
use Rattle.sheet.proofs.Loops.{counted_number}
use Rattle.sheet.proofs.unread.Unread.practices.Goals as goal

pub returns-clause-reads : goal.returns-clause-reads
returns-clause-reads c =
    let size = c.args.self.size in
    c.section.ensures.reads (above 100) (λ s. left (two size off_places s)) (λ n r l q. search rules) (λ u r e q. search rules)
    ∙ counted_number (two size off_places) size (above 100) c.args.self.rest.now
