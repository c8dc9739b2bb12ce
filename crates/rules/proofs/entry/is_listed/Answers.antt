use Rattle.std.proofs.Common.{◌==◌, refl, ◌∙◌}
use Rattle.rules.specs.declared.words.Practice.{Practice}
use Rattle.rules.proofs.Finding.{any_listed}
use Rattle.rules.proofs.entry.is_listed.Goals as goal

pub returns : goal.returns
returns c = c.contains.ensures.value ∙ any_listed (λ (q : Practice). q.0 == c.args.p.0) (λ (q : Practice). q.0) c.args.list.now c.args.p.0 (λ q. refl)
