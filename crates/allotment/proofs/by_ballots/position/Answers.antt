use Rattle.std.proofs.Common.{◌==◌, length, refl, ap, ◌∙◌}
use Rattle.std.specs.Option.{unwrap_or}
use Rattle.rules.specs.declared.words.Practice.{Practice}
use Rattle.rules.proofs.Finding.{passing_in}
use Rattle.allotment.proofs.Listed.{position_or_end}
use Rattle.allotment.proofs.by_ballots.position.Goals as goal

pub returns : goal.returns
returns c =
    let list = c.args.list.now in
    let p = c.args.p.0 in
    let number = λ (q : Practice). q.0 in
    c.unwrap_or.ensures ∙ ap (λ o. unwrap_or o (length list)) (c.place_of.ensures ∙ passing_in (λ (q : Practice). q.0 == p) number list p (λ q. refl)) ∙ position_or_end list p
