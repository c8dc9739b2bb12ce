use Rattle.std.proofs.Common.{◌≡◌, true}
use Rattle.std.specs.Option.{is_some}
use Rattle.rules.specs.Meaning.{list_of}
use Rattle.allotment.proofs.Listed.{listed_few, position_listed}
use Rattle.allotment.proofs.fits.is_fit.Goals as goal

pub bounds-counts-p : goal.bounds-counts-p
bounds-counts-p g c =
    let e = g.R.Roll.entries c.args.roll.now in
    let t = c.args.t.0 in
    let p = c.in-Some.p.0 in
    let found : is_some c.position.result ≡ true = cc in
    listed_few e (g.R.Roll.lawful c.args.roll.now) t p (position_listed (list_of e t) p c.position.result c.position.ensures found)
