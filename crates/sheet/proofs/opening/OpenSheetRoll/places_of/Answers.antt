use Rattle.std.proofs.Common.{◌<◌, arith}
use Rattle.rules.specs.Meaning.{practices}
use Rattle.sheet.specs.Opened.{opened}
use Rattle.sheet.proofs.Sheets.{places_at}
use Rattle.sheet.proofs.opening.OpenSheetRoll.places_of.Goals as goal

pub bounds-self-at : goal.bounds-self-at
bounds-self-at c =
    let s = c.args.self.now in
    let within : c.args.p.0 < practices (opened s.bytes.now).0 = omega (arith, c.practices.ensures) in
    omega (arith, (places_at s.bytes.now s.fits c.args.p.0 within).0)

pub bounds-self-at-then-p-practices : goal.bounds-self-at-then-p-practices
bounds-self-at-then-p-practices c =
    let s = c.args.self.now in
    let within : c.args.p.0 < practices (opened s.bytes.now).0 = omega (arith, c.practices.ensures) in
    omega (arith, (places_at s.bytes.now s.fits c.args.p.0 within).0)

pub returns-then-p-practices : goal.returns-then-p-practices
returns-then-p-practices c =
    let s = c.args.self.now in
    let within : c.args.p.0 < practices (opened s.bytes.now).0 = omega (arith, c.practices.ensures) in
    omega (arith, c.from_be_bytes.ensures, (places_at s.bytes.now s.fits c.args.p.0 within).1)
