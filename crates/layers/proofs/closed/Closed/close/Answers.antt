use Rattle.std.proofs.Common.{◌<◌, length, Ok, sym, ap, arith}
use Rattle.std.proofs.lemmas.Bool.{lt-ltb}
use Rattle.rules.specs.Meaning.{meant, practices}
use Rattle.layers.proofs.Closing.{without_set}
use Rattle.layers.proofs.closed.Closed.close.Goals as goal

pub returns-clause-shows : goal.returns-clause-shows
returns-clause-shows g c =
    let s = c.args.self.now in
    let m = meant g.R.Roll.entries g.R.Terms.rules s.below in
    let p = c.args.p.0 in
    let known : p < practices m.entries = omega (arith, c.practices.ensures) in
    let room : p < length s.closed = omega (arith, (g.R.Roll.lawful s.below).few_practices) in
    rw (lt-ltb p (practices m.entries) known) (ap (λ n. (Ok tt, n)) (sym (without_set s.closed m p room)))
