use Rattle.std.proofs.Common.{◌≡◌, ◌-◌, ◌≤◌, [], length, take, drop}
use Rattle.sheet.specs.Reading.{choices}
use Rattle.sheet.specs.Told.{left}
use Rattle.sheet.proofs.unread.Unread.choices.Given as goal

abbrev pub invariant-loop : goal.invariant-loop
invariant-loop l =
    (l.left.size ≡ l.self.size)
    × (l.counter ≤ length l.self.rest.now)
    × (l.left.rest.now ≡ drop l.counter l.self.rest.now)
    × (left (choices l.self.size l.practices (take l.counter l.self.rest.now) (l.n - l.counter) l.left.rest.now) ≡ left (choices l.self.size l.practices [] l.n l.self.rest.now))
