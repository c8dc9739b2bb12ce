use Rattle.std.proofs.Common.{◌≡◌, ℕ, ◌-◌, List, Result}
use Rattle.rules.specs.declared.words.Refusal.{Refusal}
use Rattle.sheet.specs.Told.{Goes, times}
use Rattle.sheet.proofs.unread.Unread.section.Given as goal

abbrev pub invariant-loop : goal.invariant-loop
invariant-loop g l =
    (l.left.size ≡ l.fn.self.size)
    × ((next : List ℕ → Result (List ℕ) Refusal) → Goes (goal.E-post g l.each) l.fn.self.size next → times next (l.n - l.counter) l.left.rest.now ≡ times next l.n l.initial.left.rest.now)
