-- What the layers show of the register below them.
use Rattle.std.specs.Prelude.{ℕ, min, Bool, false, cond, not, List, [], ◌∷◌, map, take, filter, slice_index_or}
use Rattle.rules.specs.Meaning.{Entries, Rules, Meaning}

-- the same places, and each list changed
abbrev pub with_lists : (List ℕ → List ℕ) → Entries → Entries
with_lists f e = record { places = e.places; lists = map f e.lists }

-- each list cut to so many choices
abbrev pub shortened : ℕ → Entries → Entries
shortened most e = with_lists (take most) e

-- no list longer than that is taken
abbrev pub shortened_rules : ℕ → Rules → Rules
shortened_rules most r = record { longest = min most r.longest; opened = r.opened }

abbrev pub shortened_meaning : ℕ → Meaning → Meaning
shortened_meaning most m = record { entries = shortened most m.entries; rules = shortened_rules most m.rules }

abbrev pub is_closed : List Bool → ℕ → Bool
is_closed closed p = slice_index_or closed p false

abbrev pub unclosed : List Bool → ℕ → Bool
unclosed closed p = not (is_closed closed p)

-- each list without the practices that are closed
abbrev pub without : List Bool → Entries → Entries
without closed e = with_lists (filter (unclosed closed)) e

-- open before, and not closed
abbrev pub still_open : List Bool → List Bool → List Bool
still_open closed [] = []
still_open [] (o ∷ os) = o ∷ os
still_open (c ∷ cs) (o ∷ os) = cond c false o ∷ still_open cs os

abbrev pub without_rules : List Bool → Rules → Rules
without_rules closed r = record { longest = r.longest; opened = still_open closed r.opened }

abbrev pub without_meaning : List Bool → Meaning → Meaning
without_meaning closed m = record { entries = without closed m.entries; rules = without_rules closed m.rules }
