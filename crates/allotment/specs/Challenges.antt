-- What a challenge leaves: a strongest rival and its majority.
use Rattle.std.specs.Prelude.{◌≡◌, ℕ, List}
use Rattle.rules.specs.Meaning.{Entries, trainees}
use Rattle.voting.specs.Placements.{Placement}
use Rattle.voting.specs.Votes.{Strongest}
use Rattle.allotment.specs.Bytes.{offered_by, written}

-- some strongest rival of what is offered wins by k, and is written into the buffer
abbrev pub Challenged : Entries → List ℕ → List ℕ → ℕ → List ℕ → Type 0
Challenged e offered before k after =
    (N : Placement) × Strongest e (offered_by offered) k N × (after ≡ written (trainees e) N before)
