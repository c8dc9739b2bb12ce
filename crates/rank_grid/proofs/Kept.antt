-- What a rank grid keeps, as one proposition.
use Rattle.std.proofs.Common.{ℕ, List, length, take}
use Rattle.std.proofs.Math.Logic.{∥∥₁_elim}
use std.HLevel.{Π_prop}
use Rattle.std.proofs.Math.Nat.{ℕ_set}
use Rattle.std.proofs.Math.Seq.{take-length}
use Rattle.rules.specs.Meaning.{Entries, Lawful}
use Rattle.rules.proofs.Lawfully.{lawful_prop}
use Rattle.rank_grid.specs.declared.grid.RankGrid.{RankGrid}
use Rattle.rank_grid.specs.Reading.{lists_of, Shows}

-- the entries of the first so many practices
abbrev pub entries_among : List ℕ → ℕ → ℕ → List ℕ → Entries
entries_among cells trainees practices places = record { places = take practices places; lists = lists_of cells trainees practices }

pub record Ranked (cells : List ℕ) (trainees practices : ℕ) (places : List ℕ) : Type 0 where
  pub shows : Shows cells trainees practices (lists_of cells trainees practices)
  pub law : Lawful (entries_among cells trainees practices places)

shows_prop : (cells : List ℕ) (T P : ℕ) (lists : List (List ℕ)) → IsProp (Shows cells T P lists)
shows_prop cells T P lists = Π_prop (λ t. Π_prop (λ l. Π_prop (λ p. Π_prop (λ m. ℕ_set _ _))))

ranked_prop : (cells : List ℕ) (T P : ℕ) (places : List ℕ) → IsProp (Ranked cells T P places)
ranked_prop cells T P places p q =
    λ i. record {
      shows = shows_prop cells T P (lists_of cells T P) p.shows q.shows i;
      law = lawful_prop (entries_among cells T P places) p.law q.law i;
    }

pub ranked_from : {cells : List ℕ} {T P : ℕ} {places : List ℕ} → ∥ Ranked cells T P places ∥₁ → Ranked cells T P places
ranked_from {cells} {T} {P} {places} h = ∥∥₁_elim h (ranked_prop cells T P places) (λ r. r)

-- the ghost fields of each grid say it outright
pub ranked : (s : RankGrid) → Ranked s.cells.now s.numbers.trainees (length s.numbers.places.items) s.numbers.places.items
ranked s = record { shows = s.shows; law = rw (take-length s.numbers.places.items) s.law }
