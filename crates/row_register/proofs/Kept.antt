-- What a row register keeps, as one proposition.
use Rattle.std.proofs.Common.{ℕ, List}
use Rattle.std.proofs.Math.Logic.{∥∥₁_elim}
use std.HLevel.{Π_prop}
use Rattle.std.proofs.Math.Nat.{ℕ_set}
use Rattle.std.proofs.Math.Bridge.{le_prop}
use Rattle.rules.specs.Meaning.{Lawful}
use Rattle.rules.proofs.Lawfully.{lawful_prop}
use Rattle.row_register.specs.declared.row.Row.{Row}
use Rattle.row_register.specs.declared.table.RowRegister.{RowRegister}
use Rattle.row_register.specs.Reading.{entries_of}
use Rattle.row_register.proofs.Rowing.{Neat, AllNeat}
use Rattle.row_register.proofs.Standing.{neat_rows}

pub record Rowed (rows : List Row) (trainees : ℕ) (places : List ℕ) : Type 0 where
  pub neat : AllNeat rows trainees
  pub law : Lawful (entries_of rows trainees places)

neat_prop : (r : Row) → IsProp (Neat r)
neat_prop r p q =
    λ i. record {
      few = le_prop p.few q.few i;
      long = ℕ_set _ _ p.long q.long i;
      zeros = Π_prop (λ k. Π_prop (λ l. ℕ_set _ _)) p.zeros q.zeros i;
    }

rowed_prop : (rows : List Row) (T : ℕ) (places : List ℕ) → IsProp (Rowed rows T places)
rowed_prop rows T places p q =
    λ i. record {
      neat = Π_prop (λ t. Π_prop (λ l. neat_prop _)) p.neat q.neat i;
      law = lawful_prop (entries_of rows T places) p.law q.law i;
    }

pub rowed_from : {rows : List Row} {T : ℕ} {places : List ℕ} → ∥ Rowed rows T places ∥₁ → Rowed rows T places
rowed_from {rows} {T} {places} h = ∥∥₁_elim h (rowed_prop rows T places) (λ r. r)

-- the ghost fields of each register say it outright
pub rowed : (s : RowRegister) → Rowed s.rows.now s.numbers.trainees s.numbers.places.items
rowed s = record { neat = neat_rows s; law = s.law }
