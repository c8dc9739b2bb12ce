-- What a row register that stands gives its answers.
use Rattle.std.proofs.Common.{◌≡◌, ℕ, ◌<◌, ◌≤◌, ◌++◌, List, [], length, take, drop, set, replicate, None, sym, refl, ap, ◌∙◌, le_refl, arith, length-append, length-drop, length-set, drop-set-lt}
use lib.ListN.{length-replicate}
use Rattle.std.proofs.lemmas.List.{length-take-le, take_at, drop_at}
use Rattle.rules.specs.Meaning.{Meaning, Strict, Lawful, trainees, with_list}
use Rattle.rules.specs.Refusals.{entry_refusal}
use Rattle.rules.proofs.Checking.{admitted, strict_from_none}
use Rattle.opening.specs.Opening.{opening_refusal, opened, plain_rules}
use Rattle.opening.proofs.Opened.{Fresh, fresh, however}
use Rattle.row_register.specs.declared.row.Row.{Row}
use Rattle.row_register.specs.declared.table.RowRegister.{RowRegister}
use Rattle.row_register.specs.Rows.{row_of, holding}
use Rattle.row_register.specs.Reading.{entries_of}
use Rattle.row_register.specs.Table.{row_meaning}
use Rattle.row_register.proofs.Rowing.{AllNeat, trainees_are, held, lists_then, law_then, neat_then, lists_none, neat_none}

pub neat_rows : (s : RowRegister) → AllNeat s.rows.now s.numbers.trainees
neat_rows s t l = record { few = s.few t l; long = s.long t l; zeros = s.zeros t l }

-- a register that nothing changed holds its entries
pub held_still : (s : RowRegister) → s.rows.now ≡ holding (row_meaning s).entries s.rows.now
held_still s = held s.rows.now s.rows.now s.numbers.trainees s.numbers.places.items s.room (neat_rows s) refl

-- an entry that the check let through
pub record Entered (s : RowRegister) (t : ℕ) (list : List ℕ) (rows : List Row) : Type 0 where
  pub room : s.numbers.trainees ≤ length rows
  pub neat : AllNeat rows s.numbers.trainees
  pub law : Lawful (entries_of rows s.numbers.trainees s.numbers.places.items)
  pub entries : entries_of rows s.numbers.trainees s.numbers.places.items ≡ (with_list (row_meaning s) t list).entries
  pub holds : rows ≡ holding (entries_of rows s.numbers.trainees s.numbers.places.items) s.rows.now

into : (s : RowRegister) (t : ℕ) (list : List ℕ) → entry_refusal (row_meaning s) t list ≡ None → Entered s t list (set s.rows.now t (row_of list))
into s t list o =
    record {
      room = room;
      neat = neat;
      law = law_then s.rows.now s.numbers.trainees s.numbers.places.items s.room (neat_rows s) s.law t l list strict;
      entries = rw (lists_then s.rows.now s.numbers.trainees s.numbers.places.items s.room (neat_rows s) s.law t l list strict);
      holds = held (set s.rows.now t (row_of list)) s.rows.now s.numbers.trainees s.numbers.places.items room neat (drop-set-lt s.numbers.trainees s.rows.now t (row_of list) l);
    }
  where
    l : t < s.numbers.trainees
    l = omega (arith, (admitted (row_meaning s) t list o).trainee, trainees_are s.rows.now s.numbers.trainees s.room)

    strict : Strict (length s.numbers.places.items) list
    strict = strict_from_none (row_meaning s) t list (le_refl 12) o

    room : s.numbers.trainees ≤ length (set s.rows.now t (row_of list))
    room = simp length-set s.room

    neat : AllNeat (set s.rows.now t (row_of list)) s.numbers.trainees
    neat = neat_then s.rows.now s.numbers.trainees s.numbers.places.items s.room (neat_rows s) s.law t l list strict

pub let_in : (s : RowRegister) (t : ℕ) (list : List ℕ) → entry_refusal (row_meaning s) t list ≡ None → (row : Row) → row ≡ row_of list → Entered s t list (set s.rows.now t row)
let_in s t list o row w = rw w (into s t list o)

-- a register just opened
pub record Opens (m : Meaning) (memory : List Row) (T : ℕ) (places : List ℕ) (rows : List Row) : Type 0 where
  pub room : T ≤ length rows
  pub neat : AllNeat rows T
  pub law : Lawful (entries_of rows T places)
  pub means : record { entries = entries_of rows T places; rules = plain_rules (length places) } ≡ m
  pub holds : rows ≡ holding (entries_of rows T places) memory

pub room_opened : (P T lent : ℕ) → trainees (opened (opening_refusal P T T lent) P T).entries ≤ lent
room_opened P T lent = however P T T lent (λ m. trainees m.entries ≤ lent) (λ r. simp length-replicate r.room) (omega arith)

module _ (P T : ℕ) (memory : List Row) (places : List ℕ) (trained : ℕ) (ts : trained ≡ trainees (opened (opening_refusal P T T (length memory)) P T).entries) (ps : places ≡ (opened (opening_refusal P T T (length memory)) P T).entries.places) (front : List Row) (clear : front ≡ replicate (length (take trained memory)) (row_of [])) where
  new : Fresh (opened (opening_refusal P T T (length memory)) P T)
  new = fresh P T T (length memory)

  fits : trained ≤ length memory
  fits = rw ts (room_opened P T (length memory))

  long : length front ≡ trained
  long = ap length clear ∙ length-replicate (length (take trained memory)) (row_of []) ∙ length-take-le trained memory fits

  empty : take trained (front ++ drop trained memory) ≡ replicate trained (row_of [])
  empty = take_at front (drop trained memory) trained long ∙ clear ∙ rw (length-take-le trained memory fits)

  same : entries_of (front ++ drop trained memory) trained places ≡ (opened (opening_refusal P T T (length memory)) P T).entries
  same =
      let e = lists_none (front ++ drop trained memory) trained empty ∙ ap (λ n. replicate n []) ts ∙ sym new.empty in
      λ i. record { places = ps i; lists = e i }

  room : trained ≤ length (front ++ drop trained memory)
  room = simp (length-append, length-drop) (omega (arith, fits, long))

  pub opens : Opens (opened (opening_refusal P T T (length memory)) P T) memory trained places (front ++ drop trained memory)
  opens =
      record {
        room = room;
        neat = neat_none (front ++ drop trained memory) trained empty;
        law = rw same new.lawful;
        means = let r : plain_rules (length places) ≡ (opened (opening_refusal P T T (length memory)) P T).rules = ap (λ (xs : List ℕ). plain_rules (length xs)) ps ∙ sym new.plain in λ i. record { entries = same i; rules = r i };
        holds = held (front ++ drop trained memory) memory trained places room (neat_none (front ++ drop trained memory) trained empty) (drop_at front (drop trained memory) trained long);
      }
