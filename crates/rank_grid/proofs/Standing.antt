-- What a grid that stands gives its answers.
use Rattle.std.proofs.Common.{◌≡◌, ℕ, ◌+◌, ◌*◌, ◌<◌, ◌≤◌, ◌++◌, List, [], length, get_or, take, drop, replicate, None, sym, refl, ap, ◌∙◌, le_refl, arith, length-append, length-drop}
use lib.ListN.{length-replicate}
use Rattle.std.proofs.lemmas.List.{get_or-replicate, get_or_append_left, length-take-le, drop_at}
use Rattle.rules.specs.Meaning.{Meaning, Strict, Lawful, trainees, practices, with_list}
use Rattle.rules.specs.Refusals.{entry_refusal}
use Rattle.rules.proofs.Checking.{admitted, strict_from_none}
use Rattle.opening.specs.Opening.{opening_refusal, opened, plain_rules}
use Rattle.opening.proofs.Opened.{Fresh, fresh, however}
use Rattle.rank_grid.specs.declared.grid.RankGrid.{RankGrid}
use Rattle.rank_grid.specs.Ranks.{holding}
use Rattle.rank_grid.specs.Reading.{Shows, lists_of, written, entries_of}
use Rattle.rank_grid.specs.Grid.{grid_meaning}
use Rattle.rank_grid.proofs.Gridded.{run_end, trainees_are, held, length_written, written_beyond, lists_then, shows_then, law_then, lists_none, shows_none}

-- a grid that nothing changed holds its entries
pub held_still : (s : RankGrid) → s.cells.now ≡ holding (grid_meaning s).entries s.cells.now
held_still s = held s.cells.now s.cells.now s.numbers.trainees s.numbers.places.items s.room s.shows refl

-- an entry that the check let through
pub record Entered (s : RankGrid) (t : ℕ) (list : List ℕ) (cells : List ℕ) : Type 0 where
  pub strict : Strict (length s.numbers.places.items) list
  pub near : t * length s.numbers.places.items + length s.numbers.places.items ≤ length s.cells.now
  pub room : s.numbers.trainees * length s.numbers.places.items ≤ length cells
  pub shows : Shows cells s.numbers.trainees (length s.numbers.places.items) (lists_of cells s.numbers.trainees (length s.numbers.places.items))
  pub law : Lawful (entries_of cells s.numbers.trainees s.numbers.places.items)
  pub entries : entries_of cells s.numbers.trainees s.numbers.places.items ≡ (with_list (grid_meaning s) t list).entries
  pub holds : cells ≡ holding (entries_of cells s.numbers.trainees s.numbers.places.items) s.cells.now

into : (s : RankGrid) (t : ℕ) (list : List ℕ) → entry_refusal (grid_meaning s) t list ≡ None → Entered s t list (written s.cells.now (length s.numbers.places.items) t list)
into s t list o =
    record {
      strict = strict;
      near = near;
      room = room;
      shows = shows;
      law = law_then s.cells.now s.numbers.trainees s.numbers.places.items s.room s.shows s.law t l list strict;
      entries = rw (lists_then s.cells.now s.numbers.trainees s.numbers.places.items s.room s.shows s.law t l list strict);
      holds =
          held (written s.cells.now (length s.numbers.places.items) t list) s.cells.now s.numbers.trainees s.numbers.places.items room shows
          (written_beyond s.cells.now (length s.numbers.places.items) t list near (s.numbers.trainees * length s.numbers.places.items) (run_end t s.numbers.trainees (length s.numbers.places.items) l));
    }
  where
    l : t < s.numbers.trainees
    l = omega (arith, (admitted (grid_meaning s) t list o).trainee, trainees_are s.cells.now s.numbers.trainees (length s.numbers.places.items))

    strict : Strict (length s.numbers.places.items) list
    strict = strict_from_none (grid_meaning s) t list (le_refl 12) o

    near : t * length s.numbers.places.items + length s.numbers.places.items ≤ length s.cells.now
    near = omega (arith, run_end t s.numbers.trainees (length s.numbers.places.items) l, s.room)

    room : s.numbers.trainees * length s.numbers.places.items ≤ length (written s.cells.now (length s.numbers.places.items) t list)
    room = omega (arith, s.room, length_written s.cells.now (length s.numbers.places.items) t list near)

    shows : Shows (written s.cells.now (length s.numbers.places.items) t list) s.numbers.trainees (length s.numbers.places.items) (lists_of (written s.cells.now (length s.numbers.places.items) t list) s.numbers.trainees (length s.numbers.places.items))
    shows = shows_then s.cells.now s.numbers.trainees s.numbers.places.items s.room s.shows s.law t l list strict

pub let_in : (s : RankGrid) (t : ℕ) (list : List ℕ) → entry_refusal (grid_meaning s) t list ≡ None → (P : ℕ) → P ≡ length s.numbers.places.items → (cells : List ℕ) → cells ≡ written s.cells.now P t list → Entered s t list cells
let_in s t list o P n cells w = rw (w, n) (into s t list o)

-- a grid just opened
pub record Opens (m : Meaning) (memory : List ℕ) (T : ℕ) (places cells : List ℕ) : Type 0 where
  pub room : T * length places ≤ length cells
  pub shows : Shows cells T (length places) (lists_of cells T (length places))
  pub law : Lawful (entries_of cells T places)
  pub means : record { entries = entries_of cells T places; rules = plain_rules (length places) } ≡ m
  pub holds : cells ≡ holding (entries_of cells T places) memory

room_opened : (P T lent : ℕ) → trainees (opened (opening_refusal P T (T * P) lent) P T).entries * practices (opened (opening_refusal P T (T * P) lent) P T).entries ≤ lent
room_opened P T lent =
    however P T (T * P) lent (λ m. trainees m.entries * practices m.entries ≤ lent)
    (λ r. simp length-replicate r.room)
    (omega arith)

module _ (P T : ℕ) (memory places : List ℕ) (trained : ℕ) (ts : trained ≡ trainees (opened (opening_refusal P T (T * P) (length memory)) P T).entries) (ps : places ≡ (opened (opening_refusal P T (T * P) (length memory)) P T).entries.places) (front : List ℕ) (clear : front ≡ replicate (length (take (trained * length places) memory)) 0) where
  new : Fresh (opened (opening_refusal P T (T * P) (length memory)) P T)
  new = fresh P T (T * P) (length memory)

  fits : trained * length places ≤ length memory
  fits = rw (ts, ps) (room_opened P T (length memory))

  long : length front ≡ trained * length places
  long = ap length clear ∙ length-replicate {A = ℕ} (length (take (trained * length places) memory)) 0 ∙ length-take-le (trained * length places) memory fits

  zero_at : (i : ℕ) → i < trained * length places → get_or (front ++ drop (trained * length places) memory) i 0 ≡ 0
  zero_at i l =
      get_or_append_left front (drop (trained * length places) memory) 0 i (omega (arith, long))
      ∙ rw clear (get_or-replicate {A = ℕ} (length (take (trained * length places) memory)) i 0 0 (omega (arith, length-take-le (trained * length places) memory fits)))

  same : entries_of (front ++ drop (trained * length places) memory) trained places ≡ (opened (opening_refusal P T (T * P) (length memory)) P T).entries
  same =
      let e = lists_none (front ++ drop (trained * length places) memory) trained (length places) zero_at ∙ ap (λ n. replicate n []) ts ∙ sym new.empty in
      λ i. record { places = ps i; lists = e i }

  room : trained * length places ≤ length (front ++ drop (trained * length places) memory)
  room = simp (length-append, length-drop) (omega (arith, fits, long))

  shows : Shows (front ++ drop (trained * length places) memory) trained (length places) (lists_of (front ++ drop (trained * length places) memory) trained (length places))
  shows = shows_none (front ++ drop (trained * length places) memory) trained (length places) zero_at

  pub opens : Opens (opened (opening_refusal P T (T * P) (length memory)) P T) memory trained places (front ++ drop (trained * length places) memory)
  opens =
      record {
        room = room;
        shows = shows;
        law = rw same new.lawful;
        means = let r : plain_rules (length places) ≡ (opened (opening_refusal P T (T * P) (length memory)) P T).rules = ap (λ (xs : List ℕ). plain_rules (length xs)) ps ∙ sym new.plain in λ i. record { entries = same i; rules = r i };
        holds = held (front ++ drop (trained * length places) memory) memory trained places room shows (drop_at front (drop (trained * length places) memory) (trained * length places) long);
      }
