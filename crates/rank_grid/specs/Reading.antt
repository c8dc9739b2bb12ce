-- The entries that cells hold, read off them.
use Rattle.std.specs.Prelude.{◌≡◌, ℕ, zero, suc, ◌+◌, ◌*◌, ◌<◌, max, cond, List, [], ◌++◌, map, length, take, drop, ◌==◌, slice_index, slice_index_or}
use Rattle.std.specs.List.{range_with_len}
use Rattle.rules.specs.Meaning.{Entries}
use Rattle.rank_grid.specs.Ranks.{rank, ranks}

-- the cell of a trainee and a practice
abbrev pub cell : List ℕ → ℕ → ℕ → ℕ → ℕ
cell cells practices t p = slice_index cells (t * practices + p)

-- the greatest of f 0 to f (n - 1)
abbrev pub greatest : ℕ → (ℕ → ℕ) → ℕ
greatest zero f = 0
greatest (suc n) f = max (greatest n f) (f n)

-- the number below n at which f is v, and 0 where there is none
abbrev pub where_is : ℕ → (ℕ → ℕ) → ℕ → ℕ
where_is zero f v = 0
where_is (suc n) f v = cond (f n == v) n (where_is n f v)

-- the list of a run: as long as its greatest cell, and its choice k the practice whose cell is k + 1
abbrev pub list_in : ℕ → (ℕ → ℕ) → List ℕ
list_in practices run = map (λ k. where_is practices run (k + 1)) (range_with_len 0 (greatest practices run))

abbrev pub lists_of : List ℕ → ℕ → ℕ → List (List ℕ)
lists_of cells trainees practices = map (λ t. list_in practices (cell cells practices t)) (range_with_len 0 trainees)

abbrev pub entries_of : List ℕ → ℕ → List ℕ → Entries
entries_of cells trainees places = record { places = places; lists = lists_of cells trainees (length places) }

-- each cell is the rank of its practice on its trainee's list
abbrev pub Shows : List ℕ → ℕ → ℕ → List (List ℕ) → Type 0
Shows cells trainees practices lists = (t : ℕ) → t < trainees → (p : ℕ) → p < practices → cell cells practices t p ≡ rank (slice_index_or lists t []) p

-- the cells with another list for t: its run is the ranks, and every other cell is as it was
abbrev pub written : List ℕ → ℕ → ℕ → List ℕ → List ℕ
written cells practices t list = take (t * practices) cells ++ (ranks practices list ++ drop practices (drop (t * practices) cells))
