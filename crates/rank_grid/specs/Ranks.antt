-- The cells that hold entries: for each trainee in turn, the rank of each practice.
use Rattle.std.specs.Prelude.{ℕ, ◌+◌, ◌*◌, cond, List, [], ◌++◌, map, drop, nat_lt}
use Rattle.std.specs.List.{range_with_len, flat_map}
use Rattle.rules.specs.Meaning.{Entries, trainees, practices, list_of}
use Rattle.rules.specs.Questions.{listed, position}

-- the rank of a practice on a list: its position plus 1, and 0 where it is not listed
abbrev pub rank : List ℕ → ℕ → ℕ
rank list p = cond (listed list p) (position list p + 1) 0

-- the run of cells of a trainee with this list
abbrev pub ranks : ℕ → List ℕ → List ℕ
ranks practices list = map (rank list) (range_with_len 0 practices)

-- the run of trainee t, empty for one that there is not
abbrev pub run_of : Entries → ℕ → List ℕ
run_of e t = cond (nat_lt t (trainees e)) (ranks (practices e) (list_of e t)) []

-- memory that holds these entries: the runs, one after another, and beyond them what was there
abbrev pub holding : Entries → List ℕ → List ℕ
holding e memory = flat_map (ranks (practices e)) e.lists ++ drop (trainees e * practices e) memory
