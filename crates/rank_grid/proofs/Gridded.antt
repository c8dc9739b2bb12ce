-- The cells, and the entries that they hold.
use Rattle.std.proofs.Common.{◌≡◌, ℕ, zero, suc, ◌+◌, ◌-◌, ◌*◌, ◌<◌, ◌≤◌, ◌⊎◌, List, [], ◌∷◌, ◌++◌, length, get_or, take, drop, set, replicate, sym, ap, ◌∙◌, inl, inr, mul-le-mul_right, suc-mul, arith, length-append, length-drop, length-set, length-take}
use lib.ListN.{length-replicate}
use Rattle.std.specs.List.{flat_map}
use Rattle.std.proofs.lemmas.List.FromFn.{fill_by_all, length-map-range_with_len, get_or-map-range_with_len}
use Rattle.std.proofs.lemmas.List.{ext_get_or, append_assoc, drop-drop, get_or-take, get_or-drop, get_or_append_left, get_or-append_right, get_or-set_same, get_or-set_other, get_or-replicate, length-take-le, take-append-drop, drop_at}
use Rattle.std.proofs.lemmas.Bool.{cases_eq, cases_lt}
use Rattle.rules.specs.Meaning.{Entries, Strict, Lawful, trainees, practices}
use Rattle.rules.proofs.Lawfully.{strict_none, lawful_listed}
use Rattle.opening.specs.Opening.{plain_rules}
use Rattle.rank_grid.specs.Ranks.{rank, ranks, holding}
use Rattle.rank_grid.specs.Reading.{cell, list_in, lists_of, entries_of, Shows, written}
use Rattle.rank_grid.proofs.Ranking.{list_in_is}

-- where a run lies
pub run_end : (t T P : ℕ) → t < T → t * P + P ≤ T * P
run_end t T P l = omega (arith, suc-mul t P, mul-le-mul_right {m = suc t} {n = T} P (omega arith))

pub trainees_are : (cells : List ℕ) (T P : ℕ) → length (lists_of cells T P) ≡ T
trainees_are cells T P = length-map-range_with_len (λ t. list_in P (cell cells P t)) 0 T

-- cells that show strict lists show no others
pub lists_are : (cells : List ℕ) (T P : ℕ) (lists : List (List ℕ)) → length lists ≡ T → ((t : ℕ) → t < T → Strict P (get_or lists t [])) → Shows cells T P lists → lists_of cells T P ≡ lists
lists_are cells T P lists n s h =
    sym (fill_by_all (λ t. list_in P (cell cells P t)) lists T [] n (λ t l. sym (list_in_is P (cell cells P t) (get_or lists t []) (s t l) (h t l))))

-- the run of each trainee is the ranks of the list
pub run_is : (cells : List ℕ) (T P t : ℕ) → T * P ≤ length cells → Shows cells T P (lists_of cells T P) → t < T → take P (drop (t * P) cells) ≡ ranks P (get_or (lists_of cells T P) t [])
run_is cells T P t room h l =
    fill_by_all (rank (get_or (lists_of cells T P) t [])) (take P (drop (t * P) cells)) P 0
    (length-take-le P (drop (t * P) cells) (simp length-drop (omega (arith, run_end t T P l))))
    (λ p m. get_or-take P (drop (t * P) cells) p 0 m ∙ get_or-drop (t * P) cells p 0 ∙ h t l p m)

-- the cells after a run is written
module _ (cells : List ℕ) (P t : ℕ) (list : List ℕ) (room : t * P + P ≤ length cells) where
  front : length (take (t * P) cells) ≡ t * P
  front = length-take-le (t * P) cells (omega arith)

  many : length (ranks P list) ≡ P
  many = length-map-range_with_len (rank list) 0 P

  pub length_written : length (written cells P t list) ≡ length cells
  length_written = simp (length-append, length-take, length-drop, length-map-range_with_len) (omega arith)

  pub written_run : (p : ℕ) → p < P → get_or (written cells P t list) (t * P + p) 0 ≡ rank list p
  written_run p l =
      let z : t * P + p - t * P ≡ p = omega arith in
      get_or-append_right (take (t * P) cells) (ranks P list ++ drop P (drop (t * P) cells)) (t * P) (t * P + p) 0 front (omega arith)
      ∙ rw z (get_or_append_left (ranks P list) (drop P (drop (t * P) cells)) 0 p (omega (arith, many)))
      ∙ get_or-map-range_with_len (rank list) 0 P p p 0 l (omega arith)

  pub written_before : (i : ℕ) → i < t * P → get_or (written cells P t list) i 0 ≡ get_or cells i 0
  written_before i l =
      get_or_append_left (take (t * P) cells) (ranks P list ++ drop P (drop (t * P) cells)) 0 i (omega (arith, front))
      ∙ get_or-take (t * P) cells i 0 l

  pub written_behind : (i : ℕ) → t * P + P ≤ i → get_or (written cells P t list) i 0 ≡ get_or cells i 0
  written_behind i l =
      let z : t * P + (P + (i - t * P - P)) ≡ i = omega arith in
      get_or-append_right (take (t * P) cells) (ranks P list ++ drop P (drop (t * P) cells)) (t * P) i 0 front (omega arith)
      ∙ get_or-append_right (ranks P list) (drop P (drop (t * P) cells)) P (i - t * P) 0 many (omega arith)
      ∙ get_or-drop P (drop (t * P) cells) (i - t * P - P) 0
      ∙ get_or-drop (t * P) cells (P + (i - t * P - P)) 0
      ∙ ap (λ j. get_or cells j 0) z

  pub written_beyond : (n : ℕ) → t * P + P ≤ n → drop n (written cells P t list) ≡ drop n cells
  written_beyond n l =
      ext_get_or 0 (drop n (written cells P t list)) (drop n cells)
      (length-drop n (written cells P t list) ∙ ap (λ m. m - n) length_written ∙ sym (length-drop n cells))
      (λ i m. get_or-drop n (written cells P t list) i 0 ∙ written_behind (n + i) (omega arith) ∙ sym (get_or-drop n cells i 0))

-- cells that show lists hold them, run after run
run_first : (cells : List ℕ) (P : ℕ) (list : List ℕ) → P ≤ length cells → ((p : ℕ) → p < P → get_or cells p 0 ≡ rank list p) → take P cells ≡ ranks P list
run_first cells P list room h = fill_by_all (rank list) (take P cells) P 0 (length-take-le P cells room) (λ p l. get_or-take P cells p 0 l ∙ h p l)

pub shown_held : (cells : List ℕ) (T P : ℕ) (lists : List (List ℕ)) → length lists ≡ T → T * P ≤ length cells → Shows cells T P lists → cells ≡ flat_map (ranks P) lists ++ drop (T * P) cells
shown_held cells zero P [] n room h = let z : 0 * P ≡ 0 = omega arith in rw z
shown_held cells zero P (x ∷ xs) n room h = absurd (omega arith)
shown_held cells (suc T) P [] n room h = absurd (omega arith)
shown_held cells (suc T) P (x ∷ xs) n room h =
    let m : suc T * P ≡ P + T * P = omega (arith, suc-mul T P) in
    let first : take P cells ≡ ranks P x =
    run_first cells P x (omega arith) (λ p l. let z : 0 * P + p ≡ p = omega arith in (rw z at (h 0 (omega arith) p l))) in
    let rest : drop P cells ≡ flat_map (ranks P) xs ++ drop (T * P) (drop P cells) =
    shown_held (drop P cells) T P xs (omega arith) (simp length-drop (omega arith))
    (λ t l p k. let z : P + (t * P + p) ≡ suc t * P + p = omega (arith, suc-mul t P) in get_or-drop P cells (t * P + p) 0 ∙ ap (λ j. get_or cells j 0) z ∙ h (suc t) (omega arith) p k) in
    sym (take-append-drop P cells)
    ∙ ap (λ a. a ++ drop P cells) first
    ∙ ap (λ b. ranks P x ++ b) (rest ∙ ap (λ d. flat_map (ranks P) xs ++ d) (drop-drop (T * P) P cells ∙ ap (λ j. drop j cells) (sym m)))
    ∙ sym (append_assoc (ranks P x) (flat_map (ranks P) xs) (drop (suc T * P) cells))

length_runs : (P : ℕ) (lists : List (List ℕ)) → length (flat_map (ranks P) lists) ≡ length lists * P
length_runs P [] = omega arith
length_runs P (x ∷ xs) = omega (arith, length-append (ranks P x) (flat_map (ranks P) xs), length-map-range_with_len (rank x) 0 P, length_runs P xs, suc-mul (length xs) P)

-- memory that held as many entries before is beyond them as it was at first
pub holding_again : (e f : Entries) (memory : List ℕ) → trainees f ≡ trainees e → practices f ≡ practices e → holding f (holding e memory) ≡ holding f memory
holding_again e f memory t p =
    let n : trainees f * practices f ≡ trainees e * practices e = rw (t, p) in
    ap (λ d. flat_map (ranks (practices f)) f.lists ++ d)
    (ap (λ k. drop k (holding e memory)) n
    ∙ drop_at (flat_map (ranks (practices e)) e.lists) (drop (trainees e * practices e) memory) (trainees e * practices e) (length_runs (practices e) e.lists)
    ∙ ap (λ k. drop k memory) (sym n))

-- cells that show their lists hold them, and beyond them what other memory has there
pub held : (cells memory : List ℕ) (T : ℕ) (places : List ℕ) → T * length places ≤ length cells → Shows cells T (length places) (lists_of cells T (length places)) → drop (T * length places) cells ≡ drop (T * length places) memory → cells ≡ holding (entries_of cells T places) memory
held cells memory T places room h e =
    let P = length places in
    shown_held cells T P (lists_of cells T P) (trainees_are cells T P) room h ∙ rw (trainees_are cells T P, e)

-- a run that is written changes one list
module _ (cells : List ℕ) (T : ℕ) (places : List ℕ) (room : T * length places ≤ length cells) (shows : Shows cells T (length places) (lists_of cells T (length places))) (law : Lawful (entries_of cells T places)) (t : ℕ) (l : t < T) (list : List ℕ) (s : Strict (length places) list) where
  abbrev P : ℕ
  P = length places

  near : t * P + P ≤ length cells
  near = omega (arith, run_end t T P l)

  other : (u p : ℕ) → (u ≡ t → ⊥) → p < P → cell (written cells P t list) P u p ≡ cell cells P u p
  other u p n m = by (cases_lt u t)
    where
      by : (u < t) ⊎ (t ≤ u) → cell (written cells P t list) P u p ≡ cell cells P u p
      by (inl a) = written_before cells P t list near (u * P + p) (omega (arith, run_end u t P a))
      by (inr a) = written_behind cells P t list near (u * P + p) (omega (arith, run_end t u P (omega arith)))

  shown : Shows (written cells P t list) T P (set (lists_of cells T P) t list)
  shown u m p q = by (cases_eq u t)
    where
      by : (u ≡ t) ⊎ (u ≡ t → ⊥) → cell (written cells P t list) P u p ≡ rank (get_or (set (lists_of cells T P) t list) u []) p
      by (inl e) = rw (e, get_or-set_same (lists_of cells T P) t list [] (omega (arith, trainees_are cells T P))) (written_run cells P t list near p q)
      by (inr e) = rw (get_or-set_other (lists_of cells T P) t u list [] e) (other u p e q ∙ shows u m p q)

  law_set : Lawful (record { places = places; lists = set (lists_of cells T P) t list })
  law_set =
      lawful_listed (record { entries = entries_of cells T places; rules = plain_rules P }) t list law (rw (trainees_are cells T P) l) s

  pub lists_then : lists_of (written cells P t list) T P ≡ set (lists_of cells T P) t list
  lists_then =
      lists_are (written cells P t list) T P (set (lists_of cells T P) t list) (simp length-set (trainees_are cells T P))
      (λ u m. law_set.lists_strict u (simp length-set (omega (arith, trainees_are cells T P))))
      shown

  pub shows_then : Shows (written cells P t list) T P (lists_of (written cells P t list) T P)
  shows_then = rw lists_then shown

  pub law_then : Lawful (entries_of (written cells P t list) T places)
  law_then = rw lists_then law_set

-- cells that are 0 show empty lists
module _ (cells : List ℕ) (T P : ℕ) (clear : (i : ℕ) → i < T * P → get_or cells i 0 ≡ 0) where
  none_shown : Shows cells T P (replicate T [])
  none_shown t l p m = clear (t * P + p) (omega (arith, run_end t T P l)) ∙ rw (get_or-replicate {A = List ℕ} T t [] [] l)

  pub lists_none : lists_of cells T P ≡ replicate T []
  lists_none =
      lists_are cells T P (replicate T []) (length-replicate T [])
      (λ t l. rw (get_or-replicate {A = List ℕ} T t [] [] l) (strict_none P))
      none_shown

  pub shows_none : Shows cells T P (lists_of cells T P)
  shows_none = rw lists_none none_shown
