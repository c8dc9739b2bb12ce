-- The rows, and the entries that they hold.
use Rattle.std.proofs.Common.{◌≡◌, ℕ, ◌-◌, ◌<◌, ◌≤◌, ◌⊎◌, List, [], ◌++◌, map, length, get_or, take, drop, set, replicate, sym, refl, ap, ◌∙◌, inl, inr, arith, length-append}
use lib.ListN.{length-replicate, length-map}
use lib.Seq.{take-set-lt}
use lib.LanesLaws.{map-replicate}
use Rattle.std.proofs.lemmas.List.{ext_get_or, get_or-map, get_or_past, get_or-take, get_or_append_left, get_or-append_right, get_or-set_same, get_or-set_other, get_or-replicate, length-take-le, take-append-drop, take_at, drop_at, map-set}
use Rattle.std.proofs.lemmas.Bool.{cases_eq, cases_lt}
use Rattle.rules.specs.Meaning.{Entries, Strict, Lawful, trainees}
use Rattle.rules.proofs.Lawfully.{lawful_listed}
use Rattle.opening.specs.Opening.{plain_rules}
use Rattle.row_register.specs.declared.row.Row.{Row}
use Rattle.row_register.specs.Rows.{row_of, holding}
use Rattle.row_register.specs.Reading.{row_list, row_at, entries_of}

zero_at : (n k : ℕ) → get_or (replicate {A = ℕ} n 0) k 0 ≡ 0
zero_at n k = among (cases_lt k n)
  where
    among : (k < n) ⊎ (n ≤ k) → get_or (replicate {A = ℕ} n 0) k 0 ≡ 0
    among (inl l) = get_or-replicate {A = ℕ} n k 0 0 l
    among (inr l) = get_or_past (replicate {A = ℕ} n 0) k 0 (omega (arith, length-replicate {A = ℕ} n 0))

padded_at : (xs : List ℕ) (n k : ℕ) → get_or (xs ++ replicate n 0) k 0 ≡ get_or xs k 0
padded_at xs n k = by (cases_lt k (length xs))
  where
    by : (k < length xs) ⊎ (length xs ≤ k) → get_or (xs ++ replicate n 0) k 0 ≡ get_or xs k 0
    by (inl l) = get_or_append_left xs (replicate n 0) 0 k l
    by (inr l) = get_or-append_right xs (replicate n 0) (length xs) k 0 refl l ∙ zero_at n (k - length xs) ∙ sym (get_or_past xs k 0 l)

-- as many lists as trainees
pub trainees_are : (rows : List Row) (T : ℕ) → T ≤ length rows → length (map row_list (take T rows)) ≡ T
trainees_are rows T room = length-map (take T rows) row_list ∙ length-take-le T rows room

pub list_at : (rows : List Row) (T t : ℕ) → T ≤ length rows → t < T → get_or (map row_list (take T rows)) t [] ≡ row_list (row_at rows t)
list_at rows T t room l =
    get_or-map row_list (take T rows) t (record { count = 0; choices = [] }) [] (omega (arith, length-take-le T rows room))
    ∙ ap row_list (get_or-take T rows t (record { count = 0; choices = [] }) l)

-- a row that counts no more than there is room for, with zeros past its count
pub record Neat (r : Row) : Type 0 where
  pub few : r.count ≤ 12
  pub long : length r.choices ≡ 12
  pub zeros : (k : ℕ) → r.count ≤ k → get_or r.choices k 0 ≡ 0

-- each of the first rows is neat
abbrev pub AllNeat : List Row → ℕ → Type 0
AllNeat rows T = (t : ℕ) → t < T → Neat (row_at rows t)

module _ (r : Row) (h : Neat r) where
  length_row : length (row_list r) ≡ r.count
  length_row = length-take-le r.count r.choices (omega (arith, h.few, h.long))

  choices_row : row_list r ++ replicate (12 - length (row_list r)) 0 ≡ r.choices
  choices_row =
      ext_get_or 0 (row_list r ++ replicate (12 - length (row_list r)) 0) r.choices
      (simp (length-append, length-replicate) (omega (arith, length_row, h.few, h.long)))
      (λ k b. by k (cases_lt k r.count))
    where
      by : (k : ℕ) → (k < r.count) ⊎ (r.count ≤ k) → get_or (row_list r ++ replicate (12 - length (row_list r)) 0) k 0 ≡ get_or r.choices k 0
      by k (inl l) = get_or_append_left (row_list r) (replicate (12 - length (row_list r)) 0) 0 k (omega (arith, length_row)) ∙ get_or-take r.count r.choices k 0 l
      by k (inr l) =
          get_or-append_right (row_list r) (replicate (12 - length (row_list r)) 0) r.count k 0 length_row l
          ∙ zero_at (12 - length (row_list r)) (k - r.count)
          ∙ sym (h.zeros k l)

  -- it is the row of its list
  pub row_again : row_of (row_list r) ≡ r
  row_again = λ i. record { count = length_row i; choices = choices_row i }

-- the row of a list
pub list_again : (list : List ℕ) → row_list (row_of list) ≡ list
list_again list = take_at list (replicate (12 - length list) 0) (length list) refl

pub neat_of : (list : List ℕ) → length list ≤ 12 → Neat (row_of list)
neat_of list short =
    record {
      few = short;
      long = simp (length-append, length-replicate) (omega arith);
      zeros = λ k l. get_or-append_right list (replicate (12 - length list) 0) (length list) k 0 refl l ∙ zero_at (12 - length list) (k - length list);
    }

pub row_made : (xs choices : List ℕ) (n : ℕ) → n ≡ length xs → length xs ≤ 12 → length choices ≡ 12 → ((k : ℕ) → k < 12 → get_or choices k 0 ≡ get_or xs k 0) → record { count = n; choices = choices } ≡ row_of xs
row_made xs choices n a short long h =
    let c : choices ≡ xs ++ replicate (12 - length xs) 0 =
    ext_get_or 0 choices (xs ++ replicate (12 - length xs) 0)
    (simp (length-append, length-replicate) (omega (arith, long)))
    (λ k l. h k (omega (arith, long)) ∙ sym (padded_at xs (12 - length xs) k)) in
    λ j. record { count = a j; choices = c j }

-- memory that held as many entries before is beyond them as it was at first
pub holding_again : (e f : Entries) (memory : List Row) → trainees f ≡ trainees e → holding f (holding e memory) ≡ holding f memory
holding_again e f memory t =
    ap (λ d. map row_of f.lists ++ d)
    (ap (λ k. drop k (holding e memory)) t
    ∙ drop_at (map row_of e.lists) (drop (trainees e) memory) (trainees e) (length-map e.lists row_of)
    ∙ ap (λ k. drop k memory) (sym t))

-- neat rows hold their lists, and beyond them what other memory has there
pub held : (rows memory : List Row) (T : ℕ) (places : List ℕ) → T ≤ length rows → AllNeat rows T → drop T rows ≡ drop T memory → rows ≡ holding (entries_of rows T places) memory
held rows memory T places room neat e =
    sym (take-append-drop T rows)
    ∙ ap (λ (a : List Row). a ++ drop T rows) first
    ∙ rw (trainees_are rows T room, e)
  where
    many : length (take T rows) ≡ T
    many = length-take-le T rows room

    first : take T rows ≡ map row_of (map row_list (take T rows))
    first =
        ext_get_or (record { count = 0; choices = [] }) (take T rows) (map row_of (map row_list (take T rows)))
        (sym (length-map (map row_list (take T rows)) row_of ∙ length-map (take T rows) row_list))
        (λ t l.
        let m : t < T = omega (arith, many) in
        get_or-take T rows t (record { count = 0; choices = [] }) m
        ∙ sym (row_again (row_at rows t) (neat t m))
        ∙ sym (get_or-map row_of (map row_list (take T rows)) t [] (record { count = 0; choices = [] }) (omega (arith, trainees_are rows T room)) ∙ ap row_of (list_at rows T t room m)))

-- a row that is written changes one list
module _ (rows : List Row) (T : ℕ) (places : List ℕ) (room : T ≤ length rows) (neat : AllNeat rows T) (law : Lawful (entries_of rows T places)) (t : ℕ) (l : t < T) (list : List ℕ) (s : Strict (length places) list) where
  pub lists_then : map row_list (take T (set rows t (row_of list))) ≡ set (map row_list (take T rows)) t list
  lists_then =
      ap (map row_list) (take-set-lt T rows t (row_of list) l)
      ∙ map-set row_list (take T rows) t (row_of list)
      ∙ ap (λ (xs : List ℕ). set (map row_list (take T rows)) t xs) (list_again list)

  pub law_then : Lawful (entries_of (set rows t (row_of list)) T places)
  law_then =
      rw lists_then
      (lawful_listed (record { entries = entries_of rows T places; rules = plain_rules (length places) }) t list law (omega (arith, trainees_are rows T room)) s)

  pub neat_then : AllNeat (set rows t (row_of list)) T
  neat_then u m = by (cases_eq u t)
    where
      by : (u ≡ t) ⊎ (u ≡ t → ⊥) → Neat (row_at (set rows t (row_of list)) u)
      by (inl e) = rw (e, get_or-set_same rows t (row_of list) (record { count = 0; choices = [] }) (omega arith)) (neat_of list s.short)
      by (inr e) = rw (get_or-set_other rows t u (row_of list) (record { count = 0; choices = [] }) e) (neat u m)

-- rows of empty lists
module _ (rows : List Row) (T : ℕ) (clear : take T rows ≡ replicate T (row_of [])) where
  pub lists_none : map row_list (take T rows) ≡ replicate T []
  lists_none = rw (clear, map-replicate row_list T (row_of []))

  pub neat_none : AllNeat rows T
  neat_none t l =
      rw (sym (get_or-take T rows t (record { count = 0; choices = [] }) l) ∙ ap (λ (x : List Row). row_at x t) clear ∙ get_or-replicate T t (row_of []) (record { count = 0; choices = [] }) l)
      (neat_of [] (omega arith))
