-- How the records change by a write behind the newest, and by a step of the head.
use Rattle.std.proofs.Common.{◌≡◌, ℕ, ◌+◌, ◌-◌, ◌<◌, ◌≤◌, ◌⊎◌, List, [], ◌∷◌, ◌++◌, length, get_or, take, drop, set, sym, ap, ◌∙◌, inl, inr, append_assoc, add-one, arith, length-append, length-drop, length-take}
use lib.Seq.{take-set-lt}
use Rattle.std.proofs.lemmas.List.{take-set-le, drop-set-add, drop-set-lt, set-append_left, set-append_right, take_more_set, take_more, drop_more, take-append-le, get_or_append_left, get_or-append_right, get_or-drop, get_or-take, length-take-le, take_all, drop_all, append-nil}
use Rattle.worklist.specs.declared.WorkList.{WorkList}
use Rattle.worklist.specs.Records.{turned, contents, records, room}

module _ {T : Type 0} where
  pub length_turned : (s : List T) (h : ℕ) → h ≤ length s → length (turned s h) ≡ length s
  length_turned s h l = simp (length-append, length-drop, length-take) (omega arith)

  take_one_more : (x : T) (n : ℕ) (xs : List T) → take (n + 1) (x ∷ xs) ≡ x ∷ take n xs
  take_one_more x n xs = rw add-one

  -- a write at the n-th place from the head
  pub write_near : (s : List T) (h n : ℕ) (x : T) → h + n < length s → turned (set s (h + n) x) h ≡ set (turned s h) n x
  write_near s h n x l =
      let a = drop-set-add h s n x in
      let b = take-set-le h s (h + n) x (omega arith) in
      let d : n < length (drop h s) = simp length-drop (omega arith) in
      let e = set-append_left (drop h s) (take h s) n x d in
      cc

  pub write_far : (s : List T) (h n : ℕ) (x : T) → h ≤ length s → length s - h ≤ n → n - (length s - h) < h → turned (set s (n - (length s - h)) x) h ≡ set (turned s h) n x
  write_far s h n x l m k =
      let a = drop-set-lt h s (n - (length s - h)) x k in
      let b = take-set-lt h s (n - (length s - h)) x k in
      let e = set-append_right (drop h s) (take h s) (length s - h) n x (length-drop h s) m in
      cc

  pub read_near : (s : List T) (h n : ℕ) (d : T) → h + n < length s → get_or (turned s h) n d ≡ get_or s (h + n) d
  read_near s h n d l =
      let k : n < length (drop h s) = simp length-drop (omega arith) in
      get_or_append_left (drop h s) (take h s) d n k ∙ get_or-drop h s n d

  pub read_far : (s : List T) (h n : ℕ) (d : T) → length s - h ≤ n → n - (length s - h) < h → get_or (turned s h) n d ≡ get_or s (n - (length s - h)) d
  read_far s h n d m k =
      get_or-append_right (drop h s) (take h s) (length s - h) n d (length-drop h s) m ∙ get_or-take h s (n - (length s - h)) d k

  -- at the slot that stands n places behind the head
  pub write_at :
      (s : List T) (h n i : ℕ) (x : T) → h < length s → n < length s → i < length s → (i ≡ h + n) ⊎ (i + length s ≡ h + n) →
      turned (set s i x) h ≡ set (turned s h) n x
  write_at s h n i x l m k (inl e) = rw e (write_near s h n x (omega arith))
  write_at s h n i x l m k (inr e) = let j : i ≡ n - (length s - h) = omega arith in rw j (write_far s h n x (omega arith) (omega arith) (omega arith))

  pub read_at :
      (s : List T) (h n i : ℕ) (d : T) → h < length s → n < length s → i < length s → (i ≡ h + n) ⊎ (i + length s ≡ h + n) →
      get_or (turned s h) n d ≡ get_or s i d
  read_at s h n i d l m k (inl e) = rw e (read_near s h n d (omega arith))
  read_at s h n i d l m k (inr e) = let j : i ≡ n - (length s - h) = omega arith in rw j (read_far s h n d (omega arith) (omega arith))

  -- one more behind the newest
  pub push_more : (s s' : List T) (h n : ℕ) (x : T) → h ≤ length s → n < length s → turned s' h ≡ set (turned s h) n x → contents s' h (n + 1) ≡ contents s h n ++ x ∷ []
  push_more s s' h n x l k e =
      let m : n < length (turned s h) = rw (length_turned s h l) k in
      ap (take (n + 1)) e ∙ take_more_set (turned s h) n x m

  pub newest : (s : List T) (h n : ℕ) (x : T) → h ≤ length s → n < length s → get_or (turned s h) n x ≡ x → contents s h (n + 1) ≡ contents s h n ++ x ∷ []
  newest s h n x l k e =
      let m : n < length (turned s h) = rw (length_turned s h l) k in
      let t = take_more (turned s h) n x m in
      cc

  pub step : (s : List T) (h : ℕ) (d : T) → h < length s → turned s h ++ get_or s h d ∷ [] ≡ get_or s h d ∷ turned s (h + 1)
  step s h d l =
      let a = drop_more s h d l in
      let b = take_more s h d l in
      let e = append_assoc (drop (h + 1) s) (take h s) (get_or s h d ∷ []) in
      cc

  pub oldest : (s : List T) (h n : ℕ) (d : T) → h < length s → n < length s → contents s h (n + 1) ≡ get_or s h d ∷ contents s (h + 1) n
  oldest s h n d l k =
      let m : n ≤ length (drop (h + 1) s ++ take h s) = simp (length-append, length-drop, length-take) (omega arith) in
      let a = drop_more s h d l in
      let b = take_more s h d l in
      let e = append_assoc (drop (h + 1) s) (take h s) (get_or s h d ∷ []) in
      let f = take-append-le n (drop (h + 1) s ++ take h s) (get_or s h d ∷ []) m in
      let o = take_one_more (get_or s h d) n (drop (h + 1) s ++ take h s) in
      cc

  pub round : (s : List T) → turned s (length s) ≡ turned s 0
  round s =
      let a = drop_all (length s) s (omega arith) in
      let b = take_all (length s) s (omega arith) in
      let e = append-nil s in
      cc

  -- the head after a step, past the last slot or not
  pub head_on : (s : List T) (h h' : ℕ) → h < length s → (h' ≡ h + 1) ⊎ (h' + length s ≡ h + 1) → turned s h' ≡ turned s (h + 1)
  head_on s h h' l (inl e) = ap (turned s) e
  head_on s h h' l (inr e) =
      let a : h' ≡ 0 = omega arith in
      let b : length s ≡ h + 1 = omega arith in
      ap (turned s) a ∙ sym (round s) ∙ ap (turned s) b

  -- the two takes, as the code counts
  pub oldest_at : (s : List T) (h h' len : ℕ) (d : T) → h < length s → 0 < len → len ≤ length s → turned s h' ≡ turned s (h + 1) → contents s h len ≡ get_or s h d ∷ contents s h' (len - 1)
  oldest_at s h h' len d l p k e =
      let m : (len - 1) + 1 ≡ len = omega arith in
      let o = oldest s h (len - 1) d l (omega arith) in
      cc

  pub newest_at : (s : List T) (h len : ℕ) (x : T) → h ≤ length s → 0 < len → len ≤ length s → get_or (turned s h) (len - 1) x ≡ x → contents s h len ≡ contents s h (len - 1) ++ x ∷ []
  newest_at s h len x l p k e =
      let m : (len - 1) + 1 ≡ len = omega arith in
      let o = newest s h (len - 1) x l (omega arith) e in
      cc

  -- what a work list's own invariant says of its records
  pub length_records : (w : WorkList T) → length (records w) ≡ w.len
  length_records w =
      let h : w.head ≤ length w.slots.now = omega (arith, w.within.1) in
      let l : w.len ≤ length (turned w.slots.now w.head) = rw (length_turned w.slots.now w.head h) w.within.0 in
      length-take-le w.len (turned w.slots.now w.head) l

  pub records_room : (w : WorkList T) → length (records w) ≤ room w
  records_room w = rw (length_records w) w.within.0
