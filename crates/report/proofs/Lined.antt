-- Lines for trainees one after another, and how long a report can be.
use Rattle.std.proofs.Common.{◌≡◌, ℕ, zero, suc, ◌+◌, ◌*◌, ◌<◌, ◌≤◌, List, [], ◌∷◌, ◌++◌, length, get_or, take, drop, Some, None, codes, decimal, zero-add, sym, refl, ap, ◌∙◌, arith}
use Rattle.std.specs.List.{range_with_len, flat_map}
use Rattle.std.proofs.lemmas.List.{append_assoc, length-append, length_push, map-id, append-nil, take_at}
use Rattle.std.proofs.lemmas.List.Concat.{length-flat_map}
use Rattle.std.proofs.lemmas.List.Sums.{sum_by-le}
use Rattle.std.proofs.lemmas.List.Elements.{All-from_get_or}
use Rattle.std.proofs.lemmas.Grind.{flat_map-append}
use Rattle.std.proofs.lemmas.List.FromFn.{map-range_with_len_more, length-range_with_len, get_or-range_with_len, length-map-range_with_len, get_or-map-range_with_len}
use Rattle.std.proofs.lemmas.Fmt.{length-decimal-le}
use Rattle.std.proofs.lemmas.Bool.{ne_eqb}
use Rattle.voting.specs.Placements.{Seat, Placement}
use Rattle.allotment.specs.Bytes.{seat_of_byte, byte_of_seat, offered_by, bytes_of, written}
use Rattle.texts.specs.Text.{kept}
use Rattle.texts.proofs.Keeping.{kept_kept}
use Rattle.texts.specs.Lines.{line, seat_word, seat_words, seat_lines}

-- one line more
pub lines_more : (n : ℕ) (M : Placement) → seat_lines (n + 1) M ≡ seat_lines n M ++ line (seat_words n (M n))
lines_more n M =
    let e : range_with_len 0 (n + 1) ≡ range_with_len 0 n ++ n ∷ [] =
    sym (map-id (range_with_len 0 (n + 1))) ∙ map-range_with_len_more (λ t. t) 0 n n (omega arith) ∙ ap (λ xs. xs ++ n ∷ []) (map-id (range_with_len 0 n))
    in
    rw e (simp (flat_map-append, append-nil))

-- a line, and the lines behind it
pub headed : (start words lines now' next : List ℕ) → now' ≡ kept (start ++ words) → next ≡ kept (now' ++ 10 ∷ lines) → next ≡ kept (start ++ (line words ++ lines))
headed start words lines now' next h k = simp (k, h, kept_kept, append_assoc)

-- lines of placements that give the first n trainees the same seats
pub lines_alike : (n : ℕ) (M N : Placement) → ((t : ℕ) → t < n → M t ≡ N t) → seat_lines n M ≡ seat_lines n N
lines_alike n M N h = go 0 n (λ t l. h t (omega arith))
  where
    go : (a m : ℕ) → ((t : ℕ) → t < a + m → M t ≡ N t) → flat_map (λ t. line (seat_words t (M t))) (range_with_len a m) ≡ flat_map (λ t. line (seat_words t (N t))) (range_with_len a m)
    go a zero k = refl
    go a (suc m) k =
        ap (λ s. line (seat_words a s) ++ flat_map (λ t. line (seat_words t (M t))) (range_with_len (a + 1) m)) (k a (omega arith)) ∙
        ap (λ x. line (seat_words a (N a)) ++ x) (go (a + 1) m (λ t l. k t (omega arith)))

-- a practice whose number a byte can hold beside 255
abbrev pub Small : Seat → Type 0
Small None = Unit {0}
Small (Some p) = p < 100

pub byte_back : (s : Seat) → Small s → seat_of_byte (byte_of_seat s) ≡ s
byte_back None h = refl
byte_back (Some p) h = rw (ne_eqb p 255 (omega arith))

-- what the bytes of a placement offer is that placement
pub bytes_back : (n : ℕ) (M : Placement) → ((t : ℕ) → t < n → Small (M t)) → (t : ℕ) → t < n → offered_by (bytes_of n M) t ≡ M t
bytes_back n M h t l = ap seat_of_byte (get_or-map-range_with_len (λ u. byte_of_seat (M u)) 0 n t t 255 l (omega arith)) ∙ byte_back (M t) (h t l)

pub written_front : (n : ℕ) (M : Placement) (buffer : List ℕ) → take n (written n M buffer) ≡ bytes_of n M
written_front n M buffer = take_at (bytes_of n M) (drop n buffer) n (length-map-range_with_len (λ t. byte_of_seat (M t)) 0 n)

-- how long lines are
word_short : (s : Seat) → Small s → length (seat_word s) ≤ 3
word_short None h = omega arith
word_short (Some p) h = length-decimal-le 3 p (omega arith) (omega arith) (omega arith)

line_short : (t : ℕ) (s : Seat) → t < 400 → Small s → length (line (seat_words t s)) ≤ 8
line_short t s l h =
    omega (
      arith,
      length_push (seat_words t s) 10,
      length-append (decimal t ++ codes " ") (seat_word s),
      length-append (decimal t) (codes " "),
      length-decimal-le 3 t (omega arith) (omega arith) (omega arith),
      word_short s h,
    )

pub lines_short : (n : ℕ) (M : Placement) → n ≤ 400 → ((t : ℕ) → t < n → Small (M t)) → length (seat_lines n M) ≤ 8 * n
lines_short n M l h =
    omega (
      arith,
      length-flat_map (λ t. line (seat_words t (M t))) (range_with_len 0 n),
      length-range_with_len 0 n,
      sum_by-le (λ t. length (line (seat_words t (M t)))) 8 (range_with_len 0 n) (All-from_get_or (λ t. length (line (seat_words t (M t))) ≤ 8) (range_with_len 0 n) 0 each),
    )
  where
    each : (i : ℕ) → i < length (range_with_len 0 n) → length (line (seat_words (get_or (range_with_len 0 n) i 0) (M (get_or (range_with_len 0 n) i 0)))) ≤ 8
    each i k =
        let j : i < n = omega (arith, k, length-range_with_len 0 n) in
        rw (get_or-range_with_len 0 n i 0 j, zero-add) (line_short i (M i) (omega arith) (h i j))
