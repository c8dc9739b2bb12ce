-- Parts written one behind another.
use Rattle.std.proofs.Common.{◌≡◌, ℕ, zero, suc, ◌+◌, ◌-◌, ◌<◌, ◌≤◌, List, [], ◌∷◌, ◌++◌, length, get_or, take, drop, set, sym, refl, ap, ◌∙◌, arith}
use borrow.Rule.Slice.PartMut.{put_mid}
use Rattle.std.specs.List.{flat_map}
use Rattle.std.proofs.lemmas.List.{take_at, drop_at, drop-drop, append_assoc, append-nil, length-append, drop_all, length-drop, take_more, flat_map_more}
use Rattle.sheet_writer.specs.Over.{over}

-- `out` has P over E, and Y is written straight behind P
pub behind : (P Y E out ys : List ℕ) (n k : ℕ) → length P ≡ n → length Y ≡ k → out ≡ over P E → ys ≡ Y → put_mid n k out ys ≡ over (P ++ Y) E
behind P Y E out ys n k l m e f =
    let a : take n out ≡ P = ap (take n) e ∙ take_at P (drop (length P) E) n l in
    let b : drop n out ≡ drop n E = ap (drop n) e ∙ drop_at P (drop (length P) E) n l ∙ ap (λ (j : ℕ). drop j E) l in
    let d : drop k (drop n out) ≡ drop (n + k) E = ap (drop k) b ∙ drop-drop k n E in
    let all : n + k ≡ length (P ++ Y) = omega (arith, length-append P Y) in
    let j = append_assoc P Y (drop (n + k) E) in
    cc

-- nothing is left of what was there
pub filled : (P E : List ℕ) → length E ≤ length P → over P E ≡ P
filled P E l = ap (λ (s : List ℕ). P ++ s) (drop_all (length P) E l) ∙ append-nil P

-- one byte behind P
set_over : (P E : List ℕ) (b : ℕ) → length P < length E → set (over P E) (length P) b ≡ over (P ++ (b ∷ [])) E
set_over [] [] b l = absurd (omega arith)
set_over [] (x ∷ E) b l = refl
set_over (p ∷ P) [] b l = absurd (omega arith)
set_over (p ∷ P) (x ∷ E) b l = ap (λ (s : List ℕ). p ∷ s) (set_over P E b (omega arith))

pub set_behind : (P E out : List ℕ) (n b : ℕ) → length P ≡ n → n < length E → out ≡ over P E → set out n b ≡ over (P ++ (b ∷ [])) E
set_behind P E out n b l w e =
    ap (λ (s : List ℕ). set s n b) e ∙ ap (λ (m : ℕ). set (over P E) m b) (sym l) ∙ set_over P E b (omega arith)

-- two bytes, and then the rest
pub two_parts : (X Y out xs ys : List ℕ) → length X ≡ 2 → length out ≡ length (X ++ Y) → xs ≡ X → ys ≡ Y → put_mid 2 (length (put_mid 0 2 out xs) - 2) (put_mid 0 2 out xs) ys ≡ X ++ Y
two_parts X Y out xs ys l m e f =
    let first : put_mid 0 2 out xs ≡ over X out = behind [] X out out xs 0 2 refl l refl e in
    let all = length-append X Y in
    let size : length (put_mid 0 2 out xs) ≡ length out = ap length first ∙ length-append X (drop (length X) out) ∙ omega (arith, length-drop (length X) out) in
    behind X Y out (put_mid 0 2 out xs) ys 2 (length (put_mid 0 2 out xs) - 2) l (omega arith) first f ∙ filled (X ++ Y) out (omega arith)

-- what is left for the rest
pub room_behind : (X Y out xs : List ℕ) → length X ≡ 2 → length out ≡ length (X ++ Y) → xs ≡ X → length (drop 2 (put_mid 0 2 out xs)) ≡ length Y
room_behind X Y out xs l m e =
    let first : put_mid 0 2 out xs ≡ over X out = behind [] X out out xs 0 2 refl l refl e in
    ap (λ (s : List ℕ). length (drop 2 s)) first ∙ ap length (drop_at X (drop (length X) out) 2 l) ∙ omega (arith, length-drop (length X) out, length-append X Y)

-- one more of a kind
module _ {X : Type 0} (shown : X → List ℕ) (d : X) where
  pub joined_next : (xs : List X) (i : ℕ) → i < length xs → flat_map shown (take i xs) ++ shown (get_or xs i d) ≡ flat_map shown (take (i + 1) xs)
  joined_next xs i l = flat_map_more shown [] (take i xs) (get_or xs i d) ∙ ap (flat_map shown) (sym (take_more xs i d l))

  pub length_next : (xs : List X) (i : ℕ) → i < length xs → length (flat_map shown (take (i + 1) xs)) ≡ length (flat_map shown (take i xs)) + length (shown (get_or xs i d))
  length_next xs i l = sym (ap length (joined_next xs i l)) ∙ length-append (flat_map shown (take i xs)) (shown (get_or xs i d))

  pub room_next : (xs : List X) (i : ℕ) → i < length xs → length (flat_map shown (take i xs)) + length (shown (get_or xs i d)) ≤ length (flat_map shown xs)
  room_next [] i l = absurd (omega arith)
  room_next (x ∷ xs) zero l = omega (arith, length-append (shown x) (flat_map shown xs))
  room_next (x ∷ xs) (suc i) l =
      omega (arith, room_next xs i (omega arith), length-append (shown x) (flat_map shown xs), length-append (shown x) (flat_map shown (take i xs)))

-- one byte, and then the rest
pub first_and_rest : (out : List ℕ) (n : ℕ) (list ys : List ℕ) → n ≡ length list → length out ≡ suc (length list) → ys ≡ list → put_mid 1 (length (set out 0 n) - 1) (set out 0 n) ys ≡ length list ∷ list
first_and_rest [] n list ys m l e = absurd (omega arith)
first_and_rest (x ∷ out) n list ys m l e = rw (m, e) (ap (λ (s : List ℕ). length list ∷ s) (ap (λ (s : List ℕ). list ++ s) (drop_all (suc (length out) - 1) out (omega arith)) ∙ append-nil list))

pub length_over : (P E : List ℕ) → length P ≤ length E → length (over P E) ≡ length E
length_over P E l = omega (arith, length-append P (drop (length P) E), length-drop (length P) E)

-- what stands at the front
pub front : (Y E out : List ℕ) (n : ℕ) → n ≡ length Y → out ≡ over Y E → take n out ≡ Y
front Y E out n l e = ap (take n) e ∙ take_at Y (drop (length Y) E) n (sym l)
