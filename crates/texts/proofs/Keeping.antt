-- What is kept when one piece is put behind another.
use Rattle.std.proofs.Common.{◌≡◌, ℕ, ◌+◌, ◌<◌, ◌≤◌, ◌⊎◌, List, [], ◌∷◌, ◌++◌, length, min, take, sym, ap, ◌∙◌, inl, inr, arith}
use Rattle.std.proofs.lemmas.List.{length_push, length-take-le, take_all, take-take, take-append-le, take_min}
use Rattle.std.proofs.lemmas.Bool.{cases_lt}
use Rattle.std.proofs.Math.Seq.{take-append-add}
use Rattle.texts.specs.Text.{kept}

pub kept_short : (xs : List ℕ) → length xs ≤ 4096 → kept xs ≡ xs
kept_short xs h = take_all 4096 xs h

-- what was dropped before makes no difference
pub kept_kept : (xs ys : List ℕ) → kept (kept xs ++ ys) ≡ kept (xs ++ ys)
kept_kept xs ys = by (cases_lt 4096 (length xs))
  where
    by : (4096 < length xs) ⊎ (length xs ≤ 4096) → kept (kept xs ++ ys) ≡ kept (xs ++ ys)
    by (inr h) = ap (λ z. kept (z ++ ys)) (kept_short xs h)
    by (inl h) =
        let l : length (kept xs) ≡ 4096 = length-take-le 4096 xs (omega arith) in
        take-append-le 4096 (kept xs) ys (omega arith) ∙ take-take 4096 4096 xs (omega arith) ∙ sym (take-append-le 4096 xs ys (omega arith))

-- one byte, where there is room and where there is none
pub pushed : (xs : List ℕ) (byte : ℕ) → length xs < 4096 → xs ++ byte ∷ [] ≡ kept (xs ++ byte ∷ [])
pushed xs byte h = sym (kept_short (xs ++ byte ∷ []) (omega (arith, length_push xs byte)))

pub dropped : (xs : List ℕ) (byte : ℕ) → length xs ≡ 4096 → xs ≡ kept (xs ++ byte ∷ [])
dropped xs byte h = sym (take-append-le 4096 xs (byte ∷ []) (omega arith) ∙ take_all 4096 xs (omega arith))

-- as many bytes as there is room for, behind what there is
pub filled : (xs ys : List ℕ) (room : ℕ) → room + length xs ≡ 4096 → xs ++ take (min room (length ys)) ys ≡ kept (xs ++ ys)
filled xs ys room h =
    let e : 4096 ≡ length xs + room = omega arith in
    rw take_min (sym (ap (λ n. take n (xs ++ ys)) e ∙ take-append-add xs ys room))
