-- Seats written one after another into a buffer.
use Rattle.std.proofs.Common.{◌≡◌, ℕ, ◌+◌, ◌%◌, ◌<◌, ◌≤◌, List, [], ◌∷◌, ◌++◌, length, get_or, take, drop, set, Some, None, Option, sym, refl, ap, ◌∙◌, subst, zero-add, arith}
use Rattle.std.proofs.lemmas.List.FromFn.{length-map-range_with_len, get_or-map-range_with_len, map-range_with_len_more}
use Rattle.std.proofs.lemmas.List.{append_assoc, drop_more, set_at, ext_get_or, get_or-take, length-take-le}
use Rattle.rules.specs.declared.words.Practice.{Practice}
use Rattle.voting.specs.Placements.{Seat, Placement, stored, seating}
use Rattle.allotment.specs.Bytes.{byte_of_seat, bytes_of, written}
use Rattle.allotment.specs.Counts.{Below}

-- a practice that fits a byte is not cut
pub byte_whole : (s : Seat) → Below 255 s → byte_of_seat s % 256 ≡ byte_of_seat s
byte_whole None h = refl
byte_whole (Some p) h = omega arith

pub write_more :
    (M : Placement) (B : List ℕ) (t b : ℕ) → t < length B → b ≡ byte_of_seat (M t) →
    set (written t M B) t b ≡ written (t + 1) M B
write_more M B t b l e =
    ap (λ xs. set (bytes_of t M ++ xs) t b) (drop_more B t 0 l) ∙
    set_at (bytes_of t M) (get_or B t 0) (drop (t + 1) B) b t (length-map-range_with_len (λ k. byte_of_seat (M k)) 0 t) ∙
    ap (λ x. bytes_of t M ++ x ∷ drop (t + 1) B) e ∙
    sym (append_assoc (bytes_of t M) (byte_of_seat (M t) ∷ []) (drop (t + 1) B)) ∙
    ap (λ xs. xs ++ drop (t + 1) B) (sym (map-range_with_len_more (λ k. byte_of_seat (M k)) 0 t t (zero-add t)))

-- only the seats that are written count
pub written_same : (n : ℕ) (M N : Placement) (B : List ℕ) → ((t : ℕ) → t < n → M t ≡ N t) → written n M B ≡ written n N B
written_same n M N B h =
    ap (λ xs. xs ++ drop n B)
    (
    ext_get_or 0 (bytes_of n M) (bytes_of n N) (sized M ∙ sym (sized N))
    (λ t l. let k : t < n = omega (arith, sized M) in at M t k ∙ ap byte_of_seat (h t k) ∙ sym (at N t k))
    )
  where
    sized : (M : Placement) → length (bytes_of n M) ≡ n
    sized M = length-map-range_with_len (λ t. byte_of_seat (M t)) 0 n

    at : (M : Placement) (t : ℕ) → t < n → get_or (bytes_of n M) t 0 ≡ byte_of_seat (M t)
    at M t k = get_or-map-range_with_len (λ t. byte_of_seat (M t)) 0 n t t 0 k (zero-add t)

-- the first n of the seats, as a slice
module _ (n : ℕ) (seats : List (Option Practice)) (l : n ≤ length seats) where
  pub front : (t : ℕ) → t < n → seating (take n seats) t ≡ seating seats t
  front t k = ap stored (get_or-take n seats t None k)

  pub written_front : (B B' : List ℕ) → B' ≡ written (length (take n seats)) (seating (take n seats)) B → B' ≡ written n (seating seats) B
  written_front B B' e =
      e ∙ ap (λ k. written k (seating (take n seats)) B) (length-take-le n seats l) ∙ written_same n (seating (take n seats)) (seating seats) B front

  pub below_front : ((t : ℕ) → t < n → Below 255 (seating seats t)) → (t : ℕ) → t < length (take n seats) → Below 255 (seating (take n seats) t)
  below_front h t k = let m : t < n = omega (arith, length-take-le n seats l) in subst (Below 255) (sym (front t m)) (h t m)
