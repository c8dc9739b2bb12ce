-- An array that is made by a function of the index.
use Rattle.std.proofs.Common.{◌≡◌, ℕ, zero, suc, ◌+◌, ◌<◌, ◌≤◌, List, get_or, ◌∙◌, ⊎_elim, arith}
use Rattle.std.specs.Array.{IsFromFnResultFrom}
use Rattle.std.proofs.lemmas.Bool.{cases_eq}
use denote.Param.Members.{Mut, Called}

-- at a closure that changes nothing
pub filled : {F B : Type 0} (g : Mut F (ℕ × Unit {0}) B) (h : ℕ → B) (f : F) → ((i : ℕ) (y : B) (q : F) → Called g f (i, tt) y q → (y ≡ h i) × (q ≡ f)) → (ys : List B) (i n : ℕ) → IsFromFnResultFrom g f ys i n → (k : ℕ) (d : B) → i ≤ k → k < i + n → get_or ys k d ≡ h k
filled g h f gives ys i zero e k d a b = absurd (omega arith)
filled {F} {B} g h f gives ys i (suc n) e k d a b =
    ⊎_elim
    (λ (q : k ≡ i). rw q (e.2.1 d ∙ (gives i e.1 e.0 e.3).0))
    (λ (q : k ≡ i → ⊥). filled g h f gives ys (i + 1) n (rw (gives i e.1 e.0 e.3).1 at e.4) k d (omega arith) (omega arith))
    (cases_eq k i)
