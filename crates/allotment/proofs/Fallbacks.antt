-- The weight of a seat, read off a list of practices.
use Rattle.std.specs.List.{find}
use Rattle.std.proofs.Common.{◌≡◌, ℕ, ◌<◌, true, false, cond, not, ◌&&◌, eqb, ltb, List, [], ◌∷◌, length, get_or, Option, sym, refl, ap, ◌∙◌, arith}
use Rattle.std.proofs.lemmas.Bool.{cond-true, cond-false}
use Rattle.rules.specs.declared.words.Practice.{Practice}
use Rattle.rules.specs.Questions.{numbers}
use Rattle.voting.specs.Placements.{Seat, stored, sits}
use Rattle.allotment.specs.Vectors.{no_practice}
use Rattle.allotment.specs.Weights.{fallback_on, fallback_weight, by_firsts}
use Rattle.allotment.proofs.Listed.{found_earliest}

module _ (counts places : ℕ → ℕ) (ps : List Practice) (s : Seat) where
  listed :
      0 < length ps →
      by_firsts counts places (numbers ps) s ≡
      cond (sits s (get_or ps 0 no_practice).0) 161604
      (cond (ltb (places (get_or ps 0 no_practice).0) (counts (get_or ps 0 no_practice).0)) (fallback_weight (fallback_on counts places (numbers ps)) s) 0)
  listed l = go ps l
    where
      go :
          (ps : List Practice) → 0 < length ps →
          by_firsts counts places (numbers ps) s ≡
          cond (sits s (get_or ps 0 no_practice).0) 161604
          (cond (ltb (places (get_or ps 0 no_practice).0) (counts (get_or ps 0 no_practice).0)) (fallback_weight (fallback_on counts places (numbers ps)) s) 0)
      go [] l = absurd (omega arith)
      go (x ∷ xs) l = refl

  pub weighs_fallback :
      (w : ℕ) (o : Option Practice) → 0 < length ps → sits s (get_or ps 0 no_practice).0 ≡ false →
      ltb (places (get_or ps 0 no_practice).0) (counts (get_or ps 0 no_practice).0) ≡ true →
      o ≡ find (λ (p : Practice). not (eqb (get_or ps 0 no_practice).0 p.0) && ltb (counts p.0) (places p.0)) ps → w ≡ fallback_weight (stored o) s →
      w ≡ by_firsts counts places (numbers ps) s
  weighs_fallback w o l k m f e =
      e ∙ ap (λ q. fallback_weight q s) (ap stored f ∙ fallen ps l) ∙ sym (listed l ∙ cond-false _ _ _ k ∙ cond-true _ _ _ m)
    where
      fallen :
          (ps : List Practice) → 0 < length ps →
          stored (find (λ (p : Practice). not (eqb (get_or ps 0 no_practice).0 p.0) && ltb (counts p.0) (places p.0)) ps) ≡ fallback_on counts places (numbers ps)
      fallen [] l = absurd (omega arith)
      fallen (x ∷ xs) l = found_earliest (λ q. not (eqb x.0 q) && ltb (counts q) (places q)) (x ∷ xs)

  pub weighs_unlisted : length ps ≡ 0 → 0 ≡ by_firsts counts places (numbers ps) s
  weighs_unlisted e = go ps e
    where
      go : (ps : List Practice) → length ps ≡ 0 → 0 ≡ by_firsts counts places (numbers ps) s
      go [] e = refl
      go (x ∷ xs) e = absurd (omega arith)

  pub weighs_nothing :
      0 < length ps → sits s (get_or ps 0 no_practice).0 ≡ false →
      ltb (places (get_or ps 0 no_practice).0) (counts (get_or ps 0 no_practice).0) ≡ false → 0 ≡ by_firsts counts places (numbers ps) s
  weighs_nothing l k m = sym (listed l ∙ cond-false _ _ _ k ∙ cond-false _ _ _ m)
