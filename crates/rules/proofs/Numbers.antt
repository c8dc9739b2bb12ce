-- The numbers of a list of practices, as code reads them.
use Rattle.std.proofs.Common.{◌≡◌, ℕ, ◌<◌, List, length, get_or, take, sym}
use lib.ListN.{length-map}
use Rattle.std.proofs.lemmas.List.{get_or-map, take-map}
use Rattle.rules.specs.declared.words.Practice.{Practice}
use Rattle.rules.specs.Questions.{numbers}

pub number : (list : List Practice) (i : ℕ) → i < length list → get_or (numbers list) i 0 ≡ (get_or list i (record { 0 = 0 })).0
number list i l = get_or-map (λ (p : Practice). p.0) list i (record { 0 = 0 }) 0 l

pub length_numbers : (list : List Practice) → length (numbers list) ≡ length list
length_numbers list = length-map list (λ (p : Practice). p.0)

pub front_numbers : (list : List Practice) (i : ℕ) → numbers (take i list) ≡ take i (numbers list)
front_numbers list i = sym (take-map (λ (p : Practice). p.0) i list)
