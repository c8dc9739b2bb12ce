use Rattle.std.proofs.Common.{ℕ, ◌≤◌, true, false, List, length, take, is_some, sym, ap, ◌∙◌, arith}
use Rattle.std.specs.List.{count_by}
use Rattle.rules.specs.Meaning.{Entries}
use Rattle.voting.specs.Placements.{Seat, Placement, seating, seated}
use Rattle.allotment.specs.Copies.{entries}
use Rattle.allotment.specs.Weights.{firsts_in, places_in, by_firsts}
use Rattle.allotment.proofs.Copying.{lawful_in, trainees_in}
use Rattle.allotment.proofs.Deciding.{holds_weigh, beaten_by_one}
use Rattle.allotment.proofs.Fullest.{fullest_by_weights}
use Rattle.allotment.proofs.Sums.{all_weigh, one_weighs_nothing, seated_front}
use Rattle.allotment.proofs.finding.decide.Goals as goal

pub returns-then-not-all_content : goal.returns-then-not-all_content
returns-then-not-all_content c =
    let L = c.args.lists.now in
    let e : Entries = entries L in
    let M : Placement = seating c.args.seats in
    let b = c.args.weighing.now in
    let w : ℕ → List ℕ → Seat → ℕ = λ t list s. by_firsts (firsts_in b.demands.items) (places_in b.demands.items) list s in
    let enough : length L.lists.items ≤ length c.args.seats = omega (arith, trainees_in L, (lawful_in L).few_trainees) in (
      beaten_by_one e M (lawful_in L) c.requires.heaviest (holds_weigh e b M false c.requires.holds (one_weighs_nothing L c.args.seats enough w (sym c.if-not-all_content.ensures))),
      c.refusal.ensures,
    )

pub returns : goal.returns
returns c =
    let L = c.args.lists.now in
    let e : Entries = entries L in
    let M : Placement = seating c.args.seats in
    let b = c.args.weighing.now in
    let w : ℕ → List ℕ → Seat → ℕ = λ t list s. by_firsts (firsts_in b.demands.items) (places_in b.demands.items) list s in
    let enough : length L.lists.items ≤ length c.args.seats = omega (arith, trainees_in L, (lawful_in L).few_trainees) in (
      fullest_by_weights e M (lawful_in L) c.requires.heaviest (holds_weigh e b M true c.requires.holds (all_weigh L c.args.seats enough w (sym c.if-not-all_content.ensures))),
      c.count_seated-seated.ensures ∙ ap (λ n. count_by is_some (take n c.args.seats)) c.len.ensures.value ∙ seated_front (length L.lists.items) c.args.seats enough ∙ ap (λ n. seated n M) (sym (trainees_in L)),
      c.requires.rest,
    )
