use Rattle.std.proofs.Common.{◌≡◌, ◌-◌, ◌≤◌, length, sym, ap, ◌∙◌, subst, arith}
use Rattle.std.proofs.lemmas.List.{length-take-le}
use Rattle.rules.specs.Meaning.{Entries, trainees}
use Rattle.voting.specs.Placements.{Placement, seating}
use Rattle.voting.specs.Votes.{Strongest}
use Rattle.allotment.specs.Bytes.{offered_by, written}
use Rattle.allotment.specs.Copies.{entries}
use Rattle.allotment.proofs.Copying.{lawful_in, trainees_in}
use Rattle.allotment.proofs.Deciding.{seats_below, ballots_most, ballots_least, ballots_summed, strongest_heaviest}
use Rattle.allotment.proofs.Writing.{written_front, below_front}
use Rattle.allotment.proofs.challenging.write_rival.Goals as goal

pub whole_weight-whole-requires : goal.whole_weight-whole-requires
whole_weight-whole-requires c =
    let L = c.args.lists.now in
    let few = (lawful_in L).few_trainees in
    let enough : length L.lists.items ≤ length c.args.seats.now = omega (arith, trainees_in L, few, c.told-seats) in
    omega (arith, few, ballots_summed L c.args.offered.now c.args.seats.now enough, ballots_most (entries L) (offered_by c.args.offered.now) (seating c.args.seats.now))

pub write_seats-requires : goal.write_seats-requires
write_seats-requires c =
    let L = c.args.lists.now in
    let n = c.len-n.result in
    let known : n ≡ trainees (entries L) = omega (arith, trainees_in L, c.len-n.ensures.value) in
    let l : n ≤ length c.args.seats.now = omega (arith, known, (lawful_in L).few_trainees, c.told-seats) in
    record {
      room = omega (arith, known, c.requires.room, length-take-le n c.args.seats.now l);
      below =
          below_front n c.args.seats.now l
          (λ t k. seats_below (entries L) (seating c.args.seats.now) (lawful_in L) c.requires.heaviest.feasible t (omega (arith, known)));
    }

pub overflow_sub-result : goal.overflow_sub-result
overflow_sub-result c =
    let L = c.args.lists.now in
    let enough : length L.lists.items ≤ length c.args.seats.now = omega (arith, trainees_in L, (lawful_in L).few_trainees, c.told-seats) in
    omega (
      arith,
      trainees_in L,
      c.len-n.ensures.value,
      c.whole_weight-whole.ensures,
      ballots_summed L c.args.offered.now c.args.seats.now enough,
      ballots_least (entries L) (offered_by c.args.offered.now) (seating c.args.seats.now) c.requires.fits c.requires.heaviest,
    )

pub overflow_cast-result : goal.overflow_cast-result
overflow_cast-result c =
    let L = c.args.lists.now in
    let few = (lawful_in L).few_trainees in
    let enough : length L.lists.items ≤ length c.args.seats.now = omega (arith, trainees_in L, few, c.told-seats) in
    omega (
      arith,
      few,
      c.whole_weight-whole.ensures,
      ballots_summed L c.args.offered.now c.args.seats.now enough,
      ballots_most (entries L) (offered_by c.args.offered.now) (seating c.args.seats.now),
    )

pub returns : goal.returns
returns c =
    let L = c.args.lists.now in
    let e : Entries = entries L in
    let M : Placement = offered_by c.args.offered.now in
    let N : Placement = seating c.args.seats.now in
    let n = c.len-n.result in
    let known : n ≡ trainees e = c.len-n.ensures.value ∙ sym (trainees_in L) in
    let l : n ≤ length c.args.seats.now = omega (arith, known, (lawful_in L).few_trainees, c.told-seats) in
    let enough : length L.lists.items ≤ length c.args.seats.now = omega (arith, l, c.len-n.ensures.value) in
    record {
      strongest =
          subst (λ k. Strongest e M (c.whole_weight-whole.result - k) N) (sym known)
          (
          strongest_heaviest e M N c.whole_weight-whole.result c.requires.fits c.requires.heaviest
          (c.whole_weight-whole.ensures ∙ ballots_summed L c.args.offered.now c.args.seats.now enough)
          );
      written =
          written_front n c.args.seats.now l c.args.rival.now c.write_seats.new.buffer c.write_seats.ensures ∙
          ap (λ k. written k N c.args.rival.now) known;
    }
