use Rattle.std.proofs.Common.{◌≡◌, length, ap, ◌∙◌}
use Rattle.rules.specs.Meaning.{trainees}
use Rattle.rules.specs.Questions.{numbers}
use Rattle.round.specs.Account.{enters, sets_places, allots, asks_seat, challenges}
use Rattle.round.specs.Steps.{given}
use Rattle.round.specs.Seen.{seen, numbered}
use Rattle.round.specs.Serving.{entered, placed, seated, challenged, room_of}
use Rattle.round.proofs.Writing.{noted_line}
use Rattle.round.proofs.makes.make.Goals as goal

pub returns-in-Enter : goal.returns-in-Enter
returns-in-Enter g c =
    let a = c.enter.result in
    (enters c.in-Enter.t.0 (numbers c.in-Enter.list.now) a, rw c.in-Enter.is (entered c.in-Enter.t c.in-Enter.list a c.args.room.now), c.enter.ensures.law)

pub returns-in-Places : goal.returns-in-Places
returns-in-Places g c =
    let a = c.places.result in
    (sets_places c.in-Places.p.0 c.in-Places.n a, rw c.in-Places.is (placed c.in-Places.p c.in-Places.n a c.args.room.now), c.places.ensures.law)

pub returns-in-Allot : goal.returns-in-Allot
returns-in-Allot g c =
    let n = trainees (g.R.Roll.entries c.args.round.now.register) in
    let after = seen g.R.Roll.entries g.R.Terms.rules c.allot_noted.new.round in
    let b = c.args.room.now in
    let a = c.allot_noted.result in
    let w = c.in-Allot.w in
    let k = c.in-Allot.k in
    let l : length b ≡ n = c.requires ∙ ap (room_of n) c.in-Allot.is in
    (allots w k (given a after), rw c.in-Allot.is (noted_line n w k a after b c.allot_noted.new.room l c.allot_noted.ensures.room), c.allot_noted.ensures.law)

pub returns-in-Seat : goal.returns-in-Seat
returns-in-Seat g c =
    let a = c.seat.result in
    (asks_seat c.in-Seat.t.0 (numbered a), rw c.in-Seat.is (seated c.in-Seat.t a c.args.room.now), c.seat.ensures.law)

pub returns-in-Challenge : goal.returns-in-Challenge
returns-in-Challenge g c =
    let b = c.args.room.now in
    let r = c.challenge.new.rival in
    let a = c.challenge.result in
    let o = c.in-Challenge.offered in
    (challenges o.now b a r, rw c.in-Challenge.is (challenged o c.in-Challenge.field-1 a b r), c.challenge.ensures.law)
