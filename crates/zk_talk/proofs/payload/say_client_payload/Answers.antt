use Rattle.std.proofs.Common.{◌≤◌, ◌<◌, length, arith, subst, inr}
use Rattle.std.proofs.lemmas.Bool.{both_ways, true_from_ne_false}
use Rattle.zk_records.specs.declared.profile.Profile.{Profile}
use Rattle.zk_talk.specs.Judged.{IsInTurn, IsTurnFault, HasRoomFor}
use Rattle.zk_talk.proofs.SayingPayloads.{client_payload_said, client_payload_stands, client_payload_long, client_payload_full, client_payload_item, spoken_frames}
use Rattle.zk_talk.proofs.payload.say_client_payload.Goals as goal

pub returns-in-Err-clause-err : goal.returns-in-Err-clause-err
returns-in-Err-clause-err c =
    let n = c.from-count.result in
    let p = c.args.payload.now in
    let fault = subst (λ (z : Profile). IsTurnFault z n p c.in-Err.item) c.profile.ensures c.in-Err.ensures.fault.1 in
    inr (client_payload_item c.args.limits c.args.asked n (spoken_frames c.args.asked n c.from-count.ensures) c.args.waiting.now p c.in-Err.item fault)

pub returns-then-payload-client-clause-err : goal.returns-then-payload-client-clause-err
returns-then-payload-client-clause-err c =
    let n = c.from-count.result in
    let p = c.args.payload.now in
    let k = c.in-Ok.ensures.found in
    let turn = subst (λ (z : Profile). IsInTurn z n k.0) c.profile.ensures k.1.turn in
    let over : c.args.limits.client < length p = omega (arith, c.if-payload-client.true, c.client.ensures) in
    inr (client_payload_long c.args.limits c.args.asked n (spoken_frames c.args.asked n c.from-count.ensures) c.args.waiting.now p k.0 turn k.1.sent k.1.is over)

pub returns-then-not-has_room-clause-err : goal.returns-then-not-has_room-clause-err
returns-then-not-has_room-clause-err c =
    let n = c.from-count.result in
    let k = c.in-Ok.ensures.found in
    let turn = subst (λ (z : Profile). IsInTurn z n k.0) c.profile.ensures k.1.turn in
    let small : length c.args.payload.now ≤ c.args.limits.client = omega (arith, c.if-payload-client.false, c.client.ensures) in
    let none : HasRoomFor k.0 c.args.waiting.now → ⊥ = λ room. both_ways c.has_room.result (cc) ((c.has_room.ensures k.0 (k.1.asks, k.1.sent, k.1.is)).1 room) in
    inr (client_payload_full c.args.limits c.args.asked n (spoken_frames c.args.asked n c.from-count.ensures) c.args.waiting.now c.args.payload.now k.0 turn k.1.sent k.1.is c.requires.room small none)

pub returns-in_default-clause-lacks : goal.returns-in_default-clause-lacks
returns-in_default-clause-lacks c =
    let n = c.from-count.result in
    let k = c.in-Ok.ensures.found in
    let turn = subst (λ (z : Profile). IsInTurn z n k.0) c.profile.ensures k.1.turn in
    let small : length c.args.payload.now ≤ c.args.limits.client = omega (arith, c.if-payload-client.false, c.client.ensures) in
    let room = (c.has_room.ensures k.0 (k.1.asks, k.1.sent, k.1.is)).0 (true_from_ne_false c.has_room.result (λ (off : _). cc)) in
    λ wanting. client_payload_stands c.args.limits c.args.asked n (spoken_frames c.args.asked n c.from-count.ensures) c.args.waiting.now c.args.payload.now k.0 turn k.1.sent k.1.is c.requires.room small room

pub returns-clause-said : goal.returns-clause-said
returns-clause-said c =
    let n = c.from-count.result in
    let k = c.in-Ok.ensures.found in
    let turn = subst (λ (z : Profile). IsInTurn z n k.0) c.profile.ensures k.1.turn in
    let small : length c.args.payload.now ≤ c.args.limits.client = omega (arith, c.if-payload-client.false, c.client.ensures) in
    let room = (c.has_room.ensures k.0 (k.1.asks, k.1.sent, k.1.is)).0 (true_from_ne_false c.has_room.result (λ (off : _). cc)) in
    let put = c.put_asked.ensures.put (true_from_ne_false c.put_asked.result (λ no. c.put_asked.ensures.full no k.0 (k.1.asks, k.1.sent, k.1.is) room)) k.0 (k.1.asks, k.1.sent, k.1.is) in
    client_payload_said c.args.limits c.args.asked n (spoken_frames c.args.asked n c.from-count.ensures) c.args.waiting.now c.args.payload.now k.0 turn k.1.sent k.1.is c.put_asked.new.waiting c.requires.room small put
