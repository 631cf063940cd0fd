use Rattle.std.proofs.Common.{◌≡◌, ◌≤◌, arith, true, subst, refl, inr}
use Rattle.std.proofs.lemmas.Bool.{both_ways}
use Rattle.zk_jute.specs.Item.{Fit}
use Rattle.zk_asks.specs.Frames.{frame_items}
use Rattle.zk_talk.specs.declared.say.SayFault.TheVariants.{QueueFull}
use Rattle.zk_talk.proofs.{Saying.client_may, Saying.client_said, Saying.client_full, Saying.unequal, Speaking.small_payload, Speaking.client_within, Speaking.either_way, Judging.no_room}
use Rattle.zk_talk.proofs.say.say_client.Goals as goal

pub put_client-requires-clause-fits : goal.put_client-requires-clause-fits
put_client-requires-clause-fits c = (c.in-Some.ensures.0.0, omega (arith, c.args.limits.in_range, c.client.ensures, c.in-Some.ensures.0.1))

pub put_request-requires-clause-small : goal.put_request-requires-clause-small
put_request-requires-clause-small c =
    let small : c.args.limits.client ≤ 16777216 = omega (arith, c.args.limits.in_range) in
    small_payload c.args.limits.client c.args.message.now small (subst (λ z. Fit z (frame_items c.args.message.now)) c.client.ensures c.in-Some.ensures.0)

pub returns-in-Ok-put_request-clause-said : goal.returns-in-Ok-put_request-clause-said
returns-in-Ok-put_request-clause-said c = λ welcomed v heard.
    let sent : c.may_ask.result ≡ true = cc in
    let fits = subst (λ z. Fit z (frame_items c.args.message.now)) c.client.ensures c.in-Some.ensures.0 in
    client_said c.args.limits c.args.asked welcomed c.args.waiting.now v heard c.args.message.now c.is_connect.result c.is_connect.ensures (unequal _ _ c.if-is_connect-asked.false) c.put_request.new.waiting c.requires.room (c.may_ask.ensures.0 sent) fits c.in-Ok-put_request.ensures.ok

pub returns-in-Err-put_request-clause-err : goal.returns-in-Err-put_request-clause-err
returns-in-Err-put_request-clause-err c =
    let sent : c.may_ask.result ≡ true = cc in
    let fits = subst (λ z. Fit z (frame_items c.args.message.now)) c.client.ensures c.in-Some.ensures.0 in
    either_way c.in-Err-put_request.e _ _ (λ welcomed v heard.
    client_full c.args.limits c.args.asked welcomed c.args.waiting.now v heard c.args.message.now c.is_connect.result c.is_connect.ensures (unequal _ _ c.if-is_connect-asked.false) c.in-Err-put_request.e c.requires.room (c.may_ask.ensures.0 sent) fits c.in-Err-put_request.ensures.err)

-- there is no room in the queue
pub returns-then-not-has_room-clause-err : goal.returns-then-not-has_room-clause-err
returns-then-not-has_room-clause-err c =
    let sent : c.may_ask.result ≡ true = cc in
    let fits = subst (λ z. Fit z (frame_items c.args.message.now)) c.client.ensures c.in-Some.ensures.0 in
    let over = no_room c.args.message.now c.args.waiting.now (λ room. both_ways c.has_room.result (cc) (c.has_room.ensures.1 room)) in
    either_way QueueFull _ _ (λ welcomed v heard.
    client_full c.args.limits c.args.asked welcomed c.args.waiting.now v heard c.args.message.now c.is_connect.result c.is_connect.ensures (unequal _ _ c.if-is_connect-asked.false) QueueFull c.requires.room (c.may_ask.ensures.0 sent) fits (inr (over.0, refl, over.1)))

pub returns-in-Err-clause-lacks : goal.returns-in-Err-clause-lacks
returns-in-Err-clause-lacks c = λ wanting welcomed v heard.
    let sent : c.may_ask.result ≡ true = cc in
    let fits = subst (λ z. Fit z (frame_items c.args.message.now)) c.client.ensures c.in-Some.ensures.0 in
    let fits_in : c.has_room.result ≡ true = cc in
    client_may c.args.limits c.args.asked welcomed c.args.waiting.now v heard c.args.message.now c.is_connect.result c.is_connect.ensures (unequal _ _ c.if-is_connect-asked.false) c.requires.room (c.may_ask.ensures.0 sent) fits (c.has_room.ensures.0 fits_in)

pub returns-in-Err-put_request-clause-lacks : goal.returns-in-Err-put_request-clause-lacks
returns-in-Err-put_request-clause-lacks c = λ wanting welcomed v heard.
    let sent : c.may_ask.result ≡ true = cc in
    let fits = subst (λ z. Fit z (frame_items c.args.message.now)) c.client.ensures c.in-Some.ensures.0 in
    let fits_in : c.has_room.result ≡ true = cc in
    client_may c.args.limits c.args.asked welcomed c.args.waiting.now v heard c.args.message.now c.is_connect.result c.is_connect.ensures (unequal _ _ c.if-is_connect-asked.false) c.requires.room (c.may_ask.ensures.0 sent) fits (c.has_room.ensures.0 fits_in)

pub returns-in-Ok-put_request-clause-within : goal.returns-in-Ok-put_request-clause-within
returns-in-Ok-put_request-clause-within c = client_within c.args.limits.client c.args.message.now (subst (λ z. Fit z (frame_items c.args.message.now)) c.client.ensures c.in-Some.ensures.0)
