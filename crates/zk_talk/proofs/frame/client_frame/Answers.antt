use Rattle.std.proofs.Common.{◌≡◌, ◌≢◌, ℕ, true, false, sym, subst, ◌∙◌}
use Rattle.std.proofs.lemmas.Bool.{true_from_ne_false, both_ways}
use Rattle.zk_jute.specs.{declared.fault.ItemFault.ItemFault, declared.fault.Reason.TheVariants.NoMemory}
use Rattle.zk_talk.specs.{Judged.TellsClient, Judged.IsNumbered, Settled.IsAsking}
use Rattle.zk_talk.proofs.{Seen.payload_small, Seen.client_seen, Seen.client_told, Settling.full_told, Payloads.asks_are, Telling.told_client}
use Rattle.zk_talk.proofs.frame.client_frame.Goals as goal

pub returns-in-Err-clause-fault : goal.returns-in-Err-clause-fault
returns-in-Err-clause-fault c =
    let e = c.in-Err.item in
    let f = c.in-Err.ensures.fault in
    λ known. (client_told c.args.stream.now c.args.used c.count-count.result c.requires c.payload-payload.result.now c.payload-payload.ensures c.count-count.ensures c.args.waiting.now c.args.profile e (f.0, told_client c.args.profile c.count-count.result c.args.waiting.now c.payload-payload.result.now e f.1)).1

pub has_room-requires : goal.has_room-requires
has_room-requires c =
    let k = c.in-Ok.ensures.found in
    record { small = payload_small c.args.stream.now c.args.used c.count-count.result c.requires c.payload-payload.result.now c.payload-payload.ensures c.count-count.ensures c.args.waiting.now; asks = (k.0, (k.1.asks, k.1.sent, k.1.is)) }

pub returns-then-not-has_room-clause-fault : goal.returns-then-not-has_room-clause-fault
returns-then-not-has_room-clause-fault c =
    let k = c.in-Ok.ensures.found in
    let p = c.payload-payload.result.now in
    let w = c.args.waiting.now in
    let off : c.has_room.result ≡ false = cc in
    let full = full_told c.args.profile c.count-count.result p w k.0 k.1.turn k.1.sent k.1.is (λ room. both_ways c.has_room.result off ((c.has_room.ensures k.0 (k.1.asks, k.1.sent, k.1.is)).1 room)) in
    λ known. (client_told c.args.stream.now c.args.used c.count-count.result c.requires c.payload-payload.result.now c.payload-payload.ensures c.count-count.ensures c.args.waiting.now c.args.profile c.at.result (subst (λ (z : ItemFault). (z.reason ≢ NoMemory) × TellsClient c.args.profile c.count-count.result w p z) (sym c.at.ensures) full)).1

pub judged_ref-seen-requires : goal.judged_ref-seen-requires
judged_ref-seen-requires c =
    let k = c.in-Ok.ensures.found in
    (k.0, k.1.asks, k.1.sent, sym (asks_are k.0 c.payload-payload.result.now k.1.is))

pub put_asked-requires : goal.put_asked-requires
put_asked-requires c =
    let k = c.in-Ok.ensures.found in
    record { small = payload_small c.args.stream.now c.args.used c.count-count.result c.requires c.payload-payload.result.now c.payload-payload.ensures c.count-count.ensures c.args.waiting.now; asks = (k.0, (k.1.asks, k.1.sent, k.1.is)) }

pub returns-in-Ok-own-clause-found : goal.returns-in-Ok-own-clause-found
returns-in-Ok-own-clause-found c =
    let k = c.in-Ok.ensures.found in
    let f = k.0 in
    let w = c.args.waiting.now in
    let asks : IsAsking c.in-Ok.asked c.payload-payload.result.now f = (k.1.asks, k.1.sent, k.1.is) in
    let same : c.judged_ref-seen.result ≡ f = c.judged_ref-seen.ensures f asks.0 asks.1 (sym (asks_are f c.payload-payload.result.now asks.2)) in
    let on : c.has_room.result ≡ true = cc in
    let room = (c.has_room.ensures f asks).0 on in
    let put = c.put_asked.ensures.put (true_from_ne_false c.put_asked.result (λ no. c.put_asked.ensures.full no f asks room)) f asks in
    let next = client_seen c.args.stream.now c.args.used c.count-count.result c.requires c.payload-payload.result.now c.payload-payload.ensures c.count-count.ensures c.args.waiting.now c.args.profile f k.1.turn k.1.sent k.1.is room in
    let copy : c.in-Ok-own.frame ≡ f = c.in-Ok-own.ensures ∙ same in
    rw copy (next, subst (λ (n : ℕ). IsNumbered n f w c.put_asked.new.waiting) c.count-count.ensures put)

pub returns-in-Err-own-clause-lacks : goal.returns-in-Err-own-clause-lacks
returns-in-Err-own-clause-lacks c =
    let k = c.in-Ok.ensures.found in
    let on : c.has_room.result ≡ true = cc in
    let room = (c.has_room.ensures k.0 (k.1.asks, k.1.sent, k.1.is)).0 on in
    λ wanted. (k.0, client_seen c.args.stream.now c.args.used c.count-count.result c.requires c.payload-payload.result.now c.payload-payload.ensures c.count-count.ensures c.args.waiting.now c.args.profile k.0 k.1.turn k.1.sent k.1.is room)
