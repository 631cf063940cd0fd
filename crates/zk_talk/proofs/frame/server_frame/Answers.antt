use Rattle.std.proofs.Common.{◌≡◌, ap, sym, ◌∙◌}
use Rattle.zk_frames.specs.Framing.{frame}
use Rattle.zk_talk.proofs.{Hearing.hears, Hearing.turned, Settling.tells_replied, Viewing.server_shown, Seen.server_seen, Seen.server_told}
use Rattle.zk_talk.proofs.frame.server_frame.Goals as goal

pub returns-in-Err-clause-fault : goal.returns-in-Err-clause-fault
returns-in-Err-clause-fault c =
    let f = c.in-Err.ensures.fault in
    λ known. (server_told c.args.stream.now c.args.used c.count-count.result c.requires c.payload-payload.result.now c.payload-payload.ensures c.count-count.ensures c.args.waiting.now c.args.asked c.in-Err.item (f.0, λ v d. f.1 v (hears c.has_spoken.result c.has_spoken-2.result c.args.asked c.count-count.result c.args.waiting.now v c.has_spoken.ensures c.has_spoken-2.ensures d))).1

pub shown_server-seen-requires : goal.shown_server-seen-requires
shown_server-seen-requires c =
    let k = c.in-Ok.ensures.found in
    let turn = turned c.has_spoken-2.result c.count-count.result k.0 c.has_spoken-2.ensures k.1.turn in
    (k.0, server_shown c.count-count.result (frame c.payload-payload.result.now) k.0 c.args.waiting.now c.replied-told.result (tells_replied k.0 c.args.waiting.now c.in-Ok.answer c.replied-told.result c.replied-told.ensures k.1.replies) k.1.due turn k.1.sent (ap frame (sym k.1.is)))

pub returns-in-Ok-own-clause-found : goal.returns-in-Ok-own-clause-found
returns-in-Ok-own-clause-found c =
    let k = c.in-Ok.ensures.found in
    let turn = turned c.has_spoken-2.result c.count-count.result k.0 c.has_spoken-2.ensures k.1.turn in
    let s = k.0 in
    let w = c.args.waiting.now in
    let shows = server_shown c.count-count.result (frame c.payload-payload.result.now) s w c.replied-told.result (tells_replied s w c.in-Ok.answer c.replied-told.result c.replied-told.ensures k.1.replies) k.1.due turn k.1.sent (ap frame (sym k.1.is)) in
    let same : c.shown_server-seen.result ≡ s = c.shown_server-seen.ensures s shows in
    let copy : c.in-Ok-own.frame ≡ s = c.in-Ok-own.ensures ∙ same in
    let next = server_seen c.args.stream.now c.args.used c.count-count.result c.requires c.payload-payload.result.now c.payload-payload.ensures c.count-count.ensures w c.args.asked s k.1.due k.1.is (λ v d. k.1.may v (hears c.has_spoken.result c.has_spoken-2.result c.args.asked c.count-count.result c.args.waiting.now v c.has_spoken.ensures c.has_spoken-2.ensures d)) in
    rw copy (next, c.forget_asked.ensures.forgotten s k.1.replies)

pub returns-in-Err-own-clause-lacks : goal.returns-in-Err-own-clause-lacks
returns-in-Err-own-clause-lacks c =
    let k = c.in-Ok.ensures.found in
    λ wanted. (k.0, server_seen c.args.stream.now c.args.used c.count-count.result c.requires c.payload-payload.result.now c.payload-payload.ensures c.count-count.ensures c.args.waiting.now c.args.asked k.0 k.1.due k.1.is (λ v d. k.1.may v (hears c.has_spoken.result c.has_spoken-2.result c.args.asked c.count-count.result c.args.waiting.now v c.has_spoken.ensures c.has_spoken-2.ensures d)))
