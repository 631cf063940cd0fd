use Rattle.std.proofs.Common.{subst, sym, ap, ◌∙◌, ◌+◌}
use Rattle.std.proofs.lemmas.Result.{err_from_is_err_and}
use Rattle.zk_jute.proofs.Judged.{says_more}
use Rattle.zk_frames.specs.Framing.{frame}
use Rattle.zk_talk.specs.{Streams.StreamState, Viewed.ShowsClient}
use Rattle.zk_talk.proofs.{Viewing.client_shown, Seen.payload_small, Seen.client_passes, Seen.client_told}
use Rattle.zk_talk.proofs.frame.keep_client.Goals as goal

pub await_ask-requires : goal.await_ask-requires
await_ask-requires g c = payload_small c.args.stream.now c.args.used c.count-count.result c.requires c.payload.result.now c.payload.ensures c.count-count.ensures c.args.waiting.now

pub returns-in_err-await_ask-clause-fault : goal.returns-in_err-await_ask-clause-fault
returns-in_err-await_ask-clause-fault g c =
    let p = err_from_is_err_and c.from_residual.result c.from_residual.ensures.1 in
    rw (p.1, p.2) (says_more g.V.Verdict.tells _ _ (client_told c.args.stream.now c.args.used c.count-count.result c.requires c.payload.result.now c.payload.ensures c.count-count.ensures c.args.waiting.now c.args.profile) c.in_err-await_ask.field-0.0 c.in_err-await_ask.ensures.fault)

pub returns-clause-found : goal.returns-clause-found
returns-clause-found g c =
    let k = c.in_ok-await_ask.ensures.found in
    let old = c.args.stream.now in
    let next = client_passes old c.args.used c.count-count.result c.requires c.payload.result.now c.payload.ensures c.count-count.ensures c.args.waiting.now c.args.profile c.await_ask.new.waiting k in
    let shows = client_shown c.count-count.result old.held k.0 c.args.profile k.1.turn k.1.sent (c.payload.ensures ∙ ap frame (sym k.1.is)) in
    (k.0, (next.0, next.1, subst (λ (z : StreamState). ShowsClient z.count z.kept k.0) (sym c.keep.ensures) (subst (λ n. ShowsClient (n + 1) old.held k.0) c.count-count.ensures shows)))
