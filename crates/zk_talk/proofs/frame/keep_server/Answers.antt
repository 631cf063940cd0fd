use Rattle.std.proofs.Common.{◌+◌, sym, ap, subst, ◌∙◌}
use Rattle.std.proofs.lemmas.Result.{err_from_is_err_and}
use Rattle.zk_jute.proofs.Judged.{says_more}
use Rattle.zk_frames.specs.Framing.{frame}
use Rattle.zk_talk.specs.{Streams.StreamState, Viewed.ShowsServer}
use Rattle.zk_talk.proofs.{Seen.server_passes, Seen.server_told, Viewing.server_shown}
use Rattle.zk_talk.proofs.frame.keep_server.Goals as goal

pub returns-in_err-answered-clause-fault : goal.returns-in_err-answered-clause-fault
returns-in_err-answered-clause-fault g c =
    let p = err_from_is_err_and c.from_residual.result c.from_residual.ensures.1 in
    rw (p.1, p.2) (says_more g.V.Verdict.tells _ _ (server_told c.args.stream.now c.args.used c.count.result c.requires c.payload.result.now c.payload.ensures c.count.ensures c.args.waiting.now c.args.asked) c.in_err-answered.field-0.0 c.in_err-answered.ensures.fault)

pub returns-clause-found : goal.returns-clause-found
returns-clause-found g c =
    let answered = c.in_ok-answered.answered in
    let k = c.in_ok-answered.ensures.found in
    let old = c.args.stream.now in
    let next = server_passes old c.args.used c.count.result c.requires c.payload.result.now c.payload.ensures c.count.ensures c.args.waiting.now c.args.asked answered _ k in
    let shows = server_shown c.count.result old.held k.0 c.args.waiting.now answered k.1.told k.1.due k.1.turn k.1.sent (c.payload.ensures ∙ ap frame (sym k.1.is)) in
    let counted = subst (λ n. ShowsServer (n + 1) answered old.held k.0) c.count.ensures shows in
    (k.0, (next.0, next.1, subst (λ (z : StreamState). ShowsServer z.count answered z.kept k.0) (sym c.keep.ensures) counted, k.1.told))
