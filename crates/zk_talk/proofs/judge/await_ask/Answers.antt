use Rattle.std.proofs.lemmas.Result.{err_from_is_err_and}
use Rattle.zk_jute.proofs.Judged.{says_more, says_one}
use Rattle.zk_talk.proofs.{Settling.full_told, Telling.told_client}
use Rattle.zk_talk.proofs.judge.await_ask.Goals as goal

pub put_asked-requires : goal.put_asked-requires
put_asked-requires g c =
    let k = c.in_ok-asked.ensures.found in
    record { small = c.requires; asks = (k.0, (k.1.asks, k.1.sent, k.1.is)) }

pub returns-in_err-asked-clause-fault : goal.returns-in_err-asked-clause-fault
returns-in_err-asked-clause-fault g c =
    let p = err_from_is_err_and c.from_residual.result c.from_residual.ensures.1 in
    rw (p.1, p.2) (says_more g.V.Verdict.tells _ _ (λ e f. (f.0, told_client c.args.profile c.args.count c.args.waiting.now c.args.payload.now e f.1)) c.in_err-asked.field-0.0 c.in_err-asked.ensures.fault)

pub returns-then-put_asked-clause-found : goal.returns-then-put_asked-clause-found
returns-then-put_asked-clause-found g c =
    let k = c.in_ok-asked.ensures.found in
    (k.0, record { turn = k.1.turn; sent = k.1.sent; is = k.1.is; waits = c.put_asked.ensures.put c.if-put_asked.true k.0 (k.1.asks, k.1.sent, k.1.is) })

pub returns-else-put_asked-clause-fault : goal.returns-else-put_asked-clause-fault
returns-else-put_asked-clause-fault g c =
    let k = c.in_ok-asked.ensures.found in
    says_one g.V.Verdict.tells _ _ (full_told c.args.profile c.args.count c.args.payload.now c.args.waiting.now k.0 k.1.turn k.1.sent k.1.is (c.put_asked.ensures.full c.if-put_asked.false k.0 (k.1.asks, k.1.sent, k.1.is))) c.at.result c.at.ensures
