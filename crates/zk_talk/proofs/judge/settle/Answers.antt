use Rattle.std.proofs.lemmas.Result.{err_from_is_err_and}
use Rattle.zk_jute.proofs.Judged.{says_more}
use Rattle.zk_talk.proofs.{Hearing.hears, Judging.due_waits, Settling.settled}
use Rattle.zk_talk.proofs.judge.settle.Goals as goal

pub returns-in_err-answer-clause-fault : goal.returns-in_err-answer-clause-fault
returns-in_err-answer-clause-fault g c =
    let p = err_from_is_err_and c.from_residual.result c.from_residual.ensures.1 in
    rw (p.1, p.2) (says_more g.V.Verdict.tells _ _ (λ e f. (f.0, λ v d. f.1 v (hears c.has_spoken.result c.has_spoken-2.result c.args.asked c.args.count c.args.waiting.now v c.has_spoken.ensures c.has_spoken-2.ensures d)))
    c.in_err-answer.field-0.0 c.in_err-answer.ensures.fault)

pub forget_asked-requires : goal.forget_asked-requires
forget_asked-requires g c = let k = c.in_ok-answer.ensures.found in (k.0, k.1.replies, due_waits c.args.waiting.now k.0 k.1.due)

pub returns-clause-found : goal.returns-clause-found
returns-clause-found g c =
    let k = c.in_ok-answer.ensures.found in
    (k.0, settled c.has_spoken.result c.has_spoken-2.result c.args.payload.now c.args.waiting.now c.args.asked c.args.count c.has_spoken.ensures c.has_spoken-2.ensures c.in_ok-answer.answer c.replied-told.result c.forget_asked.new.waiting k.0 k.1 c.replied-told.ensures c.forget_asked.ensures.forgotten)
