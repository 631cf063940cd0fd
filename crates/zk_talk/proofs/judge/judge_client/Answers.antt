use Rattle.std.proofs.lemmas.Result.{err_from_is_err_and}
use Rattle.zk_jute.specs.Told.{IsSurelyTold}
use Rattle.zk_jute.proofs.Judged.{says_more}
use Rattle.zk_asks.specs.{Held.ClientFrame, Frames.IsFirst, Frames.IsSent, Frames.payload, Faults.IsFirstFault}
use Rattle.zk_asks.proofs.Knowing.{of_answer}
use Rattle.std.proofs.Common.{◌≡◌}
use Rattle.zk_talk.proofs.{Settling.connect_comes, Settling.ask_comes, Telling.told_first, Telling.told_later, Telling.told_on}
use Rattle.zk_talk.proofs.judge.judge_client.Goals as goal

pub returns-in_err-on-clause-fault : goal.returns-in_err-on-clause-fault
returns-in_err-on-clause-fault g c =
    let p = err_from_is_err_and c.from_residual.result c.from_residual.ensures.1 in
    rw (p.1, p.2) (told_on g.V.Verdict.tells (IsSurelyTold (IsFirstFault c.args.payload.now)) _ (λ e f. told_first c.args.profile c.args.count c.args.payload.now e c.if-count-eq0.true f)
    c.scan_first.result c.scan_first.ensures.fault c.in_err-on.field-0.0 c.in_err-on.ensures)

pub returns-in_ok-on-clause-found : goal.returns-in_ok-on-clause-found
returns-in_ok-on-clause-found g c =
    let src = c.args.payload.now in
    let k = of_answer (λ _. (f : ClientFrame) × IsFirst f × IsSent f × (src ≡ payload f)) c.scan_first.result _ c.in_ok-on.ensures c.scan_first.ensures.found in
    (k.0, connect_comes c.args.profile c.args.count src c.if-count-eq0.true k.0 k.1 k.2 k.3)

pub returns-in_err-asked-clause-fault : goal.returns-in_err-asked-clause-fault
returns-in_err-asked-clause-fault g c =
    let p = err_from_is_err_and c.from_residual-in_err-asked.result c.from_residual-in_err-asked.ensures.1 in
    rw (p.1, p.2) (says_more g.V.Verdict.tells _ _ (λ e f. told_later c.args.profile c.args.count c.args.payload.now e c.if-count-eq0.false f) c.in_err-asked.field-0.0 c.in_err-asked.ensures.fault)

pub returns-in_ok-asked-clause-found : goal.returns-in_ok-asked-clause-found
returns-in_ok-asked-clause-found g c =
    let k = c.in_ok-asked in
    ask_comes c.args.profile c.args.count c.args.payload.now k.asked c.if-count-eq0.false k.ensures.found
