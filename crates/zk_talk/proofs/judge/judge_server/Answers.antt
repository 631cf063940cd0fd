use Rattle.std.proofs.Common.{w32, FitsSigned, arith, ◌≡◌, ◌∙◌, sym, negsuc}
use Rattle.std.specs.Prelude.{ℕ, List}
use Rattle.std.proofs.{lemmas.Int.ints, lemmas.Int.to_z-of_z, lemmas.Result.err_from_is_err_and}
use Rattle.zk_jute.specs.Told.{IsSurelyTold}
use Rattle.zk_jute.proofs.Judged.{says_more}
use Rattle.zk_asks.proofs.Knowing.{of_answer}
use Rattle.zk_answers.specs.{Held.ServerFrame, Faults.IsHead, Faults.IsConnectedFault}
use Rattle.zk_answers.specs.Frames as answers
use Rattle.zk_waiting.specs.Lane.{lane_of}
use Rattle.zk_waiting.specs.declared.lane.Lane.TheVariants as Lane
use Rattle.zk_records.specs.declared.header.ReplyHeader.{ReplyHeader}
use Rattle.zk_talk.specs.Said.{Heard}
use Rattle.zk_talk.proofs.Judging as J
use Rattle.zk_talk.proofs.{Hearing.described, Hearing.none_spoken, Hearing.some_spoken, Settling.reply_heard, Settling.event_heard, Settling.connected_heard, Telling.told_server, Telling.told_on}
use Rattle.zk_talk.proofs.judge.judge_server.Goals as goal

pub returns-in_err-judge_change-clause-fault : goal.returns-in_err-judge_change-clause-fault
returns-in_err-judge_change-clause-fault g c =
    let e' = err_from_is_err_and c.from_residual-in_err-judge_change.result c.from_residual-in_err-judge_change.ensures.1 in
    let p = c.args.payload.now in
    let w = c.args.waiting.now in
    let head = c.in_ok-head.head in
    let h = of_answer (λ (x : ReplyHeader). (rest : List ℕ) × IsHead p x rest) c.reply_head.result head c.in_ok-head.ensures c.reply_head.ensures.found in
    let fits : FitsSigned w32 head.xid = h.1.0.0 in
    let event : head.xid ≡ negsuc 0 = omega (arith, ints, c.if-head.true) in
    rw (e'.1, e'.2) (says_more g.V.Verdict.tells _ _
    (told_server (Heard c.args.asked c.args.welcomed w) _ p
    (λ v heard place reason x. J.event_refused _ _ _ v (described c.args.asked c.args.welcomed w v heard) p place reason head h.0 (some_spoken c.args.welcomed v.server heard.server c.if-welcomed.true) h.1 event x))
    c.in_err-judge_change.field-0.0 c.in_err-judge_change.ensures.fault)

pub returns-then-head-clause-found : goal.returns-then-head-clause-found
returns-then-head-clause-found g c =
    let k = c.in_ok-judge_change.ensures.found in
    (k.0, event_heard c.args.asked c.args.welcomed c.args.payload.now c.args.waiting.now c.if-welcomed.true k.0 k.1 k.2 k.3)

pub returns-in_err-told-in-Plain-clause-fault : goal.returns-in_err-told-in-Plain-clause-fault
returns-in_err-told-in-Plain-clause-fault g c =
    let e' = err_from_is_err_and c.from_residual-in_err-told-in-Plain.result c.from_residual-in_err-told-in-Plain.ensures.1 in
    let w = c.args.waiting.now in
    rw (e'.1, e'.2) (says_more g.V.Verdict.tells _ _
    (λ e f. (f.0, λ v heard. f.1 _ _ v (some_spoken c.args.welcomed v.server heard.server c.if-welcomed.true) (described c.args.asked c.args.welcomed w v heard)))
    c.in_err-told-in-Plain.field-0.0 c.in_err-told-in-Plain.ensures.fault)

pub returns-in_err-told-in_default-clause-fault : goal.returns-in_err-told-in_default-clause-fault
returns-in_err-told-in_default-clause-fault g c =
    let e' = err_from_is_err_and c.from_residual-in_err-told-in_default.result c.from_residual-in_err-told-in_default.ensures.1 in
    let w = c.args.waiting.now in
    rw (e'.1, e'.2) (says_more g.V.Verdict.tells _ _
    (λ e f. (f.0, λ v heard. f.1 _ _ v (some_spoken c.args.welcomed v.server heard.server c.if-welcomed.true) (described c.args.asked c.args.welcomed w v heard)))
    c.in_err-told-in_default.field-0.0 c.in_err-told-in_default.ensures.fault)

pub returns-in_err-on-clause-fault : goal.returns-in_err-on-clause-fault
returns-in_err-on-clause-fault g c =
    let e' = err_from_is_err_and c.from_residual-in_err-on.result c.from_residual-in_err-on.ensures.1 in
    let p = c.args.payload.now in
    let w = c.args.waiting.now in
    rw (e'.1, e'.2) (told_on g.V.Verdict.tells (IsSurelyTold (IsConnectedFault p)) _
    (told_server (Heard c.args.asked c.args.welcomed w) _ p
    (λ v heard place reason x. J.connected_refused _ _ _ v (described c.args.asked c.args.welcomed w v heard) p place reason (none_spoken c.args.welcomed v.server heard.server c.if-welcomed.false) (some_spoken c.args.asked v.client heard.client c.if-asked.true) x))
    c.scan_connected.result c.scan_connected.ensures.fault c.in_err-on.field-0.0 c.in_err-on.ensures)

pub returns-in_ok-told-in-Plain-clause-found : goal.returns-in_ok-told-in-Plain-clause-found
returns-in_ok-told-in-Plain-clause-found g c =
    let p = c.args.payload.now in
    let head = c.in_ok-head.head in
    let h = of_answer (λ (x : ReplyHeader). (rest : List ℕ) × IsHead p x rest) c.reply_head.result head c.in_ok-head.ensures c.reply_head.ensures.found in
    let fits : FitsSigned w32 head.xid = h.1.0.0 in
    let lane : c.lane_of.result ≡ lane_of head.xid = simp to_z-of_z at c.lane_of.ensures in
    reply_heard c.args.asked c.args.welcomed p c.args.waiting.now c.if-welcomed.true Lane.Plain head.xid c.in_ok-told-in-Plain.told (sym c.in-Plain.is ∙ lane) c.in_ok-told-in-Plain.ensures.found

pub returns-in_ok-told-in_default-clause-found : goal.returns-in_ok-told-in_default-clause-found
returns-in_ok-told-in_default-clause-found g c =
    let p = c.args.payload.now in
    let head = c.in_ok-head.head in
    let h = of_answer (λ (x : ReplyHeader). (rest : List ℕ) × IsHead p x rest) c.reply_head.result head c.in_ok-head.ensures c.reply_head.ensures.found in
    let fits : FitsSigned w32 head.xid = h.1.0.0 in
    let lane : c.lane_of.result ≡ lane_of head.xid = simp to_z-of_z at c.lane_of.ensures in
    reply_heard c.args.asked c.args.welcomed p c.args.waiting.now c.if-welcomed.true c.lane_of.result head.xid c.in_ok-told-in_default.told lane c.in_ok-told-in_default.ensures.found

pub returns-in_ok-on-clause-found : goal.returns-in_ok-on-clause-found
returns-in_ok-on-clause-found g c =
    let p = c.args.payload.now in
    let k = of_answer (λ _. (s : ServerFrame) × answers.IsConnected s × answers.IsSent s × (p ≡ answers.payload s)) c.scan_connected.result _ c.in_ok-on.ensures c.scan_connected.ensures.found in
    (k.0, connected_heard c.args.asked c.args.welcomed p c.args.waiting.now c.if-welcomed.false c.if-asked.true k.0 k.1 k.2 k.3)
