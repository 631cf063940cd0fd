use Rattle.std.proofs.Common.{rules, w32, sym, ap, ◌∙◌, subst, FitsSigned, arith, ◌≡◌, ◌≢◌, Some, None, refl}
use Rattle.std.specs.Prelude.{List, Option, slice_get}
use Rattle.std.proofs.{lemmas.Int.to_z-of_z, lemmas.Int.ints, lemmas.Result.err_from_is_err_and}
use Rattle.zk_jute.specs.{declared.fault.ItemFault.ItemFault, Reading.told_place}
use Rattle.zk_jute.specs.declared.fault.Reason.TheVariants.{Unasked, XidOrder}
use Rattle.zk_jute.proofs.Judged.{says_more, says_one}
use Rattle.zk_talk.specs.{declared.replied.Replied.Replied, Fault.IsServerFault, Settled.IsDueReply}
use Rattle.zk_records.specs.declared.op.PartOp.{PartOp}
use Rattle.zk_answers.specs.{Held.Reply, Faults.IsReplyFault, Fronts.IsReplyUnder}
use Rattle.zk_waiting.specs.{declared.lane.Lane.Lane, Lane.lane_of, Waiting.Lanes, Waiting.Request, Waiting.queue_on}
use Rattle.zk_talk.proofs.Judging as J
use Rattle.zk_talk.proofs.{Small.same_signed, Settling.reply_is_due, Telling.told_at, Telling.told_answer, Telling.unasked_known, Telling.order_known}
use Rattle.zk_talk.proofs.judge.judge_answer.Goals as goal

-- what is at the front of the lane, in the reply's own
front_there : (w : Lanes) (lane own : Lane) → lane ≡ own → (o front : Option Request) → o ≡ slice_get (queue_on lane w) 0 → o ≡ front → slice_get (queue_on own w) 0 ≡ front
front_there w lane own there o front is got = sym (ap (λ z. slice_get (queue_on z w) 0) there) ∙ sym is ∙ got

pub returns-in_default-clause-fault : goal.returns-in_default-clause-fault
returns-in_default-clause-fault g c =
    let h = c.requires.head in
    let p = c.args.payload.now in
    let head = c.args.head.now in
    let w = c.args.waiting.now in
    let fits : FitsSigned w32 head.xid = h.1.0.0 in
    let none : slice_get (queue_on (lane_of head.xid) w) 0 ≡ None = front_there w c.args.lane (lane_of head.xid) c.requires.lane c.oldest.result None c.oldest.ensures.value c.in_default.is in
    let e : ItemFault = record { place = told_place 0; reason = Unasked } in
    says_one g.V.Verdict.tells _ e (unasked_known e refl, λ n m v y d. told_at (IsServerFault v p) _ e refl (J.nothing_waits n m w v d p head h.0 y h.1 c.requires.reply none)) c.at.result c.at.ensures

pub returns-then-expected-head-clause-fault : goal.returns-then-expected-head-clause-fault
returns-then-expected-head-clause-fault g c =
    let h = c.requires.head in
    let p = c.args.payload.now in
    let head = c.args.head.now in
    let w = c.args.waiting.now in
    let slot = c.in-Some.slot in
    let fits : FitsSigned w32 head.xid = h.1.0.0 in
    let some : slice_get (queue_on (lane_of head.xid) w) 0 ≡ Some slot = front_there w c.args.lane (lane_of head.xid) c.requires.lane c.oldest.result (Some slot) c.oldest.ensures.value c.in-Some.is in
    let other : slot.xid ≢ head.xid = λ e. c.if-expected-head.true (omega (arith, ints, e, c.xid-expected.ensures)) in
    let efits : FitsSigned w32 c.xid-expected.result = search rules in
    let sfits : FitsSigned w32 slot.xid = subst (FitsSigned w32) c.xid-expected.ensures efits in
    let told = simp (to_z-of_z, c.xid-expected.ensures) at c.at-then-expected-head.ensures in
    let f : ItemFault = record { place = told_place 0; reason = XidOrder slot.xid head.xid } in
    says_one g.V.Verdict.tells _ f (order_known f slot.xid head.xid refl, λ n m v y d. told_at (IsServerFault v p) _ f refl (J.wrong n m w v d p head h.0 slot y h.1 c.requires.reply some other)) c.at-then-expected-head.result told

pub returns-in_err-judge_reply-clause-fault : goal.returns-in_err-judge_reply-clause-fault
returns-in_err-judge_reply-clause-fault g c =
    let e' = err_from_is_err_and c.from_residual.result c.from_residual.ensures.1 in
    let h = c.requires.head in
    let head = c.args.head.now in
    let slot = c.in-Some.slot in
    let some = front_there c.args.waiting.now c.args.lane (lane_of head.xid) c.requires.lane c.oldest.result (Some slot) c.oldest.ensures.value c.in-Some.is in
    let same = same_signed c.xid-expected.result slot.xid head.xid c.xid-expected.ensures (search rules) h.1.0.0 c.if-expected-head.false in
    let fit = (c.in-Some.ensures).fit in
    rw (e'.1, e'.2) (says_more g.V.Verdict.tells _ _
    (told_answer c.args.waiting.now _ c.args.payload.now (λ n m v y d place reason x.
    J.reply_refused n m c.args.waiting.now v d c.args.payload.now place reason head h.0 slot y h.1 c.requires.reply some same (subst (λ (z : List PartOp). IsReplyFault slot.op z c.args.payload.now place reason) fit.parts x)))
    c.in_err-judge_reply.field-0.0 c.in_err-judge_reply.ensures.fault)

pub returns-clause-found : goal.returns-clause-found
returns-clause-found g c =
    let h = c.requires.head in
    let head = c.args.head.now in
    let slot = c.in-Some.slot in
    let some = front_there c.args.waiting.now c.args.lane (lane_of head.xid) c.requires.lane c.oldest.result (Some slot) c.oldest.ensures.value c.in-Some.is in
    let same = same_signed c.xid-expected.result slot.xid head.xid c.xid-expected.ensures (search rules) h.1.0.0 c.if-expected-head.false in
    let under = subst (λ (ps : List PartOp). IsReplyUnder head.xid slot.op ps c.args.payload.now) c.in-Some.ensures.fit.parts (c.in_ok-judge_reply.ensures.found refl) in
    let told : record { op = c.op-op.result; frame = c.frame-frame.result } ≡ record { op = slot.op; frame = slot.frame } = (λ i. record { op = c.op-op.ensures i; frame = c.frame-frame.ensures i }) in
    subst (λ (request : Replied). (r : Reply) × IsDueReply head.xid c.args.payload.now request c.args.waiting.now r) (sym told)
    (reply_is_due c.args.waiting.now c.args.payload.now head h.0 h.1 slot some same under)
