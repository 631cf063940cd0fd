use Rattle.std.proofs.Common.{◌≡◌, Ok, Err, refl, sym, subst, inr, drop}
use Rattle.std.proofs.lemmas.Result.{err_from_is_err_and}
use Rattle.zk_records.specs.declared.op.Op.{Op}
use Rattle.zk_answers.specs.{Held.ServerFrame, Frames.IsReplyOf, Frames.IsReplyTo, Frames.IsSent, Frames.payload, Faults.IsReplyFault}
use Rattle.zk_answers.specs.declared.frame.ServerFrameOf.TheVariants as frame
use Rattle.zk_answers.proofs.{Refusals.head_of, Refusals.reply_short, Replies.reply_injective, Replies.reply_excludes, Replies.reply_of, Scanned.only_it}
use Rattle.zk_answers.proofs.borrow.borrow_reply.Goals as goal

pub returns-in_err-head-clause-fault : goal.returns-in_err-head-clause-fault
returns-in_err-head-clause-fault g c =
    let p = err_from_is_err_and c.from_residual.result c.from_residual.ensures.1 in
    let e = c.in_err-head.ensures.fault in
    rw (p.1, p.2) (reply_short (g.F.Asked.operation c.args.form.now) (g.F.Asked.part_ops c.args.form.now) c.args.payload.now c.in_err-head.field-0.0 (inr e.0), e.1)

pub returns-in_err-head-clause-only : goal.returns-in_err-head-clause-only
returns-in_err-head-clause-only g c =
    let p = err_from_is_err_and c.from_residual.result c.from_residual.ensures.1 in
    let op = g.F.Asked.operation c.args.form.now in
    let parts = g.F.Asked.part_ops c.args.form.now in
    let e = c.in_err-head.ensures.fault in
    rw (p.1, p.2) (only_it (IsReplyTo op parts) (IsReplyFault op parts) c.args.payload.now (Err c.in_err-head.field-0.0) tt (reply_short op parts c.args.payload.now c.in_err-head.field-0.0 (inr e.0), e.1) (reply_injective op parts) (reply_excludes op parts))

pub judge_reply-requires-clause-head : goal.judge_reply-requires-clause-head
judge_reply-requires-clause-head g c =
    let src = c.args.payload.now in
    let f = c.in_ok-head.ensures.found in
    (drop c.in_ok-head.field-0-1 src, head_of src c.in_ok-head.head c.in_ok-head.field-0-1 f.0 f.1)

pub judge_reply-requires-clause-reply : goal.judge_reply-requires-clause-reply
judge_reply-requires-clause-reply g c =
    let f = c.in_ok-head.ensures.found in
    c.requires c.in_ok-head.head _ (head_of c.args.payload.now c.in_ok-head.head c.in_ok-head.field-0-1 f.0 f.1)

pub known_reply-requires : goal.known_reply-requires
known_reply-requires g c =
    let r = c.in_ok-judge_reply.ensures.found refl in
    (frame.Answered r.0, subst (λ (o : Op). IsReplyOf o (frame.Answered r.0)) (sym c.op.ensures) (reply_of _ (g.F.Asked.part_ops c.args.form.now) (frame.Answered r.0) r.2), (r.3.1, r.3.2), r.4)

pub returns-clause-found : goal.returns-clause-found
returns-clause-found g c =
    let r = c.in_ok-judge_reply.ensures.found refl in
    let op = g.F.Asked.operation c.args.form.now in
    let parts = g.F.Asked.part_ops c.args.form.now in
    let is = c.known_reply.ensures (frame.Answered r.0) (subst (λ (o : Op). IsReplyOf o (frame.Answered r.0)) (sym c.op.ensures) (reply_of op parts (frame.Answered r.0) r.2)) (r.3.1, r.3.2) r.4 in
    subst (λ (s : ServerFrame). IsReplyTo op parts s × IsSent s × (c.args.payload.now ≡ payload s)) (sym is) (r.2, r.3, r.4)

pub returns-clause-only : goal.returns-clause-only
returns-clause-only g c =
    let op = g.F.Asked.operation c.args.form.now in
    let parts = g.F.Asked.part_ops c.args.form.now in
    only_it (IsReplyTo op parts) (IsReplyFault op parts) c.args.payload.now (Ok c.known_reply.result) (returns-clause-found g c) tt (reply_injective op parts) (reply_excludes op parts)

pub returns-in_err-judge_reply-clause-only : goal.returns-in_err-judge_reply-clause-only
returns-in_err-judge_reply-clause-only g c =
    let p = err_from_is_err_and c.from_residual-in_err-judge_reply.result c.from_residual-in_err-judge_reply.ensures.1 in
    let op = g.F.Asked.operation c.args.form.now in
    let parts = g.F.Asked.part_ops c.args.form.now in
    let e = c.in_err-judge_reply in
    rw (p.1, p.2) (only_it (IsReplyTo op parts) (IsReplyFault op parts) c.args.payload.now (Err e.field-0.0) tt e.ensures.fault (reply_injective op parts) (reply_excludes op parts))
