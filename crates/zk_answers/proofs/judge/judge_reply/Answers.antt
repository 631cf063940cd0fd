use Rattle.std.proofs.Common.{sym, subst, ◌∙◌, arith}
use Rattle.std.specs.Prelude.{ℤ}
use Rattle.std.specs.Int.{w32}
use Rattle.std.proofs.{lemmas.Int.to_z-of_z, lemmas.Result.err_from_is_err_and}
use Rattle.zk_jute.proofs.Judged.{says_more, says_one}
use Rattle.zk_answers.specs.{Frames.rest_items, Faults.IsOfShape, Faults.rest_shape}
use Rattle.zk_answers.proofs.{Ends.behind_header, Ends.header_there, Ends.reply_there, Heads.head_is, Replies.rest_is, Refusals.reply_inside, Refusals.reply_left}
use Rattle.zk_answers.proofs.judge.judge_reply.Goals as goal

pub outcome_end-requires : goal.outcome_end-requires
outcome_end-requires g c =
    let h = c.requires.head in
    behind_header c.args.payload.now c.args.head.now h.0 h.1

pub returns-in_err-end-clause-fault : goal.returns-in_err-end-clause-fault
returns-in_err-end-clause-fault g c =
    let src = c.args.payload.now in
    let head = c.args.head.now in
    let h = c.requires.head in
    let p = err_from_is_err_and c.from_residual.result c.from_residual.ensures.1 in
    let op = g.F.Asked.operation c.args.form.now in
    let parts = g.F.Asked.part_ops c.args.form.now in
    rw (p.1, p.2) (says_more g.V.Verdict.tells _ _
    (λ e f. (reply_inside src head 16 (head_is head h.1.0) (header_there src head h.0 h.1) op parts e (rw (sym (to_z-of_z w32 head.err h.1.0.1.1.0)) f.0), f.1))
    c.in_err-end.field-0.0 c.in_err-end.ensures.fault)

pub returns-then-end-payload-clause-fault : goal.returns-then-end-payload-clause-fault
returns-then-end-payload-clause-fault g c =
    let src = c.args.payload.now in
    let head = c.args.head.now in
    let h = c.requires.head in
    let op = g.F.Asked.operation c.args.form.now in
    let parts = g.F.Asked.part_ops c.args.form.now in
    let k = c.in_ok-end.ensures.found in
    let err = k.1.2 ∙ to_z-of_z w32 head.err h.1.0.1.1.0 in
    let shape = subst (λ (e : ℤ). IsOfShape (rest_shape op parts e) (rest_items k.0)) err (rest_is op parts k.0 k.1.0 k.1.1 k.1.3) in
    says_one g.V.Verdict.tells _ _ (reply_left src head 16 (head_is head h.1.0) (header_there src head h.0 h.1) op parts (rest_items k.0) c.in_ok-end.end shape k.1.4 c.if-end-payload.true, λ e. cc) c.at.result c.at.ensures

pub returns-clause-found : goal.returns-clause-found
returns-clause-found g c = λ yes.
    let src = c.args.payload.now in
    let head = c.args.head.now in
    let h = c.requires.head in
    let op = g.F.Asked.operation c.args.form.now in
    let parts = g.F.Asked.part_ops c.args.form.now in
    let k = c.in_ok-end.ensures.found in
    let err = k.1.2 ∙ to_z-of_z w32 head.err h.1.0.1.1.0 in
    reply_there src head h.0 h.1 op parts k.0 c.in_ok-end.end c.requires.reply (k.1.0, k.1.1, err, k.1.3, k.1.4) (omega (arith, c.if-end-payload.false))
