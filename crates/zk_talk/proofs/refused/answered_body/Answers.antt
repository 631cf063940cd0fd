use Rattle.std.proofs.Common.{w32, FitsSigned, arith, ◌≡◌, ◌≢◌, pos}
use Rattle.std.proofs.lemmas.Int.{to_z-of_z, ints}
use Rattle.zk_asks.specs.Codes.{event_xid}
use Rattle.zk_talk.proofs.Bodies as B
use Rattle.zk_talk.proofs.refused.answered_body.Goals as goal

pub returns-in_default-clause-found : goal.returns-in_default-clause-found
returns-in_default-clause-found c =
    let f = c.in_default.ensures.fault in
    λ n m v d. B.no_head_none v c.args.payload.now f.0 c.in_default.field-0.reason f.1

pub returns-then-head-clause-found : goal.returns-then-head-clause-found
returns-then-head-clause-found c =
    let h = c.in-Ok.ensures.found in
    let fits : FitsSigned w32 c.in-Ok.head.xid = h.1.0.0 in
    let event : c.in-Ok.head.xid ≡ event_xid = omega (arith, ints, c.if-head.true) in
    λ n m v d. B.event_behind v c.args.payload.now c.in-Ok.head h.0 h.1 event

pub returns-in-None-clause-found : goal.returns-in-None-clause-found
returns-in-None-clause-found c =
    let h = c.in-Ok.ensures.found in
    let fits : FitsSigned w32 c.in-Ok.head.xid = h.1.0.0 in
    let other : c.in-Ok.head.xid ≢ event_xid = λ e. c.if-head.false (omega (arith, ints, e)) in
    λ n m v d. B.unanswered_none v c.args.payload.now c.in-Ok.head h.0 h.1 other (simp to_z-of_z at (c.in-None.ensures.found n m v d))

pub returns-in-Some-clause-found : goal.returns-in-Some-clause-found
returns-in-Some-clause-found c =
    let h = c.in-Ok.ensures.found in
    let fits : FitsSigned w32 c.in-Ok.head.xid = h.1.0.0 in
    let other : c.in-Ok.head.xid ≢ event_xid = λ e. c.if-head.false (omega (arith, ints, e)) in
    let efits : FitsSigned w32 c.in-Ok.head.err = h.1.0.1.1.0 in
    let err : c.in-Ok.head.err ≡ pos 0 = omega (arith, ints, c.if-head-ne0.false) in
    λ n m v d. B.reply_behind v c.args.payload.now c.in-Ok.head h.0 h.1 other err c.in-Some.op (simp to_z-of_z at (c.in-Some.ensures.found n m v d))
