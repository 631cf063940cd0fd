use Rattle.std.proofs.Common.{rules, w32, sym, ap, subst, ◌∙◌, FitsSigned, arith, ◌≡◌, ◌≢◌, Some, None}
use Rattle.std.specs.Prelude.{slice_get}
use Rattle.std.proofs.lemmas.Int.{to_z-of_z, ints}
use Rattle.zk_waiting.specs.{Lane.lane_of, Waiting.queue_on}
use Rattle.zk_talk.specs.Refused.{AnswersOp}
use Rattle.zk_talk.proofs.Bodies as B
use Rattle.zk_talk.proofs.refused.answered_op.Goals as goal

pub returns-in-None-clause-found : goal.returns-in-None-clause-found
returns-in-None-clause-found c =
    let fits : FitsSigned w32 c.args.xid = search rules in
    let lane : c.lane_of.result ≡ lane_of c.args.xid = simp to_z-of_z at c.lane_of.ensures in
    let none : slice_get (queue_on (lane_of c.args.xid) c.args.waiting.now) 0 ≡ None = sym (ap (λ z. slice_get (queue_on z c.args.waiting.now) 0) lane) ∙ sym c.oldest.ensures.value ∙ c.in-None.is in
    λ n m v d. B.nothing_none n m c.args.waiting.now v d c.args.xid none

pub returns-then-xid-clause-found : goal.returns-then-xid-clause-found
returns-then-xid-clause-found c =
    let fits : FitsSigned w32 c.args.xid = search rules in
    let lane : c.lane_of.result ≡ lane_of c.args.xid = simp to_z-of_z at c.lane_of.ensures in
    let some : slice_get (queue_on (lane_of c.args.xid) c.args.waiting.now) 0 ≡ Some c.in-Some.slot = sym (ap (λ z. slice_get (queue_on z c.args.waiting.now) 0) lane) ∙ sym c.oldest.ensures.value ∙ c.in-Some.is in
    let other : c.in-Some.slot.xid ≢ c.args.xid = λ e. c.if-xid.true (omega (arith, ints, e, c.xid.ensures)) in
    λ n m v d. B.other_none n m c.args.waiting.now v d c.args.xid c.in-Some.slot some other

pub returns-in-Multi-clause-found : goal.returns-in-Multi-clause-found
returns-in-Multi-clause-found c =
    let fits : FitsSigned w32 c.args.xid = search rules in
    let lane : c.lane_of.result ≡ lane_of c.args.xid = simp to_z-of_z at c.lane_of.ensures in
    let some : slice_get (queue_on (lane_of c.args.xid) c.args.waiting.now) 0 ≡ Some c.in-Some.slot = sym (ap (λ z. slice_get (queue_on z c.args.waiting.now) 0) lane) ∙ sym c.oldest.ensures.value ∙ c.in-Some.is in
    λ n m v d. B.multi_none n m c.args.waiting.now v d c.args.xid c.in-Some.slot some (sym c.op.ensures ∙ c.in-Multi.is)

pub returns-in_default-clause-found : goal.returns-in_default-clause-found
returns-in_default-clause-found c =
    let fits : FitsSigned w32 c.args.xid = search rules in
    let lane : c.lane_of.result ≡ lane_of c.args.xid = simp to_z-of_z at c.lane_of.ensures in
    let some : slice_get (queue_on (lane_of c.args.xid) c.args.waiting.now) 0 ≡ Some c.in-Some.slot = sym (ap (λ z. slice_get (queue_on z c.args.waiting.now) 0) lane) ∙ sym c.oldest.ensures.value ∙ c.in-Some.is in
    let same : c.in-Some.slot.xid ≡ c.args.xid = omega (arith, ints, c.if-xid.false, c.xid.ensures) in
    λ n m v d. subst (AnswersOp v c.args.xid) (sym c.op.ensures) (B.op_found n m c.args.waiting.now v d c.args.xid c.in-Some.slot some same (λ e. c.in_default.not-Multi (c.op.ensures ∙ e)))
