use Rattle.std.proofs.Common.{rules, arith, ◌∙◌, ◌+◌, ℤ, refl, sym, ap, subst, w32, w64, SFits}
use Rattle.std.proofs.{lemmas.Int.to_z-of_z, lemmas.Result.err_from_is_err_and}
use Rattle.zk_jute.specs.declared.fault.ItemFault.{ItemFault}
use Rattle.zk_talk.specs.{declared.limits.Limits.Limits, declared.message.Side.TheVariants.Server, Fault.fault_of}
use Rattle.zk_talk.proofs.Answering.{received}
use Rattle.zk_through.specs.{contracts.through.Through.the_view, declared.fate.ServerFate.ServerFate, Turns.after_answer, Fates.HasServerFate}
use Rattle.zk_through.proofs.{Answering.bad_known, Refusals.refused_early, Steps.ready, Steps.outcome_within, Steps.received_whole, Steps.at_frame, Steps.carrying}
use Rattle.zk_through.proofs.AnsweringServer.{server_passed, server_left, server_over, server_bad, server_refused}
use Rattle.zk_through.proofs.through.Through.server_step.Goals as goal

pub returns-in_default-clause-ok : goal.returns-in_default-clause-ok
returns-in_default-clause-ok c =
    let T = the_view c.self.inside in
    let x = ready Server (the_view c.self.inside) c.args.self.now c.self.inside.limits c.self.invariant.0 c.self.invariant.2.same c.self.invariant.4.0 c.self.view_is c.requires.dropped in
    let w = received Server _ _ _ _ _ c.in_default.is c.in_ok-received.ensures.received in
    rw (← c.self.view_is, c.of.ensures, w.1) (outcome_within Server T (record T { server = c.receive.new.stream }) c.args.piece.now x w.0 refl refl)

pub returns-in_err-received-clause-err : goal.returns-in_err-received-clause-err
returns-in_err-received-clause-err c =
    let p = err_from_is_err_and c.from_residual.result c.from_residual.ensures.1 in
    rw (p.1, p.2, ← c.self.view_is) (refused_early Server (the_view c.self.inside) (record (the_view c.self.inside) { server = c.receive.new.stream; fault = c.receive.new.kept }) c.args.piece.now c.in_err-received.field-0.0 c.receive.new.stream (c.self.invariant.2.same ∙ ap (λ (l : Limits). l.server) (sym c.self.invariant.0)) c.in_err-received.ensures.received.0 c.in_err-received.ensures.received.1)

pub keep-requires : goal.keep-requires
keep-requires c = at_frame _ _ _ _ (received Server _ _ _ _ _ c.in-Some.is c.in_ok-received.ensures.received).0 (omega (arith, c.self.invariant.2.same, c.self.inside.limits.in_range)) c.self.invariant.2.count

pub keep-requires-in-LeftOut : goal.keep-requires-in-LeftOut
keep-requires-in-LeftOut c = at_frame _ _ _ _ (received Server _ _ _ _ _ c.in-Some.is c.in_ok-received.ensures.received).0 (omega (arith, c.self.invariant.2.same, c.self.inside.limits.in_range)) c.self.invariant.2.count

pub returns-in-Refused-clause-err : goal.returns-in-Refused-clause-err
returns-in-Refused-clause-err c =
    let x = ready Server (the_view c.self.inside) c.args.self.now c.self.inside.limits c.self.invariant.0 c.self.invariant.2.same c.self.invariant.4.0 c.self.view_is c.requires.dropped in
    let w = received_whole x _ _ _ _ _ c.in-Some.is c.in_ok-received.ensures.received in
    let n = c.count-number.result in
    let y = carrying w.0 c.payload-payload.result.now c.payload-payload.ensures in
    let after = c.server_fate.new.matched in
    let fate = subst (λ (z : ServerFate). HasServerFate c.self.inside.late c.self.inside.matched c.self.inside.turns n y.p z after) c.in-Refused.is c.server_fate.ensures in
    let told = c.refuse.ensures.told (λ e. bad_known c.self.inside.turns fate.0 c.in-Refused.reason fate.3 (sym (ap (λ (z : ItemFault). z.reason) c.at-item.ensures) ∙ e)) in
    rw (← c.self.view_is) (server_bad _ _ _ _ y n c.count-number.ensures c.refuse.result c.refuse.new.kept after after c.in-Refused.reason fate
    (told.0 ∙ (λ i. fault_of Server c.receive.new.stream.count (c.receive.new.stream.size + c.in-Some.new) (c.at-item.ensures i).place (c.at-item.ensures i).reason)) told.1)

pub returns-in-LeftOut-clause-ok : goal.returns-in-LeftOut-clause-ok
returns-in-LeftOut-clause-ok c =
    let x = ready Server (the_view c.self.inside) c.args.self.now c.self.inside.limits c.self.invariant.0 c.self.invariant.2.same c.self.invariant.4.0 c.self.view_is c.requires.dropped in
    let w = received_whole x _ _ _ _ _ c.in-Some.is c.in_ok-received.ensures.received in
    let n = c.count-number.result in
    let y = carrying w.0 c.payload-payload.result.now c.payload-payload.ensures in
    let after = c.server_fate.new.matched in
    let fate = subst (λ (z : ServerFate). HasServerFate c.self.inside.late c.self.inside.matched c.self.inside.turns n y.p z after) c.in-LeftOut.is c.server_fate.ensures in
    let turn = c.in-LeftOut.turn in
    let fits : SFits w32 turn.xid = search rules in
    let less = c.answer.ensures.now ∙ ap (λ (z : ℤ). after_answer z c.self.inside.turns) (to_z-of_z w32 turn.xid fits) in
    rw (← c.self.view_is, c.of-in-LeftOut.ensures, w.1) (server_left _ _ _ _ y n c.count-number.ensures c.keep-in-LeftOut.new.self c.answer.new.self after _ turn fate c.keep-in-LeftOut.ensures less refl)

pub returns-in_err-tell-in-Told-clause-err : goal.returns-in_err-tell-in-Told-clause-err
returns-in_err-tell-in-Told-clause-err c =
    let p = err_from_is_err_and c.from_residual-in_err-tell-in-Told.result c.from_residual-in_err-tell-in-Told.ensures.1 in
    let x = ready Server (the_view c.self.inside) c.args.self.now c.self.inside.limits c.self.invariant.0 c.self.invariant.2.same c.self.invariant.4.0 c.self.view_is c.requires.dropped in
    let w = received_whole x _ _ _ _ _ c.in-Some.is c.in_ok-received.ensures.received in
    let n = c.count-number.result in
    let y = carrying w.0 c.payload-payload.result.now c.payload-payload.ensures in
    let after = c.server_fate.new.matched in
    let fate = subst (λ (z : ServerFate). HasServerFate c.self.inside.late c.self.inside.matched c.self.inside.turns n y.p z after) c.in-Told.is c.server_fate.ensures in
    let t = c.in_err-tell-in-Told.ensures in
    rw (p.1, p.2, ← c.self.view_is) (server_refused _ _ _ _ y n c.count-number.ensures c.in-Told.xid c.in-Told.frame after fate c.in_err-tell-in-Told.field-0.0 c.tell.new.kept after c.tell.new.stream c.tell.new.talk t.told t.err)

pub returns-in_ok-tell-in-Told-clause-ok : goal.returns-in_ok-tell-in-Told-clause-ok
returns-in_ok-tell-in-Told-clause-ok c =
    let x = ready Server (the_view c.self.inside) c.args.self.now c.self.inside.limits c.self.invariant.0 c.self.invariant.2.same c.self.invariant.4.0 c.self.view_is c.requires.dropped in
    let w = received_whole x _ _ _ _ _ c.in-Some.is c.in_ok-received.ensures.received in
    let n = c.count-number.result in
    let y = carrying w.0 c.payload-payload.result.now c.payload-payload.ensures in
    let after = c.server_fate.new.matched in
    let fate = subst (λ (z : ServerFate). HasServerFate c.self.inside.late c.self.inside.matched c.self.inside.turns n y.p z after) c.in-Told.is c.server_fate.ensures in
    let t = c.in_ok-tell-in-Told.ensures in
    rw (← c.self.view_is, c.of-in-Told.ensures, t.passed.1, w.1) (server_passed _ _ _ _ y n c.count-number.ensures c.tell.new.stream c.tell.new.talk c.reply.new.self after c.in-Told.frame t.passed.0 t.limits t.ok c.in-Told.xid fate c.reply.ensures.now)

pub returns-in-Unseen-clause-ok : goal.returns-in-Unseen-clause-ok
returns-in-Unseen-clause-ok c =
    let x = ready Server (the_view c.self.inside) c.args.self.now c.self.inside.limits c.self.invariant.0 c.self.invariant.2.same c.self.invariant.4.0 c.self.view_is c.requires.dropped in
    let w = received_whole x _ _ _ _ _ c.in-Some.is c.in_ok-received.ensures.received in
    let n = c.count-number.result in
    let y = carrying w.0 c.payload-payload.result.now c.payload-payload.ensures in
    let after = c.server_fate.new.matched in
    let fate = subst (λ (z : ServerFate). HasServerFate c.self.inside.late c.self.inside.matched c.self.inside.turns n y.p z after) c.in-Unseen.is c.server_fate.ensures in
    let xid : SFits w32 c.in-Unseen.xid = search rules in
    let zxid : SFits w64 c.in-Unseen.zxid = search rules in
    let err : SFits w32 c.in-Unseen.err = search rules in
    rw (← c.self.view_is, c.of-in-Unseen.ensures, w.1, to_z-of_z w32 c.in-Unseen.xid xid, to_z-of_z w64 c.in-Unseen.zxid zxid, to_z-of_z w32 c.in-Unseen.err err) (server_over _ _ _ _ y n c.count-number.ensures c.keep.new.self after c.in-Unseen.xid c.in-Unseen.zxid c.in-Unseen.err fate c.keep.ensures)

pub returns-in_err-tell-in-Told-clause-waits : goal.returns-in_err-tell-in-Told-clause-waits
returns-in_err-tell-in-Told-clause-waits c =
    let p = err_from_is_err_and c.from_residual-in_err-tell-in-Told.result c.from_residual-in_err-tell-in-Told.ensures.1 in
    rw (p.1, ← c.self.view_is) (refl, c.in_err-tell-in-Told.ensures.waits)
