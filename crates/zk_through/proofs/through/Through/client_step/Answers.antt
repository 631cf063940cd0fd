use Rattle.std.proofs.Common.{◌∙◌, refl, sym, ap, subst, arith}
use Rattle.std.proofs.lemmas.Result.{err_from_is_err_and}
use Rattle.zk_talk.specs.{declared.limits.Limits.Limits, declared.message.Side.TheVariants.Client}
use Rattle.zk_talk.proofs.Answering.{received}
use Rattle.zk_through.specs.{contracts.through.Through.the_view, Fates.HasClientFate}
use Rattle.zk_through.proofs.AnsweringClient.{client_told, client_left, client_full, client_refused, is_full}
use Rattle.zk_through.proofs.{Refusals.refused_early, Steps.ready, Steps.outcome_within, Steps.received_whole, Steps.carrying}
use Rattle.zk_through.proofs.through.Through.client_step.Goals as goal

pub returns-in_default-clause-ok : goal.returns-in_default-clause-ok
returns-in_default-clause-ok c =
    let T = the_view c.self.inside in
    let x = ready Client (the_view c.self.inside) c.args.self.now c.self.inside.limits c.self.invariant.0 c.self.invariant.1.same c.self.invariant.4.0 c.self.view_is c.requires.dropped in
    let w = received Client _ _ _ _ _ c.in_default.is c.in_ok-received.ensures.received in
    rw (← c.self.view_is, c.of.ensures, w.1) (outcome_within Client T (record T { client = c.receive.new.stream }) c.args.piece.now x w.0 refl refl)

pub returns-in_err-received-clause-err : goal.returns-in_err-received-clause-err
returns-in_err-received-clause-err c =
    let p = err_from_is_err_and c.from_residual.result c.from_residual.ensures.1 in
    rw (p.1, p.2, ← c.self.view_is) (refused_early Client (the_view c.self.inside) (record (the_view c.self.inside) { client = c.receive.new.stream; fault = c.receive.new.kept }) c.args.piece.now c.in_err-received.field-0.0 c.receive.new.stream (c.self.invariant.1.same ∙ ap (λ (l : Limits). l.client) (sym c.self.invariant.0)) c.in_err-received.ensures.received.0 c.in_err-received.ensures.received.1)

pub client_fate-requires-clause-small : goal.client_fate-requires-clause-small
client_fate-requires-clause-small c =
    let x = ready Client (the_view c.self.inside) c.args.self.now c.self.inside.limits c.self.invariant.0 c.self.invariant.1.same c.self.invariant.4.0 c.self.view_is c.requires.dropped in
    let w = received_whole x _ _ _ _ _ c.in-Some.is c.in_ok-received.ensures.received in
    let y = carrying w.0 c.payload-payload.result.now c.payload-payload.ensures in
    omega (arith, y.fits, c.self.inside.limits.in_range, ap (λ (l : Limits). l.client) c.self.invariant.0)

pub returns-in-Full-clause-ok : goal.returns-in-Full-clause-ok
returns-in-Full-clause-ok c =
    let x = ready Client (the_view c.self.inside) c.args.self.now c.self.inside.limits c.self.invariant.0 c.self.invariant.1.same c.self.invariant.4.0 c.self.view_is c.requires.dropped in
    let w = received_whole x _ _ _ _ _ c.in-Some.is c.in_ok-received.ensures.received in
    let n = c.count-number.result in
    let y = carrying w.0 c.payload-payload.result.now c.payload-payload.ensures in
    let fate = subst (HasClientFate c.self.inside.talk c.self.inside.turns n y.p) c.in-Full.is c.client_fate.ensures in
    rw (← c.self.view_is, c.of-in-Full.ensures, w.1) (client_full _ _ _ _ y n c.count-number.ensures c.take_back.new.self c.take_back.ensures (is_full _ _ _ _ y n c.count-number.ensures fate))

pub returns-in-LeftOut-clause-ok : goal.returns-in-LeftOut-clause-ok
returns-in-LeftOut-clause-ok c =
    let x = ready Client (the_view c.self.inside) c.args.self.now c.self.inside.limits c.self.invariant.0 c.self.invariant.1.same c.self.invariant.4.0 c.self.view_is c.requires.dropped in
    let w = received_whole x _ _ _ _ _ c.in-Some.is c.in_ok-received.ensures.received in
    let n = c.count-number.result in
    let y = carrying w.0 c.payload-payload.result.now c.payload-payload.ensures in
    let fate = subst (HasClientFate c.self.inside.talk c.self.inside.turns n y.p) c.in-LeftOut.is c.client_fate.ensures in
    rw (← c.self.view_is, c.of-in-LeftOut.ensures, w.1) (client_left _ _ _ _ y n c.count-number.ensures c.keep.new.self c.leave.new.self c.in-LeftOut.turn fate c.keep.ensures c.leave.ensures.now)

pub returns-in_err-tell-in-Told-clause-err : goal.returns-in_err-tell-in-Told-clause-err
returns-in_err-tell-in-Told-clause-err c =
    let t = c.in_err-tell-in-Told.ensures in
    let p = err_from_is_err_and c.from_residual-in_err-tell-in-Told.result c.from_residual-in_err-tell-in-Told.ensures.1 in
    let x = ready Client (the_view c.self.inside) c.args.self.now c.self.inside.limits c.self.invariant.0 c.self.invariant.1.same c.self.invariant.4.0 c.self.view_is c.requires.dropped in
    let w = received_whole x _ _ _ _ _ c.in-Some.is c.in_ok-received.ensures.received in
    let n = c.count-number.result in
    let y = carrying w.0 c.payload-payload.result.now c.payload-payload.ensures in
    let fate = subst (HasClientFate c.self.inside.talk c.self.inside.turns n y.p) c.in-Told.is c.client_fate.ensures in
    rw (p.1, p.2, ← c.self.view_is) (client_refused _ _ _ _ y n c.count-number.ensures c.in-Told.turn fate c.in_err-tell-in-Told.field-0.0 c.tell.new.kept c.tell.new.stream c.tell.new.talk t.told t.err)

pub returns-in_ok-tell-in-Told-clause-ok : goal.returns-in_ok-tell-in-Told-clause-ok
returns-in_ok-tell-in-Told-clause-ok c =
    let x = ready Client (the_view c.self.inside) c.args.self.now c.self.inside.limits c.self.invariant.0 c.self.invariant.1.same c.self.invariant.4.0 c.self.view_is c.requires.dropped in
    let w = received_whole x _ _ _ _ _ c.in-Some.is c.in_ok-received.ensures.received in
    let n = c.count-number.result in
    let y = carrying w.0 c.payload-payload.result.now c.payload-payload.ensures in
    let t = c.in_ok-tell-in-Told.ensures in
    let fate = subst (HasClientFate c.self.inside.talk c.self.inside.turns n y.p) c.in-Told.is c.client_fate.ensures in
    rw (← c.self.view_is, c.of-in-Told.ensures, t.passed.1, w.1) (client_told _ _ _ _ y n c.count-number.ensures c.tell.new.stream c.tell.new.talk c.ask.new.self t.passed.0 t.limits t.ok c.in-Told.turn fate c.ask.ensures.now)

pub returns-in_err-tell-in-Told-clause-waits : goal.returns-in_err-tell-in-Told-clause-waits
returns-in_err-tell-in-Told-clause-waits c =
    let p = err_from_is_err_and c.from_residual-in_err-tell-in-Told.result c.from_residual-in_err-tell-in-Told.ensures.1 in
    rw (p.1, ← c.self.view_is) (refl, c.in_err-tell-in-Told.ensures.waits)
