use Rattle.std.proofs.Common.{◌≤◌, length, arith, subst}
use Rattle.zk_records.specs.declared.profile.Profile.{Profile}
use Rattle.zk_asks.specs.Held.{ClientFrame}
use Rattle.zk_talk.specs.Settled.{IsAwaited}
use Rattle.zk_talk.proofs.{SayingPayloads.spoken_frames, SayingWritten.client_kind, SayingWritten.client_written}
use Rattle.zk_talk.proofs.written_message.await_written.Goals as goal

pub returns-in-Ok-clause-said : goal.returns-in-Ok-clause-said
returns-in-Ok-clause-said c = λ yes.
    let limits = c.args.limits in
    let n = c.from.result in
    let w = c.args.waiting.now in
    let x = c.await_ask.new.waiting in
    let p = c.args.payload.now in
    let small : length p ≤ limits.client = omega (arith, c.if-payload-client.false, c.client.ensures) in
    let a = subst (λ (z : Profile). (f : ClientFrame) × IsAwaited z n 0 p w x f) c.profile.ensures c.in-Ok.ensures.found in
    client_written limits c.args.asked n (spoken_frames c.args.asked n c.from.ensures) c.args.kind (c.is_next.ensures c.if-not-is_next.false) w x p c.requires.room small a.0 a.1

pub returns-in-Ok-clause-there : goal.returns-in-Ok-clause-there
returns-in-Ok-clause-there c = λ yes.
    let now = c.args in
    let f = subst (λ (z : Profile). (f : ClientFrame) × IsAwaited z c.from.result 0 now.payload.now now.waiting.now c.await_ask.new.waiting f) c.profile.ensures c.in-Ok.ensures.found in
    client_kind now.limits now.asked c.from.result (spoken_frames now.asked c.from.result c.from.ensures) now.kind (c.is_next.ensures c.if-not-is_next.false) now.waiting.now c.await_ask.new.waiting now.payload.now c.requires.room (omega (arith, c.if-payload-client.false, c.client.ensures)) f.0 f.1
