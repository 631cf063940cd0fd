use Rattle.std.proofs.Common.{◌∙◌}
use Rattle.zk_talk.specs.contracts.speaker.Speaker.{the_view}
use Rattle.zk_talk.proofs.SayingWritten.{ok_client_kind, ok_client_written, ok_server_kind, ok_server_written}
use Rattle.zk_talk.proofs.speaker.Speaker.judge_written.Goals as goal

pub returns-else-not-await_written-clause-said : goal.returns-else-not-await_written-clause-said
returns-else-not-await_written-clause-said c = λ yes.
    rw (← c.self.view_is) (ok_client_written (the_view c.self.inside) c.args.kind c.args.payload.now c.await_written.new.waiting c.await_written.ensures.max (λ m e. c.side.ensures m e ∙ c.in-Client.is) (c.await_written.ensures.said c.if-not-await_written.false))

pub returns-else-not-forget_written-clause-said : goal.returns-else-not-forget_written-clause-said
returns-else-not-forget_written-clause-said c = λ yes.
    rw (← c.self.view_is) (ok_server_written (the_view c.self.inside) c.args.kind c.args.payload.now c.forget_written.new.waiting c.forget_written.ensures.max (λ m e. c.side.ensures m e ∙ c.in-Server.is) (c.forget_written.ensures.said c.if-not-forget_written.false))

pub returns-else-not-await_written-clause-there : goal.returns-else-not-await_written-clause-there
returns-else-not-await_written-clause-there c = λ yes.
    rw (← c.self.view_is) (ok_client_kind (the_view c.self.inside) c.args.kind c.args.payload.now c.await_written.new.waiting c.await_written.ensures.max (c.await_written.ensures.there c.if-not-await_written.false))

pub returns-else-not-forget_written-clause-there : goal.returns-else-not-forget_written-clause-there
returns-else-not-forget_written-clause-there c = λ yes.
    rw (← c.self.view_is) (ok_server_kind (the_view c.self.inside) c.args.kind c.args.payload.now c.forget_written.new.waiting c.forget_written.ensures.max (c.forget_written.ensures.there c.if-not-forget_written.false))
