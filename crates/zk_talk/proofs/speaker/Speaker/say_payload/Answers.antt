use Rattle.zk_talk.specs.contracts.speaker.Speaker.{the_view}
use Rattle.zk_talk.proofs.SayingPayloads.{ok_client_payload, ok_server_payload, err_client_payload, err_server_payload, lacks_client_payload, lacks_server_payload, cannot_say}
use Rattle.zk_talk.proofs.speaker.Speaker.say_payload.Goals as goal

pub returns-in-Err-clause-err : goal.returns-in-Err-clause-err
returns-in-Err-clause-err c = rw (c.in-Client.is, ← c.self.view_is) (err_client_payload (the_view c.self.inside) c.args.payload.now c.in-Err.e c.in-Err.ensures.err)

pub returns-in-Err-say_server_payload-clause-err : goal.returns-in-Err-say_server_payload-clause-err
returns-in-Err-say_server_payload-clause-err c = rw (c.in-Server.is, ← c.self.view_is) (err_server_payload (the_view c.self.inside) c.args.payload.now c.in-Err-say_server_payload.e c.in-Err-say_server_payload.ensures.err)

pub returns-in-Err-clause-lacks : goal.returns-in-Err-clause-lacks
returns-in-Err-clause-lacks c = rw (c.in-Client.is, ← c.self.view_is) (λ wanting. lacks_client_payload (the_view c.self.inside) c.args.payload.now (c.in-Err.ensures.lacks wanting))

pub returns-in-Err-say_server_payload-clause-lacks : goal.returns-in-Err-say_server_payload-clause-lacks
returns-in-Err-say_server_payload-clause-lacks c = rw (c.in-Server.is, ← c.self.view_is) (λ wanting. lacks_server_payload (the_view c.self.inside) c.args.payload.now (c.in-Err-say_server_payload.ensures.lacks wanting))

pub returns-in-Err-clause-exact : goal.returns-in-Err-clause-exact
returns-in-Err-clause-exact c =
    let s = the_view c.self.inside in
    let p = c.args.payload.now in
    rw (c.in-Client.is, ← c.self.view_is) (cannot_say s p _ c.in-Err.e (err_client_payload s p c.in-Err.e c.in-Err.ensures.err))

pub returns-in-Err-say_server_payload-clause-exact : goal.returns-in-Err-say_server_payload-clause-exact
returns-in-Err-say_server_payload-clause-exact c =
    let s = the_view c.self.inside in
    let p = c.args.payload.now in
    rw (c.in-Server.is, ← c.self.view_is) (cannot_say s p _ c.in-Err-say_server_payload.e (err_server_payload s p c.in-Err-say_server_payload.e c.in-Err-say_server_payload.ensures.err))

pub returns-in-Ok-clause-said : goal.returns-in-Ok-clause-said
returns-in-Ok-clause-said c = rw (c.in-Client.is, ← c.self.view_is) (ok_client_payload (the_view c.self.inside) c.args.payload.now c.say_client_payload.new.waiting c.in-Ok.ensures.max c.in-Ok.ensures.said)

pub returns-in-Ok-say_server_payload-clause-said : goal.returns-in-Ok-say_server_payload-clause-said
returns-in-Ok-say_server_payload-clause-said c = rw (c.in-Server.is, ← c.self.view_is) (ok_server_payload (the_view c.self.inside) c.args.payload.now c.say_server_payload.new.waiting c.in-Ok-say_server_payload.ensures.max c.in-Ok-say_server_payload.ensures.said)
