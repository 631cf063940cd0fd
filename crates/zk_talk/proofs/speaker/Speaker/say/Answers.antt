use Rattle.zk_talk.specs.contracts.speaker.Speaker.{the_view}
use Rattle.zk_talk.proofs.Speaking.{ok_client, ok_server, err_client, err_server, lacks_client, lacks_server}
use Rattle.zk_talk.proofs.Exclusions.{only_refused}
use Rattle.zk_talk.proofs.speaker.Speaker.say.Goals as goal

pub returns-in-Err-clause-err : goal.returns-in-Err-clause-err
returns-in-Err-clause-err c = rw (← c.self.view_is) (err_client (the_view c.self.inside) c.args.message.now c.in-Client.frame c.in-Err.e c.in-Client.is c.in-Err.ensures.err)

pub returns-in-Err-say_server-clause-err : goal.returns-in-Err-say_server-clause-err
returns-in-Err-say_server-clause-err c = rw (← c.self.view_is) (err_server (the_view c.self.inside) c.args.message.now c.in-Server.frame c.in-Err-say_server.e c.in-Server.is c.in-Err-say_server.ensures.err)

pub returns-in-Ok-clause-said : goal.returns-in-Ok-clause-said
returns-in-Ok-clause-said c = rw (← c.self.view_is) (ok_client (the_view c.self.inside) c.args.message.now c.in-Client.frame c.say_client.new.waiting c.in-Client.is c.in-Ok.ensures.max c.in-Ok.ensures.said)

pub returns-in-Ok-say_server-clause-said : goal.returns-in-Ok-say_server-clause-said
returns-in-Ok-say_server-clause-said c = rw (← c.self.view_is) (ok_server (the_view c.self.inside) c.args.message.now c.in-Server.frame c.say_server.new.waiting c.in-Server.is c.in-Ok-say_server.ensures.max c.in-Ok-say_server.ensures.said)

pub returns-in-Err-clause-exact : goal.returns-in-Err-clause-exact
returns-in-Err-clause-exact c = rw (← c.self.view_is) (only_refused (the_view c.self.inside) c.args.message.now c.in-Err.e (err_client (the_view c.self.inside) c.args.message.now c.in-Client.frame c.in-Err.e c.in-Client.is c.in-Err.ensures.err))

pub returns-in-Err-say_server-clause-exact : goal.returns-in-Err-say_server-clause-exact
returns-in-Err-say_server-clause-exact c = rw (← c.self.view_is) (only_refused (the_view c.self.inside) c.args.message.now c.in-Err-say_server.e (err_server (the_view c.self.inside) c.args.message.now c.in-Server.frame c.in-Err-say_server.e c.in-Server.is c.in-Err-say_server.ensures.err))

pub returns-in-Err-clause-lacks : goal.returns-in-Err-clause-lacks
returns-in-Err-clause-lacks c = rw (← c.self.view_is) (λ wanting. lacks_client (the_view c.self.inside) c.args.message.now c.in-Client.frame c.in-Client.is (c.in-Err.ensures.lacks wanting))

pub returns-in-Err-say_server-clause-lacks : goal.returns-in-Err-say_server-clause-lacks
returns-in-Err-say_server-clause-lacks c = rw (← c.self.view_is) (λ wanting. lacks_server (the_view c.self.inside) c.args.message.now c.in-Server.frame c.in-Server.is (c.in-Err-say_server.ensures.lacks wanting))
