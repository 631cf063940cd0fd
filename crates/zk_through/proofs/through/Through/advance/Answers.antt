use Rattle.std.proofs.Common.{◌∙◌, sym, ap}
use Rattle.zk_talk.specs.declared.message.Side.TheVariants.{Client, Server}
use Rattle.zk_through.specs.Runs.{ThroughState}
use Rattle.zk_through.proofs.Given.{given_itself, given_waits, kept_refused, outcome_then, refused_then, room_then}
use Rattle.zk_through.proofs.Never.{never_full}
use Rattle.zk_through.proofs.through.Through.advance.Goals as goal

pub returns-in-Some-clause-err : goal.returns-in-Some-clause-err
returns-in-Some-clause-err c = kept_refused c.args.side c.args.self.now c.drop_kept.new.self c.drop_kept.ensures c.args.piece.now c.in-Some.fault (ap (λ (t : ThroughState). t.fault) (sym c.self.view_is) ∙ c.in-Some.is)

pub returns-in-Some-clause-other : goal.returns-in-Some-clause-other
returns-in-Some-clause-other c = rw c.drop_kept.ensures (given_itself c.args.side c.args.self.now)

pub returns-in-Client-clause-ok : goal.returns-in-Client-clause-ok
returns-in-Client-clause-ok c = outcome_then c.args.side Client c.in-Client.is c.args.self.now c.drop_kept.new.self c.client_step.new.self c.drop_kept.ensures c.args.piece.now c.client_step.result c.client_step.ensures.ok

pub returns-in-Client-clause-err : goal.returns-in-Client-clause-err
returns-in-Client-clause-err c = refused_then c.args.side Client c.in-Client.is c.args.self.now c.drop_kept.new.self c.client_step.new.self c.drop_kept.ensures c.args.piece.now c.client_step.result c.client_step.ensures.err

pub returns-in-Client-clause-room : goal.returns-in-Client-clause-room
returns-in-Client-clause-room c = room_then c.args.side Client c.in-Client.is c.args.self.now c.drop_kept.new.self c.client_step.new.self c.drop_kept.ensures c.args.piece.now c.client_step.result c.client_step.ensures.err

pub returns-in-Server-clause-ok : goal.returns-in-Server-clause-ok
returns-in-Server-clause-ok c = outcome_then c.args.side Server c.in-Server.is c.args.self.now c.drop_kept.new.self c.server_step.new.self c.drop_kept.ensures c.args.piece.now c.server_step.result c.server_step.ensures.ok

pub returns-in-Server-clause-err : goal.returns-in-Server-clause-err
returns-in-Server-clause-err c = refused_then c.args.side Server c.in-Server.is c.args.self.now c.drop_kept.new.self c.server_step.new.self c.drop_kept.ensures c.args.piece.now c.server_step.result c.server_step.ensures.err

pub returns-in-Server-clause-room : goal.returns-in-Server-clause-room
returns-in-Server-clause-room c = room_then c.args.side Server c.in-Server.is c.args.self.now c.drop_kept.new.self c.server_step.new.self c.drop_kept.ensures c.args.piece.now c.server_step.result c.server_step.ensures.err

pub returns-in-Some-clause-room : goal.returns-in-Some-clause-room
returns-in-Some-clause-room c =
    let refused = kept_refused c.args.side c.args.self.now c.drop_kept.new.self c.drop_kept.ensures c.args.piece.now c.in-Some.fault (ap (λ (t : ThroughState). t.fault) (sym c.self.view_is) ∙ c.in-Some.is) in
    never_full c.args.side c.args.self.now c.args.piece.now c.in-Some.fault c.drop_kept.new.self refused

pub returns-in-Some-clause-waits : goal.returns-in-Some-clause-waits
returns-in-Some-clause-waits c = rw c.drop_kept.ensures (given_waits c.args.side c.args.self.now)
