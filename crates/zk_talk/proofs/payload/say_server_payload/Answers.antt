use Rattle.std.proofs.Common.{◌≤◌, ◌<◌, length, arith, inr}
use Rattle.zk_talk.proofs.Judging.{due_waits}
use Rattle.zk_talk.proofs.SayingPayloads.{server_payload_said, server_payload_stands, server_payload_long, server_payload_item}
use Rattle.zk_talk.proofs.payload.say_server_payload.Goals as goal

pub returns-in-Err-clause-err : goal.returns-in-Err-clause-err
returns-in-Err-clause-err c = inr (server_payload_item c.args.limits c.args.asked c.args.welcomed c.args.waiting.now c.args.payload.now c.in-Err.item c.in-Err.ensures.fault.1)

pub returns-then-payload-server-clause-err : goal.returns-then-payload-server-clause-err
returns-then-payload-server-clause-err c =
    let k = c.in-Ok.ensures.found in
    let over : c.args.limits.server < length c.args.payload.now = omega (arith, c.if-payload-server.true, c.server.ensures) in
    inr (server_payload_long c.args.limits c.args.asked c.args.welcomed c.args.waiting.now c.args.payload.now k.0 k.1.is k.1.may over)

pub returns-in_default-clause-lacks : goal.returns-in_default-clause-lacks
returns-in_default-clause-lacks c =
    let k = c.in-Ok.ensures.found in
    let small : length c.args.payload.now ≤ c.args.limits.server = omega (arith, c.if-payload-server.false, c.server.ensures) in
    λ wanting. server_payload_stands c.args.limits c.args.asked c.args.welcomed c.args.waiting.now c.args.payload.now k.0 k.1.is k.1.may small

pub forget_asked-requires : goal.forget_asked-requires
forget_asked-requires c = let k = c.in-Ok.ensures.found in (k.0, k.1.replies, due_waits c.args.waiting.now k.0 k.1.due)

pub returns-clause-said : goal.returns-clause-said
returns-clause-said c =
    let k = c.in-Ok.ensures.found in
    let small : length c.args.payload.now ≤ c.args.limits.server = omega (arith, c.if-payload-server.false, c.server.ensures) in
    server_payload_said c.args.limits c.args.asked c.args.welcomed c.args.waiting.now c.args.payload.now k.0 k.1.is k.1.may c.forget_asked.new.waiting (due_waits c.args.waiting.now k.0 k.1.due) small (c.forget_asked.ensures.forgotten k.0 k.1.replies)
