use Rattle.std.proofs.Common.{◌≤◌, length, arith}
use Rattle.zk_talk.proofs.{Judging.due_waits, SayingWritten.server_kind, SayingWritten.server_written}
use Rattle.zk_talk.proofs.written_message.forget_written.Goals as goal

pub forget_asked-requires : goal.forget_asked-requires
forget_asked-requires c = let k = c.in-Ok.ensures.found in (k.0, k.1.replies, due_waits c.args.waiting.now k.0 k.1.due)

pub returns-clause-said : goal.returns-clause-said
returns-clause-said c = λ yes.
    let k = c.in-Ok.ensures.found in
    let small : length c.args.payload.now ≤ c.args.limits.server = omega (arith, c.if-payload-server.false, c.server.ensures) in
    server_written c.args.limits c.args.asked c.args.welcomed c.args.waiting.now c.forget_asked.new.waiting c.args.payload.now small c.args.kind c.in-Ok.answer k.0 k.1 (c.is_answer.ensures c.if-not-is_answer.false k.0 c.args.waiting.now k.1.turn k.1.replies) (c.forget_asked.ensures.forgotten k.0 k.1.replies)

pub returns-clause-there : goal.returns-clause-there
returns-clause-there c = λ yes.
    let k = c.in-Ok.ensures.found in
    let small : length c.args.payload.now ≤ c.args.limits.server = omega (arith, c.if-payload-server.false, c.server.ensures) in
    server_kind c.args.limits c.args.asked c.args.welcomed c.args.waiting.now c.forget_asked.new.waiting c.args.payload.now small c.args.kind c.in-Ok.answer k.0 k.1 (c.is_answer.ensures c.if-not-is_answer.false k.0 c.args.waiting.now k.1.turn k.1.replies) (c.forget_asked.ensures.forgotten k.0 k.1.replies)
