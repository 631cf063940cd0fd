use Rattle.std.proofs.Common.{rules}
use Rattle.zk_answers.specs.declared.frame.ServerFrameOf.TheVariants as server
use Rattle.zk_fields.specs.declared.value.Heads.TheVariants as head
use Rattle.zk_fields.specs.Written.{answer_front, done_behind, Writes, AnswersAgain}
use Rattle.zk_c.proofs.write.zk_write_reply.Goals as goal

pub returns-clause-frame : goal.returns-clause-frame
returns-clause-frame c =
    let result = c.write_reply.result in
    let after = c.write_reply.new.room in
    let front = answer_front c.args.xid c.args.zxid c.args.err in
    let behind = done_behind c.args.err c.args.operation in
    let same : Writes head.Results front behind c.args.content.now c.args.fields.now c.args.out.now result after = search (c.write_reply.ensures.frame, rules) in
    record { result = result; told = c.of.ensures; is = same }

pub returns-clause-again : goal.returns-clause-again
returns-clause-again c = λ r is.
    let result = c.write_reply.result in
    let after = c.write_reply.new.room in
    let same : AnswersAgain (server.Answered r) c.args.content.now c.args.fields.now c.args.out.now result after = search (c.write_reply.ensures.again r, is, rules) in
    record { result = result; told = c.of.ensures; is = same }
