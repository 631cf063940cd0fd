use Rattle.std.proofs.Common.{rules, []}
use Rattle.std.specs.Prelude.{pos, negsuc}
use Rattle.zk_answers.specs.declared.frame.ServerFrameOf.TheVariants as server
use Rattle.zk_fields.specs.declared.value.Heads.TheVariants as head
use Rattle.zk_fields.specs.Written.{answer_front, Writes, AnswersAgain}
use Rattle.zk_c.proofs.write.zk_write_event.Goals as goal

pub returns-clause-frame : goal.returns-clause-frame
returns-clause-frame c =
    let result = c.write_event.result in
    let after = c.write_event.new.room in
    let same : Writes head.Results (answer_front (negsuc 0) c.args.zxid (pos 0)) [] c.args.content.now c.args.fields.now c.args.out.now result after = search (c.write_event.ensures.frame, rules) in
    record { result = result; told = c.of.ensures; is = same }

pub returns-clause-again : goal.returns-clause-again
returns-clause-again c = λ event.
    let result = c.write_event.result in
    let after = c.write_event.new.room in
    let same : AnswersAgain (server.Event c.args.zxid event) c.args.content.now c.args.fields.now c.args.out.now result after = search (c.write_event.ensures.again event, rules) in
    record { result = result; told = c.of.ensures; is = same }
