use Rattle.std.proofs.Common.{rules, []}
use Rattle.std.specs.Prelude.{pos, negsuc}
use Rattle.zk_answers.specs.declared.frame.ServerFrameOf.TheVariants as server
use Rattle.zk_fields.specs.Written.{answer_front}
use Rattle.zk_fields.proofs.Again.{server_again}
use Rattle.zk_fields.proofs.write.write_event.Goals as goal

pub returns-clause-frame : goal.returns-clause-frame
returns-clause-frame c = search (c.write_frame.ensures (answer_front (negsuc 0) c.args.zxid (pos 0)) [], c.reply_header-front.ensures, rules)

pub returns-clause-again : goal.returns-clause-again
returns-clause-again c = λ event. server_again (server.Event c.args.zxid event) c.args.content.now c.args.fields.now c.args.room.now c.write_frame.new.room c.write_frame.result (λ sent. returns-clause-frame c)
