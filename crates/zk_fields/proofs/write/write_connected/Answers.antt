use Rattle.std.proofs.Common.{[], refl}
use Rattle.zk_answers.specs.declared.frame.ServerFrameOf.TheVariants as server
use Rattle.zk_fields.proofs.Again.{server_again}
use Rattle.zk_fields.proofs.write.write_connected.Goals as goal

pub returns-clause-again : goal.returns-clause-again
returns-clause-again c = λ hello flag. server_again (server.Connected hello flag) c.args.content.now c.args.fields.now c.args.room.now c.write_frame.new.room c.write_frame.result (λ sent. c.write_frame.ensures [] [] refl refl)
