use Rattle.std.proofs.Common.{[], refl}
use Rattle.zk_asks.specs.declared.frame.ClientFrameOf.TheVariants as client
use Rattle.zk_fields.proofs.Again.{client_again}
use Rattle.zk_fields.proofs.write.write_first.Goals as goal

pub returns-clause-again : goal.returns-clause-again
returns-clause-again c = λ hello flag. client_again (client.Connect hello flag) c.args.content.now c.args.fields.now c.args.room.now c.write_frame.new.room c.write_frame.result (c.write_frame.ensures [] [] refl refl)
