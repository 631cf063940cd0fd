use Rattle.zk_fields.specs.Written.{said_at}
use Rattle.zk_fields.proofs.Saying.{fills_said, unsaid}
use Rattle.zk_fields.proofs.write.fill_one.Goals as goal

pub returns-in-Some : goal.returns-in-Some
returns-in-Some c = λ d. fills_said (said_at c.args.heads c.args.content.now c.args.fields.now c.args.index d) c.in-Some.value c.args.at c.fill.result c.args.room.now c.fill.new.room (c.in-Some.ensures d) c.fill.ensures

pub returns-in-None : goal.returns-in-None
returns-in-None c = λ d items e. absurd (unsaid (said_at c.args.heads c.args.content.now c.args.fields.now c.args.index d) items (c.in-None.ensures d) e)
