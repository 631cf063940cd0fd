use Rattle.std.proofs.Common.{arith}
use Rattle.zk_talk.specs.Conversation.{load}
use Rattle.zk_through.proofs.Waits.{said_after}
use Rattle.zk_through.proofs.held_counts.weight_waiting.Goals as goal

pub returns-clause-stands : goal.returns-clause-stands
returns-clause-stands c = λ h M v cr sr st g. omega (arith, c.waiting.ensures.stands h M v cr sr st g, c.left.ensures)

pub returns-clause-after : goal.returns-clause-after
returns-clause-after c = λ h M w. omega (arith, said_after load c.args.talk.now c.waiting.result h M c.waiting.ensures.stands c.waiting.ensures.refuses w, c.left.ensures)
