use Rattle.std.proofs.lemmas.Bool.{false≢true}
use Rattle.zk_c.proofs.Opening.{events_head}
use Rattle.zk_c.proofs.payload.zk_judge_event.Goals as goal

pub borrow_event-requires : goal.borrow_event-requires
borrow_event-requires c = events_head c.args.bytes.now (λ head. false≢true (c.if-is_of_reply.ensures.1 head))
