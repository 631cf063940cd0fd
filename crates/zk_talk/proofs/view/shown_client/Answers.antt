use Rattle.zk_talk.proofs.Viewing.{client_bytes}
use Rattle.zk_talk.proofs.view.shown_client.Goals as goal

pub client_ref-requires : goal.client_ref-requires
client_ref-requires c = let k = c.requires in (k.0, k.1.first c.if-count-eq1.true, k.1.sent.1, client_bytes c.args.payload.now k.0 k.1.is)

pub client_ref-requires-else-count-eq1 : goal.client_ref-requires-else-count-eq1
client_ref-requires-else-count-eq1 c = let k = c.requires in (k.0, k.1.later c.if-count-eq1.false, k.1.sent.1, client_bytes c.args.payload.now k.0 k.1.is)

pub returns-then-count-eq1 : goal.returns-then-count-eq1
returns-then-count-eq1 c = λ f k. c.client_ref.ensures f (k.first c.if-count-eq1.true) k.sent.1 (client_bytes c.args.payload.now f k.is)

pub returns-else-count-eq1 : goal.returns-else-count-eq1
returns-else-count-eq1 c = λ f k. c.client_ref-else-count-eq1.ensures f (k.later c.if-count-eq1.false) k.sent.1 (client_bytes c.args.payload.now f k.is)
