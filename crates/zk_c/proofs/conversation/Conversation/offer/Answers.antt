use Rattle.std.proofs.Common.{rules}
use Rattle.zk_c.proofs.Handles.{offer_of}
use Rattle.zk_c.proofs.conversation.Conversation.offer.Goals as goal

pub returns : goal.returns
returns c = offer_of c.self.view_is (search rules)
