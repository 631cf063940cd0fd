use Rattle.std.proofs.Common.{rules}
use Rattle.zk_c.specs.Handle.{IsStep}
use Rattle.zk_c.proofs.Handles.{call_of}
use Rattle.zk_c.proofs.conversation.Conversation.step.Goals as goal

pub returns : goal.returns
returns c = call_of IsStep c.self.view_is (search rules)
