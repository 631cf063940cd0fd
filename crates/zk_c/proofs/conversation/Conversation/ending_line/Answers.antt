use Rattle.zk_c.proofs.conversation.Conversation.ending_line.Goals as goal

pub returns : goal.returns
returns c = record { ending = c.finish.result; is = c.finish.ensures; text = c.write_ending.ensures }
