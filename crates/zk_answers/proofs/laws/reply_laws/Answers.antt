use Rattle.zk_answers.proofs.Replies.{reply_heads}
use Rattle.zk_answers.proofs.laws.reply_laws.Goals as goal

pub returns-clause-head : goal.returns-clause-head
returns-clause-head c = λ r sent. (_, reply_heads r sent)
