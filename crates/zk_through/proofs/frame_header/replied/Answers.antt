use Rattle.std.proofs.Common.{arith}
use Rattle.zk_through.proofs.Carried.{tells_reply}
use Rattle.zk_through.proofs.frame_header.replied.Goals as goal

pub returns-then-number-eq0 : goal.returns-then-number-eq0
returns-then-number-eq0 c = λ later. absurd (omega (arith, later, c.if-number-eq0.true))

pub returns : goal.returns
returns c = tells_reply c.args.number c.args.payload.now (omega (arith, c.if-number-eq0.false)) c.reply_ahead.result c.reply_ahead.ensures.some c.reply_ahead.ensures.none
