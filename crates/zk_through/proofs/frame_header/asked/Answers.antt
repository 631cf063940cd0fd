use Rattle.std.proofs.Common.{arith}
use Rattle.zk_through.proofs.Carried.{tells_request}
use Rattle.zk_through.proofs.frame_header.asked.Goals as goal

pub returns-then-number-eq0 : goal.returns-then-number-eq0
returns-then-number-eq0 c = λ later. absurd (omega (arith, later, c.if-number-eq0.true))

pub returns : goal.returns
returns c = tells_request c.args.number c.args.payload.now (omega (arith, c.if-number-eq0.false)) c.request_ahead.result c.request_ahead.ensures.some c.request_ahead.ensures.none
