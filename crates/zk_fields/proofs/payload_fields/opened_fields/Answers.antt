use Rattle.std.proofs.Common.{arith}
use Rattle.zk_fields.proofs.Wholes.{of_front}
use Rattle.zk_fields.proofs.payload_fields.opened_fields.Goals as goal

pub returns : goal.returns
returns c = λ small.
    of_front c.args.opened c.args.payload.now c.before-front.result.now c.args.place c.start_of-start.result c.args.room.now c.walk_as.new.room c.walk_as.result c.before-front.ensures c.start_of-start.ensures (λ i. omega (arith, c.type_inv.payload i)) (omega (arith, c.if-start-front.false)) small c.walk_as.ensures.walks
