use Rattle.std.proofs.Common.{ap, length, arith}
use Rattle.std.proofs.lemmas.List.{length-append}
use Rattle.zk_asks.specs.Parts.{op_of_part}
use Rattle.std.specs.Prelude.{map}
use Rattle.zk_asks.proofs.request.put_all.Goals as goal

pub push-requires : goal.push-requires
push-requires g c =
    let l = c.loop-op in
    omega (arith, c.requires, l.invariant.room, ap length l.invariant.ops, ap (λ z. length (map op_of_part z)) c.in-Some.ensures.2, length-append (g.R.Room.ops l.room) (map op_of_part l.items), length-append (g.R.Room.ops c.args.room.now) (map op_of_part c.args.parts))
