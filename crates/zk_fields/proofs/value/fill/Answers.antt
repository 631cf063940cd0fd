use Rattle.std.proofs.Common.{arith, refl, ◌+◌, length}
use Rattle.zk_fields.proofs.Filling.{fills_here, fills_not}
use Rattle.zk_fields.proofs.value.fill.Goals as goal

pub returns-then-at-room : goal.returns-then-at-room
returns-then-at-room c = fills_not c.args.bytes.now c.args.room.now c.args.at c.args.at (omega (arith, c.if-at-room.true))

pub returns-then-bytes-room : goal.returns-then-bytes-room
returns-then-bytes-room c = fills_not c.args.bytes.now c.args.room.now c.args.at c.args.at (omega (arith, c.if-at-room.false, c.if-bytes-room.true))

pub returns : goal.returns
returns c = fills_here c.args.bytes.now c.copy_from_slice.new.self c.args.room.now c.args.at (c.args.at + length c.args.bytes.now) c.copy_from_slice.ensures.after refl (omega (arith, c.if-at-room.false, c.if-bytes-room.false))
