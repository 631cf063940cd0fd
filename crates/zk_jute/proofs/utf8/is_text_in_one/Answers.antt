use Rattle.std.proofs.Common.{◌-◌, length, arith}
use Rattle.zk_jute.proofs.Followed.{is_padded_text}
use Rattle.zk_jute.proofs.utf8.is_text_in_one.Goals as goal

pub returns : goal.returns
returns c t =
    let bytes = c.args.bytes.now in
    let follows = rw (c.one_window-room.ensures) at (c.next_faults.ensures (c.is_zero.ensures t)) in
    is_padded_text bytes (16 - length bytes) (omega arith) (λ i h. follows i (omega arith))
