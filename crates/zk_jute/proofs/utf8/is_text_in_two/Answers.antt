use Rattle.std.proofs.Common.{◌-◌, length, arith}
use Rattle.zk_jute.proofs.Followed.{is_padded_text, two_windows}
use Rattle.zk_jute.proofs.utf8.is_text_in_two.Goals as goal

pub returns : goal.returns
returns c t =
    let bytes = c.args.bytes.now in
    let both = c.either.ensures (c.is_zero.ensures t) in
    let follows = two_windows _ (c.next_faults-first.ensures both.0) (c.next_faults-second.ensures both.1) in
    is_padded_text bytes (32 - length bytes) (omega arith) (λ i h. (rw (c.two_windows-room.ensures) at follows) i (omega arith))
