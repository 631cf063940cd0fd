use Rattle.std.proofs.Common.{length, refl}
use Rattle.zk_items.proofs.Encoding.{few_read}
use Rattle.zk_items.proofs.read_hex.read_digits.Goals as goal

pub unwrap-requires : goal.unwrap-requires
unwrap-requires c =
    rw (few_read c.args.digits.now c.decode_to_slice.new.out (length c.args.room.now) c.decode_to_slice.result c.requires.hex c.requires.room c.decode_to_slice.ensures.value).0 refl

pub returns-then-room-lt16 : goal.returns-then-room-lt16
returns-then-room-lt16 c =
    (few_read c.args.digits.now c.decode_to_slice.new.out (length c.args.room.now) c.decode_to_slice.result c.requires.hex c.requires.room c.decode_to_slice.ensures.value).1
