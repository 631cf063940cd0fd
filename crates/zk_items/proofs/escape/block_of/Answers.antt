use Rattle.std.proofs.lemmas.List.{take-take}
use Rattle.zk_items.proofs.escape.block_of.Goals as goal

pub returns-then-bytes-ge16 : goal.returns-then-bytes-ge16
returns-then-bytes-ge16 c n few within = take-take n 16 c.args.bytes.now few
