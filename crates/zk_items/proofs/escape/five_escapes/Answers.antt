use Rattle.std.proofs.Common.{take, ap}
use Rattle.zk_items.proofs.{Lanes.all_bytes, Escapes.escaped}
use Rattle.zk_items.proofs.escape.five_escapes.Goals as goal

pub returns-clause-escapes : goal.returns-clause-escapes
returns-clause-escapes c = ap (take 16) (escaped c.args.bytes c.pairs.result c.fits-bytes.0 (all_bytes c.args.bytes c.fits-bytes.1) c.pairs.ensures)

pub returns-clause-lanes : goal.returns-clause-lanes
returns-clause-lanes c = (c.fits-bytes.0, all_bytes c.args.bytes c.fits-bytes.1)
