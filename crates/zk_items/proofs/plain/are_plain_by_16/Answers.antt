use Rattle.zk_items.specs.Leaf.{is_plain}
use Rattle.zk_items.proofs.Looks.{ends_are}
use Rattle.zk_items.proofs.plain.are_plain_by_16.Goals as goal

pub returns : goal.returns
returns c is = ends_are is_plain c.args.bytes.now 16 c.run_in.result c.requires c.run_in.ensures is
