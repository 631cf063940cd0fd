use Rattle.std.proofs.Common.{rules}
use Rattle.zk_fields.proofs.Heads.{part_some}
use Rattle.zk_fields.proofs.payload_fields.AskedMulti.headed.Goals as goal

pub returns-in-Some : goal.returns-in-Some
returns-in-Some c = part_some c.args.header.now c.in-Some.op c.if-header.false (search (c.in-Some.ensures, rules))
