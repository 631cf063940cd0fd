use Rattle.std.proofs.Common.{rules}
use Rattle.zk_fields.proofs.Heads.{result_some}
use Rattle.zk_fields.proofs.payload_fields.AnsweredMulti.headed.Goals as goal

pub returns-in-Some : goal.returns-in-Some
returns-in-Some c = result_some c.args.header.now c.in-Some.op c.if-header.false (search (c.in-Some.ensures, rules))
