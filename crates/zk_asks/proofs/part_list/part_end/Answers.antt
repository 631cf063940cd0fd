use Rattle.zk_records.specs.declared.op.PartOp.TheVariants as parts
use Rattle.zk_asks.proofs.Ends.{part_ends}
use Rattle.zk_asks.proofs.part_list.part_end.Goals as goal

pub returns-in-Create-clause-found : goal.returns-in-Create-clause-found
returns-in-Create-clause-found g c = part_ends c.args.payload.now c.args.place parts.Create c.args.op c.in-Create.is c.end.result c.end.ensures.found

pub returns-in-Delete-clause-found : goal.returns-in-Delete-clause-found
returns-in-Delete-clause-found g c = part_ends c.args.payload.now c.args.place parts.Delete c.args.op c.in-Delete.is c.end-in-Delete.result c.end-in-Delete.ensures.found

pub returns-in-SetData-clause-found : goal.returns-in-SetData-clause-found
returns-in-SetData-clause-found g c = part_ends c.args.payload.now c.args.place parts.SetData c.args.op c.in-SetData.is c.end-in-SetData.result c.end-in-SetData.ensures.found

pub returns-in-Check-clause-found : goal.returns-in-Check-clause-found
returns-in-Check-clause-found g c = part_ends c.args.payload.now c.args.place parts.Check c.args.op c.in-Check.is c.end-in-Check.result c.end-in-Check.ensures.found
