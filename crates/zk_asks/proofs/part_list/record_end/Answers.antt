use Rattle.std.proofs.Common.{refl, ap, ◌∙◌}
use Rattle.zk_records.specs.declared.op.PartOp.TheVariants as parts
use Rattle.zk_asks.proofs.Lying.{record_known, record_made}
use Rattle.zk_asks.proofs.part_list.record_end.Goals as goal

pub known_at-requires : goal.known_at-requires
known_at-requires c κs = ((refl, tt), (c.requires.place, record_known c.args.payload.now c.args.place c.in-Create.is c.requires.known))

pub known_at-requires-in-Delete : goal.known_at-requires-in-Delete
known_at-requires-in-Delete c κs = ((refl, tt), (c.requires.place, record_known c.args.payload.now c.args.place c.in-Delete.is c.requires.known))

pub known_at-requires-in-SetData : goal.known_at-requires-in-SetData
known_at-requires-in-SetData c κs = ((refl, tt), (c.requires.place, record_known c.args.payload.now c.args.place c.in-SetData.is c.requires.known))

pub known_at-requires-in-Check : goal.known_at-requires-in-Check
known_at-requires-in-Check c κs = ((refl, tt), (c.requires.place, record_known c.args.payload.now c.args.place c.in-Check.is c.requires.known))

pub returns-in-Create : goal.returns-in-Create
returns-in-Create c = λ p end is have stands. ap (λ z. z.1) (record_made c.args.payload.now c.args.place parts.Create c.known_at.result c.known_at.ensures p end (is ∙ c.in-Create.is) have stands)
