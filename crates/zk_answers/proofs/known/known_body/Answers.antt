use Rattle.std.proofs.Common.{◌∙◌, refl}
use Rattle.zk_records.specs.declared.op.Op.TheVariants as ops
use Rattle.zk_answers.proofs.{Lying.done_read, Lying.dones_headed, Knowing.content_there, Knowing.content_is}
use Rattle.zk_answers.proofs.known.known_body.Goals as goal

pub returns-in-Exists : goal.returns-in-Exists
returns-in-Exists g c = λ b q of. content_is ops.Exists c.args.payload.now c.args.place c.known_at-in-Exists.result c.known_at-in-Exists.ensures b q (of ∙ c.in-Exists.is)

pub returns-in-SetData : goal.returns-in-SetData
returns-in-SetData g c = λ b q of. content_is ops.SetData c.args.payload.now c.args.place c.known_at-in-SetData.result c.known_at-in-SetData.ensures b q (of ∙ c.in-SetData.is)

pub returns-in-SetAcl : goal.returns-in-SetAcl
returns-in-SetAcl g c = λ b q of. content_is ops.SetAcl c.args.payload.now c.args.place c.known_at-in-SetAcl.result c.known_at-in-SetAcl.ensures b q (of ∙ c.in-SetAcl.is)

pub known_at-body-requires : goal.known_at-body-requires
known_at-body-requires g c κs = ((refl, tt), (c.requires.within, content_there ops.GetData c.args.payload.now c.args.place c.in-GetData.is c.requires.stands))

pub returns-in-GetData : goal.returns-in-GetData
returns-in-GetData g c = λ b q of. content_is ops.GetData c.args.payload.now c.args.place c.known_at-body.result c.known_at-body.ensures b q (of ∙ c.in-GetData.is)

pub known_at-body-requires-in-GetAcl : goal.known_at-body-requires-in-GetAcl
known_at-body-requires-in-GetAcl g c κs = ((refl, tt), (c.requires.within, content_there ops.GetAcl c.args.payload.now c.args.place c.in-GetAcl.is c.requires.stands))

pub returns-in-GetAcl : goal.returns-in-GetAcl
returns-in-GetAcl g c = λ b q of. content_is ops.GetAcl c.args.payload.now c.args.place c.known_at-body-in-GetAcl.result c.known_at-body-in-GetAcl.ensures b q (of ∙ c.in-GetAcl.is)

pub known_at-body-requires-in-GetChildren2 : goal.known_at-body-requires-in-GetChildren2
known_at-body-requires-in-GetChildren2 g c κs = ((refl, tt), (c.requires.within, content_there ops.GetChildren2 c.args.payload.now c.args.place c.in-GetChildren2.is c.requires.stands))

pub returns-in-GetChildren2 : goal.returns-in-GetChildren2
returns-in-GetChildren2 g c = λ b q of. content_is ops.GetChildren2 c.args.payload.now c.args.place c.known_at-body-in-GetChildren2.result c.known_at-body-in-GetChildren2.ensures b q (of ∙ c.in-GetChildren2.is)

pub known_at-body-requires-in-Create2 : goal.known_at-body-requires-in-Create2
known_at-body-requires-in-Create2 g c κs = ((refl, tt), (c.requires.within, content_there ops.Create2 c.args.payload.now c.args.place c.in-Create2.is c.requires.stands))

pub returns-in-Create2 : goal.returns-in-Create2
returns-in-Create2 g c = λ b q of. content_is ops.Create2 c.args.payload.now c.args.place c.known_at-body-in-Create2.result c.known_at-body-in-Create2.ensures b q (of ∙ c.in-Create2.is)

pub known_at-body-requires-in-Reconfig : goal.known_at-body-requires-in-Reconfig
known_at-body-requires-in-Reconfig g c κs = ((refl, tt), (c.requires.within, content_there ops.Reconfig c.args.payload.now c.args.place c.in-Reconfig.is c.requires.stands))

pub returns-in-Reconfig : goal.returns-in-Reconfig
returns-in-Reconfig g c = λ b q of. content_is ops.Reconfig c.args.payload.now c.args.place c.known_at-body-in-Reconfig.result c.known_at-body-in-Reconfig.ensures b q (of ∙ c.in-Reconfig.is)

pub known_at-body-requires-in-CreateContainer : goal.known_at-body-requires-in-CreateContainer
known_at-body-requires-in-CreateContainer g c κs = ((refl, tt), (c.requires.within, content_there ops.CreateContainer c.args.payload.now c.args.place c.in-CreateContainer.is c.requires.stands))

pub returns-in-CreateContainer : goal.returns-in-CreateContainer
returns-in-CreateContainer g c = λ b q of. content_is ops.CreateContainer c.args.payload.now c.args.place c.known_at-body-in-CreateContainer.result c.known_at-body-in-CreateContainer.ensures b q (of ∙ c.in-CreateContainer.is)

pub known_at-body-requires-in-CreateTtl : goal.known_at-body-requires-in-CreateTtl
known_at-body-requires-in-CreateTtl g c κs = ((refl, tt), (c.requires.within, content_there ops.CreateTtl c.args.payload.now c.args.place c.in-CreateTtl.is c.requires.stands))

pub returns-in-CreateTtl : goal.returns-in-CreateTtl
returns-in-CreateTtl g c = λ b q of. content_is ops.CreateTtl c.args.payload.now c.args.place c.known_at-body-in-CreateTtl.result c.known_at-body-in-CreateTtl.ensures b q (of ∙ c.in-CreateTtl.is)

pub known_multi-requires : goal.known_multi-requires
known_multi-requires g c = record { within = c.requires.within; headed = dones_headed; told = done_read c.args.payload.now; stand = content_there ops.Multi c.args.payload.now c.args.place c.in-Multi.is c.requires.stands }
