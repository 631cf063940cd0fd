use Rattle.std.proofs.Common.{sym, ap, ◌∙◌}
use Rattle.zk_records.specs.declared.op.Op.TheVariants as ops
use Rattle.zk_asks.specs.declared.frame.AskOf.TheVariants as ask
use Rattle.zk_asks.proofs.{Judged.body_one, Judged.content_is, Lying.part_read, Lying.parts_headed}
use Rattle.zk_jute.specs.Standing.{OneStands}
use Rattle.zk_asks.specs.Parts.{multi_items}
use Rattle.zk_asks.proofs.known.body_there.Goals as goal

pub returns-in-Create : goal.returns-in-Create
returns-in-Create g c = λ a q is. content_is ops.Create c.args.payload.now c.args.place c.known_at.result c.known_at.ensures a q (is ∙ c.in-Create.is)

pub returns-in-Create2 : goal.returns-in-Create2
returns-in-Create2 g c = λ a q is. content_is ops.Create2 c.args.payload.now c.args.place c.known_at-in-Create2.result c.known_at-in-Create2.ensures a q (is ∙ c.in-Create2.is)

pub returns-in-CreateContainer : goal.returns-in-CreateContainer
returns-in-CreateContainer g c = λ a q is. content_is ops.CreateContainer c.args.payload.now c.args.place c.known_at-in-CreateContainer.result c.known_at-in-CreateContainer.ensures a q (is ∙ c.in-CreateContainer.is)

pub returns-in-CreateTtl : goal.returns-in-CreateTtl
returns-in-CreateTtl g c = λ a q is. content_is ops.CreateTtl c.args.payload.now c.args.place c.known_at-in-CreateTtl.result c.known_at-in-CreateTtl.ensures a q (is ∙ c.in-CreateTtl.is)

pub returns-in-SetAcl : goal.returns-in-SetAcl
returns-in-SetAcl g c = λ a q is. content_is ops.SetAcl c.args.payload.now c.args.place c.known_at-in-SetAcl.result c.known_at-in-SetAcl.ensures a q (is ∙ c.in-SetAcl.is)

pub returns-in-Multi : goal.returns-in-Multi
returns-in-Multi g c = λ a q is have stands.
    let src = c.args.payload.now in
    let there : OneStands multi_items src c.args.place = rw c.in-Multi.is at c.requires.stands in
    let ps = there.0 in
    ap ask.Multi (c.known_multi.ensures ps there.1 there.2 there.3) ∙ body_one src c.args.place (ask.Multi ps) a there.1 q (sym (is ∙ c.in-Multi.is)) there.2 there.3 have stands

pub known_multi-requires : goal.known_multi-requires
known_multi-requires g c = record { within = c.requires.within; headed = parts_headed; told = part_read c.args.payload.now; stand = rw c.in-Multi.is at c.requires.stands }
