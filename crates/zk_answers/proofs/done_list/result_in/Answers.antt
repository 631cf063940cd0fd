use Rattle.std.proofs.Common.{refl, arith}
use Rattle.zk_jute.specs.Wired.{ustring}
use Rattle.zk_records.specs.Records.{stat}
use Rattle.zk_answers.specs.declared.frame.PartDoneOf.TheVariants as done
use Rattle.zk_answers.proofs.Lying.{created_there, set_there, own_is_it, own_known}
use Rattle.zk_answers.proofs.done_list.result_in.Goals as goal

pub known_at-path-requires : goal.known_at-path-requires
known_at-path-requires c κs = ((refl, tt), (c.requires.place, created_there c.args.payload.now c.args.place c.args.op c.in-Create.is c.requires.known))

pub known_at-end-requires : goal.known_at-end-requires
known_at-end-requires c κs = ((refl, tt), (c.requires.place, set_there c.args.payload.now c.args.place c.args.op c.in-SetData.is c.requires.known))

pub returns-in-Create : goal.returns-in-Create
returns-in-Create c =
    own_known ustring c.args.payload.now c.args.place c.requires.place c.args.op c.known_at-path.result c.known_at-path.ensures (created_there c.args.payload.now c.args.place c.args.op c.in-Create.is c.requires.known) (done.Created c.known_at-path.result.0) refl c.in-Create.is

pub returns-in-Delete : goal.returns-in-Delete
returns-in-Delete c = λ d end own have stands. own_is_it c.args.payload.now c.args.place c.requires.place c.args.op d end own have stands done.Deleted c.args.place c.in-Delete.is tt (refl, omega arith)

pub returns-in-SetData : goal.returns-in-SetData
returns-in-SetData c =
    own_known stat c.args.payload.now c.args.place c.requires.place c.args.op c.known_at-end.result c.known_at-end.ensures (set_there c.args.payload.now c.args.place c.args.op c.in-SetData.is c.requires.known) (done.DataSet c.known_at-end.result.0) refl c.in-SetData.is

pub returns-in-Check : goal.returns-in-Check
returns-in-Check c = λ d end own have stands. own_is_it c.args.payload.now c.args.place c.requires.place c.args.op d end own have stands done.Checked c.args.place c.in-Check.is tt (refl, omega arith)
