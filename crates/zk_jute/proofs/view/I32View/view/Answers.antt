use Rattle.std.proofs.Common.{refl, arith}
use Rattle.std.specs.Int.{w32}
use Rattle.std.proofs.lemmas.Int.{to_z-of_z, ints}
use Rattle.zk_jute.proofs.{Fields.int_is, Known.int_known, Known.int_room}
use Rattle.zk_jute.proofs.view.I32View.view.Goals as goal

pub int_of-requires : goal.int_of-requires
int_of-requires c = int_room c.args.src.now c.args.place c.requires.place (int_known c.args.src.now c.args.place c.requires.known)

pub returns-clause-exact : goal.returns-clause-exact
returns-clause-exact c = rw (int_is, to_z-of_z w32 c.int_of.result (omega (arith, ints, c.int_of.type_inv)), c.int_of.ensures) refl
