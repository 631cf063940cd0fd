use Rattle.std.proofs.Common.{refl, arith}
use Rattle.std.specs.Int.{w64}
use Rattle.std.proofs.lemmas.Int.{to_z-of_z, ints}
use Rattle.zk_jute.proofs.{Fields.long_is, Known.long_known, Known.long_room}
use Rattle.zk_jute.proofs.view.I64View.view.Goals as goal

pub long_of-requires : goal.long_of-requires
long_of-requires c = long_room c.args.src.now c.args.place c.requires.place (long_known c.args.src.now c.args.place c.requires.known)

pub returns-clause-exact : goal.returns-clause-exact
returns-clause-exact c = rw (long_is, to_z-of_z w64 c.long_of.result (omega (arith, ints, c.long_of.type_inv)), c.long_of.ensures) refl
