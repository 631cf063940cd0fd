use Rattle.std.proofs.Common.{refl}
use Rattle.zk_jute.proofs.{Fields.bool_is, Known.bool_known}
use Rattle.zk_jute.proofs.view.BoolView.view.Goals as goal

pub bool_of-requires-clause-known : goal.bool_of-requires-clause-known
bool_of-requires-clause-known c = bool_known c.args.src.now c.args.place c.requires.known

pub returns-clause-exact : goal.returns-clause-exact
returns-clause-exact c = rw (bool_is, c.bool_of.ensures) refl
