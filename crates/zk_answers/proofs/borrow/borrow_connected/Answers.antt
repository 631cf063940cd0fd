use Rattle.zk_answers.specs.{Frames.IsConnected, Faults.IsConnectedFault}
use Rattle.zk_answers.proofs.{Connected.connected_injective, Connected.connected_excludes, Scanned.only_it}
use Rattle.zk_answers.proofs.borrow.borrow_connected.Goals as goal

pub returns-clause-only : goal.returns-clause-only
returns-clause-only c = only_it IsConnected IsConnectedFault c.args.payload.now c.connected_in.result c.connected_in.ensures.found c.connected_in.ensures.fault connected_injective connected_excludes
