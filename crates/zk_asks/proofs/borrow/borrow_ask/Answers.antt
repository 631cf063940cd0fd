use Rattle.zk_asks.proofs.Later.{ask_lies}
use Rattle.zk_asks.proofs.borrow.borrow_ask.Goals as goal

pub returns-clause-only : goal.returns-clause-only
returns-clause-only c = ask_lies c.args.profile c.args.payload.now c.ask_ref.result c.ask_ref.ensures.found c.ask_ref.ensures.fault
