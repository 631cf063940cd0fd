use Rattle.zk_jute.specs.Told.{IsTold}
use Rattle.zk_jute.proofs.Flagged.{read_exactly}
use Rattle.zk_asks.specs.Faults.{IsFirstFault}
use Rattle.zk_asks.proofs.First.{first_only}
use Rattle.zk_asks.proofs.borrow.borrow_first.Goals as goal

pub returns-clause-only : goal.returns-clause-only
returns-clause-only c = λ f first sent e.
    let src = c.args.payload.now in
    let r = c.first_in.result in
    read_exactly (IsTold (IsFirstFault src)) f r c.first_in.ensures.fault (λ fault. first_only src r c.first_in.ensures.found fault f first sent e)
