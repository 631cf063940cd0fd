use Rattle.zk_records.proofs.Numbers.{op_number_apart, older_number, newest_has, part_number_apart}
use Rattle.zk_records.proofs.op.number_laws.Goals as goal

pub returns-clause-op : goal.returns-clause-op
returns-clause-op c = op_number_apart

pub returns-clause-older : goal.returns-clause-older
returns-clause-older c = older_number

pub returns-clause-newest : goal.returns-clause-newest
returns-clause-newest c = newest_has

pub returns-clause-part : goal.returns-clause-part
returns-clause-part c = part_number_apart
