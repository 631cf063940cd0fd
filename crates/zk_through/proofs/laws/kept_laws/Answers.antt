use Rattle.std.proofs.Common.{[]}
use Rattle.zk_through.proofs.{Alone.one_kept, Alone.all_kept, Seen.one_seen, Spelling.is_spelt}
use Rattle.zk_through.proofs.laws.kept_laws.Goals as goal

pub returns-clause-one : goal.returns-clause-one
returns-clause-one c = λ profile came given other a b. one_kept profile [] came given other a b

pub returns-clause-all : goal.returns-clause-all
returns-clause-all c = λ profile came given none kept. all_kept profile [] came given kept none

pub returns-clause-seen : goal.returns-clause-seen
returns-clause-seen c = λ late all came other a b. one_seen late all came other a b

pub returns-clause-alone : goal.returns-clause-alone
returns-clause-alone c = λ t h came k M r on_time small none. is_spelt t h came k M r on_time small none
