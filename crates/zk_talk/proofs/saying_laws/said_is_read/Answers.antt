use Rattle.zk_talk.proofs.Spoken.{spoken, spoken_read}
use Rattle.zk_talk.proofs.saying_laws.said_is_read.Goals as goal

pub returns-clause-good : goal.returns-clause-good
returns-clause-good c = spoken

pub returns-clause-read : goal.returns-clause-read
returns-clause-read c = λ limits M are sized answered end messages ends. spoken_read limits M answered end are sized messages ends
