use Rattle.zk_records.specs.Records.{connect_request}
use Rattle.zk_asks.proofs.{Flags.flagged_opened, Flags.flagged_cased, Opened.opened, Opened.cased}
use Rattle.zk_asks.proofs.laws.opening_laws.Goals as goal

pub returns-clause-first : goal.returns-clause-first
returns-clause-first c = λ bytes place reason. (flagged_opened connect_request.layout, flagged_cased connect_request.layout)

pub returns-clause-ask : goal.returns-clause-ask
returns-clause-ask c = λ profile bytes place reason. (opened profile, cased profile)
