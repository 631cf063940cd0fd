use Rattle.zk_records.specs.Records.{connect_response}
use Rattle.zk_asks.proofs.Flags.{flagged_opened, flagged_cased}
use Rattle.zk_answers.proofs.Covered.{reply_opened, reply_cased, event_opened, event_cased}
use Rattle.zk_answers.proofs.laws.opening_laws.Goals as goal

pub returns-clause-connected : goal.returns-clause-connected
returns-clause-connected c = λ bytes place reason. (flagged_opened connect_response.layout, flagged_cased connect_response.layout)

pub returns-clause-reply : goal.returns-clause-reply
returns-clause-reply c = λ op parts bytes place reason. (reply_opened, reply_cased)

pub returns-clause-event : goal.returns-clause-event
returns-clause-event c = λ bytes place reason. (event_opened, event_cased)
