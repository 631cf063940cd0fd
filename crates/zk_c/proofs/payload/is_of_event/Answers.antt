use Rattle.std.proofs.lemmas.Bool.{false≢true}
use Rattle.zk_c.specs.Judged.{IsOfEvent}
use Rattle.zk_c.proofs.Opening.{no_head}
use Rattle.zk_c.proofs.payload.is_of_event.Goals as goal

pub returns-in-Err : goal.returns-in-Err
returns-in-Err c = let fault = c.in-Err.ensures.fault in (λ e. absurd (false≢true e), λ head. absurd (no_head IsOfEvent c.args.bytes.now fault.0 c.in-Err._short.reason fault.1 head))
