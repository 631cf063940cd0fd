use Rattle.std.proofs.Common.{◌∙◌}
use Rattle.zk_jute.specs.{declared.fault.Reason.TheVariants.UnknownOp, Reading.Fault}
use Rattle.zk_c.specs.Read.{refused_read, in_head, no_body}
use Rattle.zk_c.proofs.read_answer.ReadAnswer.unknown.Goals as goal

pub returns-in-Ok : goal.returns-in-Ok
returns-in-Ok c =
    let found = c.in-Ok.ensures.found in
    record {
      fault = record { place = 16; reason = UnknownOp };
      is = no_body c.in-Ok._whole found.0 found.1;
      told = c.refused.ensures ∙ (λ k. refused_read (c.answer_head-head.ensures k) (c.at.ensures k) 0);
    }

pub returns-in-Err : goal.returns-in-Err
returns-in-Err c =
    let short = c.in-Err.ensures.fault in
    let fault : Fault = record { place = short.0; reason = c.in-Err.fault.reason } in
    record {
      fault = fault;
      is = in_head fault short.1;
      told = c.refused-in-Err.ensures ∙ (λ k. refused_read (c.answer_head-head.ensures k) (record { place = short.2 k; reason = c.in-Err.fault.reason }) 0);
    }
