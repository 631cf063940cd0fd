use Rattle.std.proofs.Common.{◌≡◌, Result, w32, subst, arith}
use Rattle.std.specs.Prelude.{MatchResult}
use Rattle.std.proofs.{lemmas.Int.to_z-of_z, lemmas.Bool.false≢true, lemmas.Grind.common_steps}
use Rattle.zk_jute.specs.declared.fault.ItemFault.{ItemFault}
use Rattle.zk_answers.specs.Held.{ServerFrame}
use Rattle.zk_c.specs.Judged.{payload_answer, TellsFault}
use Rattle.zk_c.proofs.Parts.{where_asked}
use Rattle.zk_c.proofs.payload.zk_judge_reply.Goals as goal

pub borrow_reply-requires : goal.borrow_reply-requires
borrow_reply-requires c = λ header rest h e. false≢true (c.if-is_of_event.ensures.1 (header, rest, h, e))

pub returns-clause-found : goal.returns-clause-found
returns-clause-found c = where_asked _ (to_z-of_z w32 c.args.operation c.ranges.operation) c.in-Some.ensures (grind (arith, common_steps))

pub returns-clause-only : goal.returns-clause-only
returns-clause-only c = where_asked _ (to_z-of_z w32 c.args.operation c.ranges.operation) c.in-Some.ensures (λ s is.
    subst (λ (read : Result ServerFrame ItemFault). MatchResult read (λ f. c.judged.result ≡ payload_answer 0 0) (λ fault. TellsFault fault c.judged.result))
    (c.borrow_reply.ensures.only s is.form is.sent is.is) c.judged.ensures)

pub returns-clause-fault : goal.returns-clause-fault
returns-clause-fault c = where_asked _ (to_z-of_z w32 c.args.operation c.ranges.operation) c.in-Some.ensures (grind (arith, common_steps))
