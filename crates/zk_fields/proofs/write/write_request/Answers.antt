use Rattle.std.proofs.Common.{rules, ℤ, subst}
use Rattle.zk_asks.specs.Forms.{header_items}
use Rattle.zk_asks.specs.declared.frame.ClientFrameOf.TheVariants as client
use Rattle.zk_fields.specs.declared.value.Heads.TheVariants as head
use Rattle.zk_fields.specs.Written.{behind_of, Writes}
use Rattle.zk_fields.proofs.Again.{client_again}
use Rattle.zk_fields.proofs.write.write_request.Goals as goal

pub returns-clause-frame : goal.returns-clause-frame
returns-clause-frame c = search (c.write_frame.ensures (header_items c.args.xid c.args.operation) (behind_of c.args.operation), c.request_header-front.ensures, c.end_of-behind.ensures.exact, rules)

pub returns-clause-again : goal.returns-clause-again
returns-clause-again c = λ a is.
    client_again (client.Ask c.args.xid a) c.args.content.now c.args.fields.now c.args.room.now c.write_frame.new.room c.write_frame.result
    (subst (λ (z : ℤ). Writes head.Parts (header_items c.args.xid z) (behind_of z) c.args.content.now c.args.fields.now c.args.room.now c.write_frame.result c.write_frame.new.room) is (returns-clause-frame c))
