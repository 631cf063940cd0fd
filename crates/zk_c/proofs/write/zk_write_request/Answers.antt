use Rattle.std.proofs.Common.{w32, ℤ, subst, ◌∙◌}
use Rattle.std.proofs.lemmas.Int.{to_z-of_z}
use Rattle.zk_asks.specs.Forms.{header_items}
use Rattle.zk_asks.specs.declared.frame.ClientFrameOf.TheVariants as client
use Rattle.zk_fields.specs.declared.value.Heads.TheVariants as head
use Rattle.zk_fields.specs.Written.{behind_of, Writes, WritesAgain}
use Rattle.zk_c.proofs.write.zk_write_request.Goals as goal

pub returns-clause-frame : goal.returns-clause-frame
returns-clause-frame c =
    let x = to_z-of_z w32 c.args.xid c.ranges.xid in
    let o = to_z-of_z w32 c.args.operation c.ranges.operation in
    record { result = c.write_request.result; told = c.of.ensures; is = subst (λ (z : ℤ × ℤ). Writes head.Parts (header_items z.0 z.1) (behind_of z.1) c.args.content.now c.args.fields.now c.args.out.now c.write_request.result c.write_request.new.room) (λ k. (x k, o k)) c.write_request.ensures.frame }

pub returns-clause-again : goal.returns-clause-again
returns-clause-again c = λ a is.
    let x = to_z-of_z w32 c.args.xid c.ranges.xid in
    let o = to_z-of_z w32 c.args.operation c.ranges.operation in
    record { result = c.write_request.result; told = c.of.ensures; is = subst (λ (z : ℤ). WritesAgain (client.Ask z a) c.args.content.now c.args.fields.now c.args.out.now c.write_request.result c.write_request.new.room) x (c.write_request.ensures.again a (o ∙ is)) }
