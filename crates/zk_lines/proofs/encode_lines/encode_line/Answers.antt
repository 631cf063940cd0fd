use Rattle.std.proofs.Common.{subst}
use Rattle.std.specs.Prelude.{IfErr}
use Rattle.zk_items.specs.Form.{Fails}
use Rattle.zk_lines.specs.{Encoded.EncodedMessage, Lines.message_at}
use Rattle.zk_lines.proofs.{Appended.if_good, EncodedLines.line_encoded, Lines.line_only}
use Rattle.zk_lines.proofs.encode_lines.encode_line.Goals as goal

pub returns-else-is_err-clause-encoded : goal.returns-else-is_err-clause-encoded
returns-else-is_err-clause-encoded c =
    let m = c.encode_message-encoded in
    let old = c.args.out.now.items in
    if_good m.result (λ kind k. line_encoded c.args.bytes.now old m.new.out.items kind (subst (λ l. EncodedMessage (message_at l) kind old m.new.out.items) c.new-line.ensures k)) m.ensures.encoded

pub returns-then-is_err-clause-only : goal.returns-then-is_err-clause-only
returns-then-is_err-clause-only c =
    let m = c.encode_message-encoded in
    line_only c.args.bytes.now m.result (subst (λ l. IfErr m.result (λ e. Fails e (message_at l))) c.new-line.ensures m.ensures.refused)
