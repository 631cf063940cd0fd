use Rattle.std.proofs.Common.{sym, ◌∙◌}
use Rattle.zk_lines.proofs.{EncodedLines.viewed, Lines.line_apart}
use Rattle.zk_lines.proofs.line.read_line.Goals as goal

pub message_ref-requires : goal.message_ref-requires
message_ref-requires c =
    let v = viewed c.args.bytes.now _ c.encode_line.new.out.items c.deref.result.now c.in_ok-kind.kind c.new-payload.ensures.items c.deref.ensures.value c.in_ok-kind.ensures.encoded in
    (v.0, v.1)

pub returns-clause-only : goal.returns-clause-only
returns-clause-only c = λ m fit is.
    let v = viewed c.args.bytes.now _ c.encode_line.new.out.items c.deref.result.now c.in_ok-kind.kind c.new-payload.ensures.items c.deref.ensures.value c.in_ok-kind.ensures.encoded in
    c.in_ok-to_message.ensures ∙ c.message_ref.ensures v.0 v.1 ∙ line_apart v.0 m v.2.1 fit (sym v.2.0 ∙ is)
