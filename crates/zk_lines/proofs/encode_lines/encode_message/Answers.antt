use Rattle.std.proofs.Common.{ap, sym, subst, ◌∙◌}
use Rattle.std.specs.Prelude.{codes}
use Rattle.zk_items.specs.Form.{word_at}
use Rattle.zk_talk.specs.declared.message.MessageOf.TheVariants as message
use Rattle.zk_lines.specs.{Encoded.EncodedMessage, Lines.client_at, Lines.server_at}
use Rattle.zk_lines.proofs.{Appended.if_good, EncodedLines.frame_whole, EncodedLines.of_client, EncodedLines.of_server}
use Rattle.zk_lines.proofs.encode_lines.encode_message.Goals as goal

pub returns-then-passes-clause-encoded : goal.returns-then-passes-clause-encoded
returns-then-passes-clause-encoded c =
    let encoded = c.in_ok-kind.ensures.encoded in
    let word = rw c.if-passes.true at c.passes.ensures in
    if_good c.at_end.result
    (λ k done. subst (λ m. EncodedMessage m k c.args.out.now.items c.encode_client.new.out.items) (sym (of_client c.args.line.now c.passes.new.self word))
    (frame_whole {at = client_at} message.Client encoded.0 (encoded.1 ∙ sym done.0) done.1))
    c.at_end.ensures.done

pub returns-clause-encoded : goal.returns-clause-encoded
returns-clause-encoded c =
    let encoded = c.in_ok-kind-2.ensures.encoded in
    let other = rw c.if-passes.false at c.passes.ensures in
    let word = ap (word_at (codes "S ")) (sym other.1) ∙ c.in_ok-literal.ensures.read in
    if_good c.at_end-2.result
    (λ k done. subst (λ m. EncodedMessage m k c.args.out.now.items c.encode_server.new.out.items) (sym (of_server c.args.line.now c.literal.new.self other.0 word))
    (frame_whole {at = server_at} message.Server encoded.0 (encoded.1 ∙ sym done.0) done.1))
    c.at_end-2.ensures.done
