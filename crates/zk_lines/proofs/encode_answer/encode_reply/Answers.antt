use Rattle.std.proofs.Common.{◌≡◌, ◌∷◌, [], ◌++◌, sym, ◌∙◌}
use Rattle.zk_jute.specs.Item.{AnInt, bytes_of, HaveBytes}
use Rattle.zk_items.proofs.{Numbers.int_is}
use Rattle.zk_lines.proofs.{Appended.as_int, EncodedAnswers.reply_encoded}
use Rattle.zk_lines.proofs.encode_answer.encode_reply.Goals as goal

pub returns-clause-encoded : goal.returns-clause-encoded
returns-clause-encoded c =
    let xid = c.in_ok-xid.xid in
    let int = c.in_ok-xid.ensures in
    let blank = c.in_ok-read_word.ensures in
    let head = as_int (λ n. HaveBytes (AnInt n ∷ []) × (c.append.new.out.items ≡ c.args.out.now.items ++ bytes_of (AnInt n ∷ []))) xid (int_is.sound c.args.line.now xid c.int.new.self int).1 c.in_ok-append.ensures.appended in
    reply_encoded c.args.line.now c.int.new.self c.read_word.new.line c.name.result.now c.name.new.self c.encode_field.new.line c.encode_outcome.new.line c.args.out.now.items c.append.new.out.items c.encode_field.new.out.items
    c.encode_outcome.new.out.items xid c.in-Some.key int blank c.name.ensures.name c.name.ensures.rest (sym c.op_named.ensures ∙ c.in-Some.is) head.0 head.1
    c.in_ok-encode_field.ensures.encoded c.in_ok-encode_outcome.ensures.encoded
