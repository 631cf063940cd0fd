use Rattle.std.proofs.Common.{◌≡◌, ◌∷◌, [], ◌++◌}
use Rattle.zk_jute.specs.Item.{AnInt, bytes_of, HaveBytes}
use Rattle.zk_items.specs.Codes.{type_name}
use Rattle.zk_items.proofs.{Codes.code_is}
use Rattle.zk_lines.proofs.{Appended.as_int, EncodedAnswers.event_encoded}
use Rattle.zk_lines.proofs.encode_answer.encode_event.Goals as goal

pub returns-clause-encoded : goal.returns-clause-encoded
returns-clause-encoded c =
    let first = c.in_ok-append.ensures.appended in
    let second = c.in_ok-append-2.ensures.appended in
    let kind = c.in_ok-kind.kind in
    let word = c.in_ok-read_word.ensures in
    let code = c.in_ok-kind.ensures in
    let fit = (code_is type_name).sound c.read_word.new.line kind c.read_event_code.new.line code in
    let third = as_int (λ n. HaveBytes (AnInt n ∷ []) × (c.append-3.new.out.items ≡ c.append-2.new.out.items ++ bytes_of (AnInt n ∷ []))) kind fit.1 c.in_ok-append-3.ensures.appended in
    event_encoded c.args.line.now c.encode_field.new.line c.read_word.new.line c.read_event_code.new.line c.encode_field-2.new.line c.encode_field-3.new.line c.args.out.now.items c.append.new.out.items c.encode_field.new.out.items
    c.append-2.new.out.items c.append-3.new.out.items c.encode_field-2.new.out.items c.encode_field-3.new.out.items kind first.0 first.1 c.in_ok-encode_field.ensures.encoded second.0 second.1
    word code third.0 third.1 c.in_ok-encode_field-2.ensures.encoded c.in_ok-encode_field-3.ensures.encoded
