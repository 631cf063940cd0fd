use Rattle.std.proofs.lemmas.Str.{utf8_valid_len-IsUtf8}
use Rattle.zk_fields.proofs.Saying.{text_said}
use Rattle.zk_fields.proofs.value.text.Goals as goal

pub returns-in-Ok : goal.returns-in-Ok
returns-in-Ok c =
    let bytes = c.in_ok-bytes.bytes.now in
    text_said c.args.content.now bytes c.args.field.now c.run_value.result c.in_ok-bytes.ensures.said (utf8_valid_len-IsUtf8 bytes c.in-Ok.ensures.cases.1) (c.run_value.ensures c.in_ok-bytes.ensures.short)
