use Rattle.zk_lines.proofs.Appended.{on_good}
use Rattle.zk_lines.proofs.Appended.{field_encoded}
use Rattle.zk_lines.proofs.encode_item.encode_field.Goals as goal

pub returns-clause-encoded : goal.returns-clause-encoded
returns-clause-encoded g c = on_good c.encode.result (λ k. field_encoded c.args.word c.in_ok-read_word.ensures k) c.encode.ensures.encoded
