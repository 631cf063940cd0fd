use Rattle.zk_lines.proofs.Appended.{value_encoded}
use Rattle.zk_lines.proofs.encode_item.BoolEncode.encode.Goals as goal

pub returns-clause-encoded : goal.returns-clause-encoded
returns-clause-encoded c = let h = c.in_ok-append.ensures.appended in value_encoded c.in_ok-value.value c.in_ok-value.ensures h.0 h.1
