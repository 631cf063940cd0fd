use Rattle.zk_lines.proofs.Appended.{◌then◌}
use Rattle.zk_lines.proofs.body.encode_with_stat.Goals as goal

pub returns-clause-encoded : goal.returns-clause-encoded
returns-clause-encoded g c = c.in_ok-encode_field.ensures.encoded then c.in_ok-encode_field-2.ensures.encoded
