use Rattle.std.proofs.Common.{refl}
use Rattle.zk_records.specs.Records.{acl}
use Rattle.zk_lines.proofs.Appended.{made, ◌then◌}
use Rattle.zk_lines.proofs.record.AclEncode.encode.Goals as goal

pub returns-clause-encoded : goal.returns-clause-encoded
returns-clause-encoded c = made acl.items _ (λ _ _. (_, refl, refl)) (c.in_ok-encode.ensures.encoded then c.in_ok-encode_field.ensures.encoded then c.in_ok-encode_field-2.ensures.encoded)
