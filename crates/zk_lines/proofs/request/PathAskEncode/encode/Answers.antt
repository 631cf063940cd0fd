use Rattle.std.proofs.Common.{refl}
use Rattle.zk_records.specs.Records.{path_ask}
use Rattle.zk_lines.proofs.Appended.{made}
use Rattle.zk_lines.proofs.request.PathAskEncode.encode.Goals as goal

pub returns-clause-encoded : goal.returns-clause-encoded
returns-clause-encoded c = made path_ask.items _ (λ _ _. (_, refl, refl)) (c.in_ok-encode_field.ensures.encoded)
