use Rattle.std.proofs.Common.{refl}
use Rattle.zk_records.specs.Records.{set_watches_ask}
use Rattle.zk_lines.proofs.Appended.{made, ◌then◌}
use Rattle.zk_lines.proofs.request.SetWatchesAskEncode.encode.Goals as goal

pub returns-clause-encoded : goal.returns-clause-encoded
returns-clause-encoded c = made set_watches_ask.items _ (λ _ _. (_, refl, refl)) (c.in_ok-encode_field.ensures.encoded then c.in_ok-encode_field-2.ensures.encoded then c.in_ok-encode_field-3.ensures.encoded then c.in_ok-encode_field-4.ensures.encoded)
