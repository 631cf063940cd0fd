use Rattle.std.proofs.Common.{refl}
use Rattle.zk_asks.specs.Frames.{frame_items}
use Rattle.zk_asks.specs.declared.frame.ClientFrameOf.TheVariants as client
use Rattle.zk_lines.proofs.Appended.{made, ◌then◌}
use Rattle.zk_lines.proofs.encode_ask.encode_connect.Goals as goal

pub returns-clause-encoded : goal.returns-clause-encoded
returns-clause-encoded c =
    made (λ p. frame_items (client.Connect p.0 p.1)) _ (λ _ _. (_, refl, refl))
    (c.in_ok-encode_field.ensures.encoded then c.in_ok-encode_field-2.ensures.encoded then c.in_ok-encode_field-3.ensures.encoded then c.in_ok-encode_field-4.ensures.encoded then c.in_ok-encode_field-5.ensures.encoded then c.in_ok-encode_field-6.ensures.encoded)
