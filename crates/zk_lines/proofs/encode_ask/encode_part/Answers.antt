use Rattle.std.proofs.Common.{refl}
use Rattle.zk_asks.specs.Parts.{record_of}
use Rattle.zk_lines.proofs.Appended.{on_good}
use Rattle.zk_lines.proofs.Appended.{made}
use Rattle.zk_lines.proofs.encode_ask.encode_part.Goals as goal

pub returns-in-Create-clause-encoded : goal.returns-in-Create-clause-encoded
returns-in-Create-clause-encoded c = rw c.in-Create.is (on_good c.encode.result (λ k. made record_of _ (λ _ _. (_, refl, refl)) k) c.encode.ensures.encoded)

pub returns-in-Delete-clause-encoded : goal.returns-in-Delete-clause-encoded
returns-in-Delete-clause-encoded c = rw c.in-Delete.is (on_good c.encode-in-Delete.result (λ k. made record_of _ (λ _ _. (_, refl, refl)) k) c.encode-in-Delete.ensures.encoded)

pub returns-in-SetData-clause-encoded : goal.returns-in-SetData-clause-encoded
returns-in-SetData-clause-encoded c = rw c.in-SetData.is (on_good c.encode-in-SetData.result (λ k. made record_of _ (λ _ _. (_, refl, refl)) k) c.encode-in-SetData.ensures.encoded)

pub returns-in-Check-clause-encoded : goal.returns-in-Check-clause-encoded
returns-in-Check-clause-encoded c = rw c.in-Check.is (on_good c.encode-in-Check.result (λ k. made record_of _ (λ _ _. (_, refl, refl)) k) c.encode-in-Check.ensures.encoded)
