use Rattle.std.proofs.Common.{inl, inr, refl, sym}
use Rattle.std.proofs.lemmas.List.{append-nil}
use Rattle.zk_asks.specs.Rows.{body_items}
use Rattle.zk_asks.specs.declared.frame.AskOf.TheVariants as ask
use Rattle.zk_lines.proofs.Appended.{on_good}
use Rattle.zk_lines.proofs.Appended.{made, value_encoded}
use Rattle.zk_lines.proofs.encode_ask.encode_body.Goals as goal

pub returns-in-Create-clause-encoded : goal.returns-in-Create-clause-encoded
returns-in-Create-clause-encoded c =
    elim c.in-Create.is [
      | inl e ↦ rw e (on_good c.encode.result (λ k. made body_items _ (λ _ _. (_, refl, refl)) k) c.encode.ensures.encoded)
      | inr (inl e) ↦ rw e (on_good c.encode.result (λ k. made body_items _ (λ _ _. (_, refl, refl)) k) c.encode.ensures.encoded)
      | inr (inr e) ↦ rw e (on_good c.encode.result (λ k. made body_items _ (λ _ _. (_, refl, refl)) k) c.encode.ensures.encoded)
    ]

pub returns-in-Delete-clause-encoded : goal.returns-in-Delete-clause-encoded
returns-in-Delete-clause-encoded c = rw c.in-Delete.is (on_good c.encode-in-Delete.result (λ k. made body_items _ (λ _ _. (_, refl, refl)) k) c.encode-in-Delete.ensures.encoded)

pub returns-in-Exists-clause-encoded : goal.returns-in-Exists-clause-encoded
returns-in-Exists-clause-encoded c =
    elim c.in-Exists.is [
      | inl e ↦ rw e (on_good c.encode-in-Exists.result (λ k. made body_items _ (λ _ _. (_, refl, refl)) k) c.encode-in-Exists.ensures.encoded)
      | inr (inl e) ↦ rw e (on_good c.encode-in-Exists.result (λ k. made body_items _ (λ _ _. (_, refl, refl)) k) c.encode-in-Exists.ensures.encoded)
      | inr (inr (inl e)) ↦ rw e (on_good c.encode-in-Exists.result (λ k. made body_items _ (λ _ _. (_, refl, refl)) k) c.encode-in-Exists.ensures.encoded)
      | inr (inr (inr e)) ↦ rw e (on_good c.encode-in-Exists.result (λ k. made body_items _ (λ _ _. (_, refl, refl)) k) c.encode-in-Exists.ensures.encoded)
    ]

pub returns-in-SetData-clause-encoded : goal.returns-in-SetData-clause-encoded
returns-in-SetData-clause-encoded c = rw c.in-SetData.is (on_good c.encode-in-SetData.result (λ k. made body_items _ (λ _ _. (_, refl, refl)) k) c.encode-in-SetData.ensures.encoded)

pub returns-in-GetAcl-clause-encoded : goal.returns-in-GetAcl-clause-encoded
returns-in-GetAcl-clause-encoded c =
    elim c.in-GetAcl.is [
      | inl e ↦ rw e (on_good c.encode-in-GetAcl.result (λ k. made body_items _ (λ _ _. (_, refl, refl)) k) c.encode-in-GetAcl.ensures.encoded)
      | inr (inl e) ↦ rw e (on_good c.encode-in-GetAcl.result (λ k. made body_items _ (λ _ _. (_, refl, refl)) k) c.encode-in-GetAcl.ensures.encoded)
      | inr (inr (inl e)) ↦ rw e (on_good c.encode-in-GetAcl.result (λ k. made body_items _ (λ _ _. (_, refl, refl)) k) c.encode-in-GetAcl.ensures.encoded)
      | inr (inr (inr e)) ↦ rw e (on_good c.encode-in-GetAcl.result (λ k. made body_items _ (λ _ _. (_, refl, refl)) k) c.encode-in-GetAcl.ensures.encoded)
    ]

pub returns-in-SetAcl-clause-encoded : goal.returns-in-SetAcl-clause-encoded
returns-in-SetAcl-clause-encoded c = rw c.in-SetAcl.is (on_good c.encode-in-SetAcl.result (λ k. made body_items _ (λ _ _. (_, refl, refl)) k) c.encode-in-SetAcl.ensures.encoded)

pub returns-in-Auth-clause-encoded : goal.returns-in-Auth-clause-encoded
returns-in-Auth-clause-encoded c = rw c.in-Auth.is (on_good c.encode-in-Auth.result (λ k. made body_items _ (λ _ _. (_, refl, refl)) k) c.encode-in-Auth.ensures.encoded)

pub returns-in-SetWatches-clause-encoded : goal.returns-in-SetWatches-clause-encoded
returns-in-SetWatches-clause-encoded c = rw c.in-SetWatches.is (on_good c.encode-in-SetWatches.result (λ k. made body_items _ (λ _ _. (_, refl, refl)) k) c.encode-in-SetWatches.ensures.encoded)

pub returns-in-CheckWatches-clause-encoded : goal.returns-in-CheckWatches-clause-encoded
returns-in-CheckWatches-clause-encoded c =
    elim c.in-CheckWatches.is [
      | inl e ↦ rw e (on_good c.encode-in-CheckWatches.result (λ k. made body_items _ (λ _ _. (_, refl, refl)) k) c.encode-in-CheckWatches.ensures.encoded)
      | inr e ↦ rw e (on_good c.encode-in-CheckWatches.result (λ k. made body_items _ (λ _ _. (_, refl, refl)) k) c.encode-in-CheckWatches.ensures.encoded)
    ]

pub returns-in-CreateTtl-clause-encoded : goal.returns-in-CreateTtl-clause-encoded
returns-in-CreateTtl-clause-encoded c = rw c.in-CreateTtl.is (on_good c.encode-in-CreateTtl.result (λ k. made body_items _ (λ _ _. (_, refl, refl)) k) c.encode-in-CreateTtl.ensures.encoded)

pub returns-in-AddWatch-clause-encoded : goal.returns-in-AddWatch-clause-encoded
returns-in-AddWatch-clause-encoded c = rw c.in-AddWatch.is (on_good c.encode-in-AddWatch.result (λ k. made body_items _ (λ _ _. (_, refl, refl)) k) c.encode-in-AddWatch.ensures.encoded)

pub returns-in-Reconfig-clause-encoded : goal.returns-in-Reconfig-clause-encoded
returns-in-Reconfig-clause-encoded c = rw c.in-Reconfig.is (on_good c.encode-in-Reconfig.result (λ k. made body_items _ (λ _ _. (_, refl, refl)) k) c.encode-in-Reconfig.ensures.encoded)

pub returns-in-Multi-clause-encoded : goal.returns-in-Multi-clause-encoded
returns-in-Multi-clause-encoded c = rw c.in-Multi.is (on_good c.encode_multi.result (λ k. made body_items _ (λ _ _. (_, refl, refl)) k) c.encode_multi.ensures.encoded)

pub returns-in-Ping-clause-encoded : goal.returns-in-Ping-clause-encoded
returns-in-Ping-clause-encoded c = rw c.in-Ping.is (value_encoded ask.Ping refl tt (sym (append-nil c.args.out.now.items)))

pub returns-in-CloseSession-clause-encoded : goal.returns-in-CloseSession-clause-encoded
returns-in-CloseSession-clause-encoded c = rw c.in-CloseSession.is (value_encoded ask.CloseSession refl tt (sym (append-nil c.args.out.now.items)))
