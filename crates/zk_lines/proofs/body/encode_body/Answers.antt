use Rattle.std.proofs.Common.{refl, sym}
use Rattle.std.proofs.lemmas.List.{append-nil}
use Rattle.zk_records.specs.Records.{data_body, acl_body, children_body, create_body}
use Rattle.zk_answers.specs.Rows.{body_items}
use Rattle.zk_answers.specs.declared.frame.BodyOf.TheVariants as body
use Rattle.zk_lines.proofs.Appended.{on_good}
use Rattle.zk_lines.proofs.Appended.{made, value_encoded}
use Rattle.zk_lines.proofs.body.encode_body.Goals as goal

pub returns-in-Create-clause-encoded : goal.returns-in-Create-clause-encoded
returns-in-Create-clause-encoded c = rw c.in-Create.is (on_good c.encode_field.result (λ k. made body_items _ (λ _ _. (_, refl, refl)) k) c.encode_field.ensures.encoded)

pub returns-in-Exists-clause-encoded : goal.returns-in-Exists-clause-encoded
returns-in-Exists-clause-encoded c = rw c.in-Exists.is (on_good c.encode_field-in-Exists.result (λ k. made body_items _ (λ _ _. (_, refl, refl)) k) c.encode_field-in-Exists.ensures.encoded)

pub returns-in-SetData-clause-encoded : goal.returns-in-SetData-clause-encoded
returns-in-SetData-clause-encoded c = rw c.in-SetData.is (on_good c.encode_field-in-SetData.result (λ k. made body_items _ (λ _ _. (_, refl, refl)) k) c.encode_field-in-SetData.ensures.encoded)

pub returns-in-SetAcl-clause-encoded : goal.returns-in-SetAcl-clause-encoded
returns-in-SetAcl-clause-encoded c = rw c.in-SetAcl.is (on_good c.encode_field-in-SetAcl.result (λ k. made body_items _ (λ _ _. (_, refl, refl)) k) c.encode_field-in-SetAcl.ensures.encoded)

pub returns-in-GetChildren-clause-encoded : goal.returns-in-GetChildren-clause-encoded
returns-in-GetChildren-clause-encoded c = rw c.in-GetChildren.is (on_good c.encode_field-in-GetChildren.result (λ k. made body_items _ (λ _ _. (_, refl, refl)) k) c.encode_field-in-GetChildren.ensures.encoded)

pub returns-in-Sync-clause-encoded : goal.returns-in-Sync-clause-encoded
returns-in-Sync-clause-encoded c = rw c.in-Sync.is (on_good c.encode_field-in-Sync.result (λ k. made body_items _ (λ _ _. (_, refl, refl)) k) c.encode_field-in-Sync.ensures.encoded)

pub returns-in-GetEphemerals-clause-encoded : goal.returns-in-GetEphemerals-clause-encoded
returns-in-GetEphemerals-clause-encoded c = rw c.in-GetEphemerals.is (on_good c.encode_field-in-GetEphemerals.result (λ k. made body_items _ (λ _ _. (_, refl, refl)) k) c.encode_field-in-GetEphemerals.ensures.encoded)

pub returns-in-GetAllChildrenNumber-clause-encoded : goal.returns-in-GetAllChildrenNumber-clause-encoded
returns-in-GetAllChildrenNumber-clause-encoded c = rw c.in-GetAllChildrenNumber.is (on_good c.encode_field-in-GetAllChildrenNumber.result (λ k. made body_items _ (λ _ _. (_, refl, refl)) k) c.encode_field-in-GetAllChildrenNumber.ensures.encoded)

pub returns-in-AddWatch-clause-encoded : goal.returns-in-AddWatch-clause-encoded
returns-in-AddWatch-clause-encoded c = rw c.in-AddWatch.is (on_good c.encode_field-in-AddWatch.result (λ k. made body_items _ (λ _ _. (_, refl, refl)) k) c.encode_field-in-AddWatch.ensures.encoded)

pub returns-in-GetData-clause-encoded : goal.returns-in-GetData-clause-encoded
returns-in-GetData-clause-encoded c = rw c.in-GetData.is (on_good c.encode_with_stat.result (λ k. made body_items _ (λ _ _. (_, refl, refl)) (made data_body.items _ (λ _ _. (_, refl, refl)) k)) c.encode_with_stat.ensures.encoded)

pub returns-in-GetAcl-clause-encoded : goal.returns-in-GetAcl-clause-encoded
returns-in-GetAcl-clause-encoded c = rw c.in-GetAcl.is (on_good c.encode_with_stat-in-GetAcl.result (λ k. made body_items _ (λ _ _. (_, refl, refl)) (made acl_body.items _ (λ _ _. (_, refl, refl)) k)) c.encode_with_stat-in-GetAcl.ensures.encoded)

pub returns-in-GetChildren2-clause-encoded : goal.returns-in-GetChildren2-clause-encoded
returns-in-GetChildren2-clause-encoded c = rw c.in-GetChildren2.is (on_good c.encode_with_stat-in-GetChildren2.result (λ k. made body_items _ (λ _ _. (_, refl, refl)) (made children_body.items _ (λ _ _. (_, refl, refl)) k)) c.encode_with_stat-in-GetChildren2.ensures.encoded)

pub returns-in-Create2-clause-encoded : goal.returns-in-Create2-clause-encoded
returns-in-Create2-clause-encoded c = rw c.in-Create2.is (on_good c.encode_with_stat-in-Create2.result (λ k. made body_items _ (λ _ _. (_, refl, refl)) (made create_body.items _ (λ _ _. (_, refl, refl)) k)) c.encode_with_stat-in-Create2.ensures.encoded)

pub returns-in-CreateContainer-clause-encoded : goal.returns-in-CreateContainer-clause-encoded
returns-in-CreateContainer-clause-encoded c = rw c.in-CreateContainer.is (on_good c.encode_with_stat-in-CreateContainer.result (λ k. made body_items _ (λ _ _. (_, refl, refl)) (made create_body.items _ (λ _ _. (_, refl, refl)) k)) c.encode_with_stat-in-CreateContainer.ensures.encoded)

pub returns-in-CreateTtl-clause-encoded : goal.returns-in-CreateTtl-clause-encoded
returns-in-CreateTtl-clause-encoded c = rw c.in-CreateTtl.is (on_good c.encode_with_stat-in-CreateTtl.result (λ k. made body_items _ (λ _ _. (_, refl, refl)) (made create_body.items _ (λ _ _. (_, refl, refl)) k)) c.encode_with_stat-in-CreateTtl.ensures.encoded)

pub returns-in-Reconfig-clause-encoded : goal.returns-in-Reconfig-clause-encoded
returns-in-Reconfig-clause-encoded c = rw c.in-Reconfig.is (on_good c.encode_with_stat-in-Reconfig.result (λ k. made body_items _ (λ _ _. (_, refl, refl)) (made data_body.items _ (λ _ _. (_, refl, refl)) k)) c.encode_with_stat-in-Reconfig.ensures.encoded)

pub returns-in-Multi-clause-encoded : goal.returns-in-Multi-clause-encoded
returns-in-Multi-clause-encoded c = rw c.in-Multi.is (on_good c.encode_multi.result (λ k. made body_items _ (λ _ _. (_, refl, refl)) k) c.encode_multi.ensures.encoded)

pub returns-in-Delete-clause-encoded : goal.returns-in-Delete-clause-encoded
returns-in-Delete-clause-encoded c = rw c.in-Delete.is (value_encoded body.Delete refl tt (sym (append-nil c.args.out.now.items)))

pub returns-in-Ping-clause-encoded : goal.returns-in-Ping-clause-encoded
returns-in-Ping-clause-encoded c = rw c.in-Ping.is (value_encoded body.Ping refl tt (sym (append-nil c.args.out.now.items)))

pub returns-in-Auth-clause-encoded : goal.returns-in-Auth-clause-encoded
returns-in-Auth-clause-encoded c = rw c.in-Auth.is (value_encoded body.Auth refl tt (sym (append-nil c.args.out.now.items)))

pub returns-in-SetWatches-clause-encoded : goal.returns-in-SetWatches-clause-encoded
returns-in-SetWatches-clause-encoded c = rw c.in-SetWatches.is (value_encoded body.SetWatches refl tt (sym (append-nil c.args.out.now.items)))

pub returns-in-CloseSession-clause-encoded : goal.returns-in-CloseSession-clause-encoded
returns-in-CloseSession-clause-encoded c = rw c.in-CloseSession.is (value_encoded body.CloseSession refl tt (sym (append-nil c.args.out.now.items)))

pub returns-in-CheckWatches-clause-encoded : goal.returns-in-CheckWatches-clause-encoded
returns-in-CheckWatches-clause-encoded c = rw c.in-CheckWatches.is (value_encoded body.CheckWatches refl tt (sym (append-nil c.args.out.now.items)))

pub returns-in-RemoveWatches-clause-encoded : goal.returns-in-RemoveWatches-clause-encoded
returns-in-RemoveWatches-clause-encoded c = rw c.in-RemoveWatches.is (value_encoded body.RemoveWatches refl tt (sym (append-nil c.args.out.now.items)))
