use Rattle.std.proofs.Common.{◌≡◌, ◌++◌, ℤ, false, refl, subst, w32, to_z, of_z}
use Rattle.std.specs.Prelude.{pos}
use Rattle.zk_jute.specs.Item.{bytes_of, HaveBytes}
use Rattle.zk_asks.specs.Parts.{marked}
use Rattle.zk_answers.specs.Results.{done_items, result_header}
use Rattle.zk_records.specs.declared.op.PartOp.TheVariants as parts
use Rattle.zk_lines.proofs.Appended.{on_good}
use Rattle.zk_lines.proofs.Appended.{headed, made}
use Rattle.zk_lines.proofs.multi_result.encode_done.Goals as goal

pub returns-in_ok-append_header-in-Create-clause-encoded : goal.returns-in_ok-append_header-in-Create-clause-encoded
returns-in_ok-append_header-in-Create-clause-encoded c =
    let old = c.args.out.now.items in
    let mid = c.append_header.new.out.items in
    let head = subst (λ (k : ℤ). HaveBytes (marked (record { kind = to_z w32 (of_z w32 k); done = false; err = pos 0 })) × (mid ≡ old ++ bytes_of (marked (record { kind = to_z w32 (of_z w32 k); done = false; err = pos 0 })))) c.part_number.ensures c.in_ok-append_header-in-Create.ensures.appended in
    rw c.in-Create.is (on_good c.encode_field.result (λ k. made done_items _ (λ _ _. (_, refl, refl)) (headed (marked (result_header parts.Create)) head.0 head.1 k)) c.encode_field.ensures.encoded)

pub returns-in_ok-append_header-in-SetData-clause-encoded : goal.returns-in_ok-append_header-in-SetData-clause-encoded
returns-in_ok-append_header-in-SetData-clause-encoded c =
    let old = c.args.out.now.items in
    let mid = c.append_header-in-SetData.new.out.items in
    let head = subst (λ (k : ℤ). HaveBytes (marked (record { kind = to_z w32 (of_z w32 k); done = false; err = pos 0 })) × (mid ≡ old ++ bytes_of (marked (record { kind = to_z w32 (of_z w32 k); done = false; err = pos 0 })))) c.part_number-in-SetData.ensures c.in_ok-append_header-in-SetData.ensures.appended in
    rw c.in-SetData.is (on_good c.encode_field-in-SetData.result (λ k. made done_items _ (λ _ _. (_, refl, refl)) (headed (marked (result_header parts.SetData)) head.0 head.1 k)) c.encode_field-in-SetData.ensures.encoded)
