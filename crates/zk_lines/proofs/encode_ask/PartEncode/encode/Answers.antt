use Rattle.std.proofs.Common.{◌≡◌, ◌++◌, ℤ, sym, ◌∙◌, subst, false, w32, to_z, of_z}
use Rattle.std.specs.Prelude.{negsuc}
use Rattle.zk_jute.specs.Item.{bytes_of, HaveBytes}
use Rattle.zk_asks.specs.Parts.{marked}
use Rattle.zk_lines.proofs.Appended.{on_good}
use Rattle.zk_lines.proofs.{Appended.part_kind, EncodedAsks.part_encoded}
use Rattle.zk_lines.proofs.encode_ask.PartEncode.encode.Goals as goal

pub returns-clause-encoded : goal.returns-clause-encoded
returns-clause-encoded c =
    let old = c.args.out.now.items in
    let mid = c.append_header.new.out.items in
    let Head : ℤ → Type 0 = λ k. HaveBytes (marked (record { kind = k; done = false; err = negsuc 0 })) × (mid ≡ old ++ bytes_of (marked (record { kind = k; done = false; err = negsuc 0 }))) in
    let head = subst Head (part_kind c.in-Some.key) (subst (λ (k : ℤ). Head (to_z w32 (of_z w32 k))) c.part_number.ensures c.in_ok-append_header.ensures.appended) in
    on_good c.encode_part.result
    (λ k. part_encoded c.args.line.now c.name.result.now c.name.new.self c.encode_part.new.line old mid c.encode_part.new.out.items c.in-Some.key c.name.ensures.name c.name.ensures.rest (sym c.part_named.ensures ∙ c.in-Some.is) head.0 head.1 k)
    c.encode_part.ensures.encoded
