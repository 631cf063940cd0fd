use Rattle.std.proofs.Common.{◌≡◌, ◌∷◌, [], ◌++◌, ℤ, refl, sym, subst, ◌∙◌, w32, to_z, of_z}
use Rattle.zk_jute.specs.Item.{AnInt, bytes_of, HaveBytes}
use Rattle.zk_items.proofs.{Numbers.int_is}
use Rattle.zk_lines.proofs.{Appended.as_int, Appended.op_kind, EncodedAsks.request_encoded}
use Rattle.zk_lines.proofs.Appended.{on_good}
use Rattle.zk_lines.proofs.encode_ask.encode_request.Goals as goal

pub returns-clause-encoded : goal.returns-clause-encoded
returns-clause-encoded c =
    let line = c.args.line.now in
    let old = c.args.out.now.items in
    let first = c.append.new.out.items in
    let second = c.append-2.new.out.items in
    let xid = c.in_ok-xid.xid in
    let int = c.in_ok-xid.ensures in
    let blank = c.in_ok-read_word.ensures in
    let op = c.in-Some.key in
    let Head : ℤ → Type 0 = λ n. HaveBytes (AnInt n ∷ []) × (first ≡ old ++ bytes_of (AnInt n ∷ [])) in
    let Next : ℤ → Type 0 = λ n. HaveBytes (AnInt n ∷ []) × (second ≡ first ++ bytes_of (AnInt n ∷ [])) in
    let head = as_int Head xid (int_is.sound line xid c.int.new.self int).1 c.in_ok-append.ensures.appended in
    let next = subst Next (op_kind op) (subst (λ (n : ℤ). Next (to_z w32 (of_z w32 n))) c.op_number.ensures c.in_ok-append-2.ensures.appended) in
    on_good c.encode_body.result
    (λ k. request_encoded line c.int.new.self c.read_word.new.line c.name.result.now c.name.new.self c.encode_body.new.line old first second c.encode_body.new.out.items
    xid _ op int blank c.name.ensures.name c.name.ensures.rest (sym c.op_named.ensures ∙ c.in-Some.is) refl head next k)
    c.encode_body.ensures.encoded
