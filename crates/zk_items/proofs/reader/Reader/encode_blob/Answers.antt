use Rattle.std.proofs.Common.{◌≡◌, ◌∷◌, ◌++◌, ◌/◌, List, ℕ, length, take, drop, refl, ap, sym, subst, ◌∙◌}
use Rattle.std.specs.List.{prefix_len}
use Rattle.zk_items.specs.Leaf.{in_hex}
use Rattle.zk_items.proofs.{Encoding.null_blob, Encoding.full_blob, Joined.Hex, Runs.run_passes}
use Rattle.zk_items.proofs.reader.Reader.encode_blob.Goals as goal

pub append_bytes-requires-clause-hex : goal.append_bytes-requires-clause-hex
append_bytes-requires-clause-hex c =
    let rest = c.in-Some-eq35-default.rest.now in
    let front : c.split_at.result.0.now ≡ take (prefix_len in_hex rest) rest = c.split_at.ensures.front ∙ ap (λ (n : ℕ). take n rest) c.hex_len.ensures.value in
    subst Hex (sym front) (run_passes in_hex rest)

pub returns-in_ok-append_null-in-Some-eq126-default-clause-encoded : goal.returns-in_ok-append_null-in-Some-eq126-default-clause-encoded
returns-in_ok-append_null-in-Some-eq126-default-clause-encoded c =
    let first = c.in-Some-eq126-default in
    let ahead : c.self.inside.ahead.now ≡ 126 ∷ first.rest.now = cc first.ensures.cases.0 in
    null_blob _ _ _ _ (sym c.self.view_is ∙ ahead) c.in_ok-append_null-in-Some-eq126-default.ensures.appended

pub returns-in_ok-append_bytes-in-Some-eq35-default-clause-encoded : goal.returns-in_ok-append_bytes-in-Some-eq35-default-clause-encoded
returns-in_ok-append_bytes-in-Some-eq35-default-clause-encoded c =
    let first = c.in-Some-eq35-default in
    let rest = first.rest.now in
    let ahead : c.self.inside.ahead.now ≡ 35 ∷ rest = cc first.ensures.cases.0 in
    let run = c.split_at.result.0.now in
    let old = c.args.out.now.items in
    let mid = c.append.new.out.items in
    let new = c.append_bytes.new.out.items in
    let front : run ≡ take (prefix_len in_hex rest) rest = c.split_at.ensures.front ∙ ap (λ (n : ℕ). take n rest) c.hex_len.ensures.value in
    let back : c.split_at.result.1.now ≡ drop (prefix_len in_hex rest) rest = c.split_at.ensures.back ∙ ap (λ (n : ℕ). drop n rest) c.hex_len.ensures.value in
    let size = c.in_ok-count_bytes-in-Some-eq35-default.ensures in
    let decoded = c.in_ok-append_bytes-in-Some-eq35-default.ensures in
    full_blob c.args.self.now rest run c.split_at.result.1.now old mid new (drop (length mid) new) (length run / 2) (sym c.self.view_is ∙ ahead) front back decoded.read refl size.0
    (c.in_ok-append-in-Some-eq35-default.ensures.appended ∙ ap (λ (b : List ℕ). old ++ b) size.1) decoded.appended
