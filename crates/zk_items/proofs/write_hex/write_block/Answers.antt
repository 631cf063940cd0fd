use Rattle.std.proofs.Common.{◌≡◌, ◌*◌, ◌++◌, List, ℕ, ap, ◌∙◌, take, drop, length, length-drop, arith}
use Rattle.std.proofs.{lemmas.List.length-take-le, lemmas.Simd.take_more_put_chunk}
use Rattle.hex.proofs.HexLemmas.{length-encode_with}
use Rattle.hex.specs.Hex.{lower_digits}
use Rattle.zk_items.proofs.write_hex.write_block.Goals as goal

pub returns-clause-written : goal.returns-clause-written
returns-clause-written c =
    let room = c.args.room.now in
    let ahead = drop c.args.at c.args.bytes.now in
    let block : length (take 16 ahead) ≡ 16 = length-take-le 16 ahead (omega (arith, length-drop c.args.at c.args.bytes.now)) in
    let long : length c.pairs.result ≡ 32 = ap length c.pairs.ensures ∙ length-encode_with lower_digits (take 16 ahead) ∙ omega (arith, block) in
    take_more_put_chunk (2 * c.args.at) room c.pairs.result _ (omega (arith, long)) (omega (arith, long)) ∙ ap (λ (d : List ℕ). take (2 * c.args.at) room ++ d) c.pairs.ensures
