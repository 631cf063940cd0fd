use Rattle.std.proofs.Common.{◌≡◌, ◌*◌, ◌++◌, List, ℕ, true, ap, ◌∙◌, take, drop, length, length-drop, arith}
use Rattle.std.proofs.{lemmas.List.length-take-le, lemmas.Simd.take_more_put_chunk}
use Rattle.hex.proofs.HexLemmas.{length-encode_with}
use Rattle.hex.specs.Hex.{lower_digits, encode_lower}
use Rattle.zk_items.specs.Leaf.{in_hex}
use Rattle.zk_items.proofs.{Joined.hex_drop, Lanes.encoded-append, Runs.all_front}
use Rattle.zk_items.proofs.read_hex.read_block.Goals as goal

pub joined-requires : goal.joined-requires
joined-requires c = all_front (λ c. in_hex c ≡ true) 32 (drop (2 * c.args.at) c.args.digits.now) (hex_drop (2 * c.args.at) c.args.digits.now c.requires.hex)

pub returns-clause-read : goal.returns-clause-read
returns-clause-read c =
    let room = c.args.room.now in
    let bytes = c.joined.result in
    let ahead = drop (2 * c.args.at) c.args.digits.now in
    let block : length (take 32 ahead) ≡ 32 = length-take-le 32 ahead (omega (arith, length-drop (2 * c.args.at) c.args.digits.now)) in
    let long : length bytes ≡ 16 = omega (arith, length-encode_with lower_digits bytes, ap length c.joined.ensures, block) in
    ap encode_lower (take_more_put_chunk c.args.at room bytes _ (omega (arith, long)) (omega (arith, long))) ∙ encoded-append (take c.args.at room) bytes
    ∙ ap (λ (d : List ℕ). encode_lower (take c.args.at room) ++ d) c.joined.ensures
