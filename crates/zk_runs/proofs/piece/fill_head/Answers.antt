use Rattle.std.proofs.Common.{◌≡◌, length, drop, ◌+◌, ◌-◌, ◌∷◌, [], ◌∙◌, ap, rules, arith, length-drop}
use Rattle.std.specs.Int.{w32, to_be_bytes}
use Rattle.zk_recordings.specs.Recording.{side_byte}
use Rattle.zk_runs.proofs.Encoded.{headed_in}
use Rattle.zk_runs.proofs.piece.fill_head.Goals as goal

pub returns : goal.returns
returns c = λ small.
    let byte : c.copy_from_slice.new.self ≡ side_byte c.args.side ∷ [] = search rules in
    let spelled : c.copy_from_slice-2.new.self ≡ to_be_bytes w32 c.size_of-size.result = search rules in
    let long : length c.args.due.now - c.args.start - 5 ≡ length (drop (c.args.start + 5) c.args.due.now) = omega (arith, length-drop (c.args.start + 5) c.args.due.now) in
    let count : c.size_of-size.result ≡ length (drop (c.args.start + 5) c.args.due.now) = c.size_of-size.ensures (omega (arith, small, long)) ∙ long in
    let size : c.copy_from_slice-2.new.self ≡ to_be_bytes w32 (length (drop (c.args.start + 5) c.args.due.now)) = spelled ∙ ap (to_be_bytes w32) count in
    headed_in c.args.side c.args.due.now c.copy_from_slice.new.self c.copy_from_slice-2.new.self c.args.start c.requires byte size
