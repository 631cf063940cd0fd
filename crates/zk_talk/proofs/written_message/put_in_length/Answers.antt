use Rattle.std.proofs.Common.{◌≡◌, ◌-◌, length, pos, refl, rules}
use Rattle.zk_jute.specs.Item.{int_bytes}
use Rattle.zk_talk.proofs.Framed.{framed_in}
use Rattle.zk_talk.proofs.written_message.put_in_length.Goals as goal

pub returns : goal.returns
returns c =
    let out = c.args.out.now in
    let size : c.copy_from_slice.new.self ≡ int_bytes (pos (length out - c.args.start - 4)) = search rules in
    framed_in out c.copy_from_slice.new.self c.args.start _ c.requires.room refl size
