use Rattle.std.proofs.Common.{◌≡◌, ◌∙◌, ◌++◌, ◌∷◌, [], sym, set, take, length, length-take, arith}
use Rattle.std.proofs.Math.ListN.{length-set}
use Rattle.zk_recordings.specs.{Parts.width, Reader.state_of}
use Rattle.zk_recordings.proofs.{Accepts.width-most, Accepts.whole-value, Stages.part-more, Stages.part-bad}
use Rattle.zk_recordings.proofs.recording.State.take_byte.Goals as goal

pub returns-then-got-width-clause-reads : goal.returns-then-got-width-clause-reads
returns-then-got-width-clause-reads c = λ x r i has at'.
    part-more (state_of c.args.self) c.args.part c.args.bytes c.args.got c.args.byte x r (omega (arith, c.if-got-width.true, c.width.ensures)) (width-most c.args.part) i has at'

pub returns-then-is_good-clause-reads : goal.returns-then-is_good-clause-reads
returns-then-is_good-clause-reads c = λ x r i has at'.
    c.accept.ensures.reads x (take c.args.got c.args.bytes) c.args.byte r
    (whole-value c.args.part c.args.bytes c.args.got c.args.byte c.requires.eight c.requires.got (omega (arith, c.if-got-width.false, c.width.ensures))) i has at'.part_at

pub returns-clause-reads : goal.returns-clause-reads
returns-clause-reads c = λ x r i has at'.
    let v = take (width c.args.part) (set c.args.bytes c.args.got c.args.byte) in
    let again : take c.args.got c.args.bytes ++ c.args.byte ∷ [] ≡ v = whole-value c.args.part c.args.bytes c.args.got c.args.byte c.requires.eight c.requires.got (omega (arith, c.if-got-width.false, c.width.ensures)) in
    let wide : length v ≡ width c.args.part = omega (arith, length-take (width c.args.part) (set c.args.bytes c.args.got c.args.byte), length-set c.args.bytes c.args.got c.args.byte, width-most c.args.part, c.requires.eight) in
    rw c.damage_bad.ensures (part-bad (state_of c.args.self) c.args.part (take c.args.got c.args.bytes) v c.args.byte x r again wide (sym c.is_good.ensures ∙ c.if-is_good.false) i has at'.part_at)
