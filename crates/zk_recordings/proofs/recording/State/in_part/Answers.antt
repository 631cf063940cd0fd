use Rattle.std.proofs.Common.{◌≡◌, ◌<◌, subst, arith}
use Rattle.zk_recordings.specs.{declared.parts.Part.TheVariants.SideByte, Parts.width, Reader.state_of, Reading.AtFixed}
use Rattle.zk_recordings.proofs.Passing.{passes-head}
use Rattle.zk_recordings.proofs.recording.State.in_part.Goals as goal

pub returns-in-Some-clause-reads : goal.returns-in-Some-clause-reads
returns-in-Some-clause-reads c = λ x r i has a.
    let s = state_of c.args.self.now in
    let none : c.args.got ≡ 0 = omega (arith, subst (λ q. c.args.got < width q) c.in-SideByte.is c.requires.got) in
    let side = subst (λ q. AtFixed s q c.args.bytes c.args.got r) c.in-SideByte.is a in
    passes-head s c.args.block.now c.in-Some.used (state_of c.pass_head.new.self) c.in-Some.ensures.some c.args.bytes x r i has (subst (λ n. AtFixed s SideByte c.args.bytes n r) none side)
