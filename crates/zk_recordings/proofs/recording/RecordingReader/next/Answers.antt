use Rattle.std.proofs.Common.{ap, ◌≡◌, ◌+◌, ◌-◌, None, sym, subst, take, length, length-take, arith}
use Rattle.std.proofs.Math.Seq.{take-length}
use Rattle.zk_recordings.specs.{Reader.stage_of, Reader.state_of, Reading.IsAt, Reading.AtStage, Reading.IsSoundAt, Reading.ReadsOn}
use Rattle.zk_recordings.proofs.Stages.{content-more, content-whole, damaged-on}
use Rattle.zk_recordings.proofs.recording.RecordingReader.next.Goals as goal

pub returns-then-block-left-clause-reads : goal.returns-then-block-left-clause-reads
returns-then-block-left-clause-reads c = λ x r i.
    let st = state_of c.self.inside.state in
    let block = c.args.block.now in
    let j = subst (λ s. IsAt s x r) (sym c.self.view_is) i in
    let at' = subst (λ q. AtStage st q x r) (ap stage_of c.in-Content.is) j.stands in
    let sound = subst (IsSoundAt st) (ap stage_of c.in-Content.is) c.self.invariant in
    rw (c.grow.ensures, take-length) (content-more st c.in-Content.got x block r j.spells j.has at' (omega (arith, c.if-block-left.true, sound.left)))

pub returns-else-block-left-clause-reads : goal.returns-else-block-left-clause-reads
returns-else-block-left-clause-reads c = λ x r i.
    let st = state_of c.self.inside.state in
    let block = c.args.block.now in
    let got = c.in-Content.got in
    let part = take (st.size - got) block in
    let j = subst (λ s. IsAt s x r) (sym c.self.view_is) i in
    let at' = subst (λ q. AtStage st q x r) (ap stage_of c.in-Content.is) j.stands in
    let sound = subst (IsSoundAt st) (ap stage_of c.in-Content.is) c.self.invariant in
    let all : got + length part ≡ st.size = omega (arith, length-take (st.size - got) block, c.if-block-left.false, sound.left) in
    rw c.end_piece.ensures (content-whole st got x part r j.spells j.has at' all)

pub returns-in-Damaged-clause-reads : goal.returns-in-Damaged-clause-reads
returns-in-Damaged-clause-reads c = λ x r i.
    let st = state_of c.self.inside.state in
    let j = subst (λ s. IsAt s x r) (sym c.self.view_is) i in
    rw take-length (subst (λ s. ReadsOn s x r c.args.block.now None) c.self.view_is (damaged-on st _ x c.args.block.now r (ap stage_of c.in-Damaged.is) j))
