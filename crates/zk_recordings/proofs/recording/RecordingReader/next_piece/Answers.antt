use Rattle.std.proofs.Common.{ap, ◌≡◌, ◌∙◌}
use Rattle.zk_recordings.specs.{declared.parts.Part.TheVariants.SideByte, Reader.Fixed, Reader.stage_of, Reader.state_of}
use Rattle.zk_recordings.proofs.Whole.{reads-piece}
use Rattle.zk_recordings.proofs.recording.RecordingReader.next_piece.Goals as goal

pub returns-in_ok-piece-in-Fixed-SideByte-default-default-clause-reads :
    goal.returns-in_ok-piece-in-Fixed-SideByte-default-default-clause-reads
returns-in_ok-piece-in-Fixed-SideByte-default-default-clause-reads c =
    let f = c.in-Fixed-SideByte-default-default in
    let p = c.in_ok-piece-in-Fixed-SideByte-default-default in
    let side : f.part ≡ SideByte = rw f.is at f.part-is in
    let stage = ap stage_of f.is ∙ ap (λ q. Fixed q f.bytes f.got) side in
    rw (← c.self.view_is) (reads-piece (state_of c.self.inside.state) c.args.block.now p.piece p.ensures f.bytes f.got stage c.self.invariant)
