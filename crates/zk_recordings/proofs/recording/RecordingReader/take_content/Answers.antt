use Rattle.std.proofs.Common.{◌≡◌, ◌+◌, ◌∙◌, ap, arith, subst, sym}
use Rattle.zk_recordings.specs.{Reader.Content, Reader.stage_of, Reader.state_of, Reader.ReaderState, Reading.IsSoundAt}
use Rattle.zk_recordings.proofs.Contents.{takes-more, takes-whole}
use Rattle.zk_recordings.proofs.recording.RecordingReader.take_content.Goals as goal

pub returns-then-count-self-clause-reads : goal.returns-then-count-self-clause-reads
returns-then-count-self-clause-reads c = λ bytes long.
    let st = state_of c.self.inside.state in
    let stage = ap stage_of c.in-Content.is in
    let sound = subst (IsSoundAt st) stage c.self.invariant in
    rw (c.grow.ensures, ← c.self.view_is) (takes-more st c.in-Content.got stage c.args.count bytes long (omega (arith, c.if-count-self.true, sound.left)))

pub returns-else-count-self-clause-reads : goal.returns-else-count-self-clause-reads
returns-else-count-self-clause-reads c = λ bytes long.
    let st = state_of c.self.inside.state in
    let stage = ap stage_of c.in-Content.is in
    let sound = subst (IsSoundAt st) stage c.self.invariant in
    let within = c.requires.within in
    let w = within.2 in
    let at' : Content c.in-Content.got ≡ Content w.got = sym stage ∙ ap (λ (s : ReaderState). s.stage) c.self.view_is ∙ w.stage in
    let got : c.in-Content.got ≡ w.got = cc in
    let size = ap (λ (s : ReaderState). s.size) c.self.view_is in
    let all : c.in-Content.got + c.args.count ≡ st.size = omega (arith, c.if-count-self.false, sound.left, got, w.size_is, within.3, size) in
    rw (c.end_piece.ensures, ← c.self.view_is) (takes-whole st c.in-Content.got stage c.args.count bytes long all)
