use Rattle.std.proofs.Common.{sym, ◌∙◌, subst}
use Rattle.zk_frames.specs.Framing.{IsFrame}
use Rattle.zk_talk.specs.Streams.{StreamState}
use Rattle.zk_talk.proofs.Kept.{none_kept, held_all}
use Rattle.zk_talk.proofs.stream.Stream.frame.Goals as goal

pub returns : goal.returns
returns c =
    let s = c.self.inside in
    let whole = subst (λ (t : StreamState). IsFrame t.limit t.held) (sym c.self.view_is) c.requires in
    c.bytes.ensures ∙ (rw (← c.self.view_is) (sym (held_all s.kept s.frames.bytes (none_kept s.kept s.frames.limit s.frames.bytes whole))))
