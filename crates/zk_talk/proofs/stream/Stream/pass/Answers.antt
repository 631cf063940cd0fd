use Rattle.std.proofs.Common.{sym, ap, subst, ◌∙◌, ◌+◌}
use Rattle.zk_frames.specs.Framing.{IsFrame}
use Rattle.zk_talk.specs.Streams.{StreamState}
use Rattle.zk_talk.proofs.Kept.{none_kept, held_all, kept_none}
use Rattle.zk_talk.proofs.stream.Stream.pass.Goals as goal

pub returns : goal.returns
returns c =
    let s = c.self.inside in
    let whole = subst (λ (t : StreamState). IsFrame t.limit t.held) (sym c.self.view_is) c.requires.whole in
    let closed = none_kept s.kept s.frames.limit s.frames.bytes whole in
    let held = held_all s.kept c.drop_frame.new.self.bytes closed ∙ ap (λ z. z.bytes) c.drop_frame.ensures in
    let kept = kept_none s.kept c.drop_frame.new.self.bytes closed ∙ sym (kept_none s.kept s.frames.bytes closed) in
    rw (← c.self.view_is) (λ i. record { limit = (c.drop_frame.ensures i).limit; held = held i; kept = kept i; count = s.count + 1; size = s.size + c.args.used })
