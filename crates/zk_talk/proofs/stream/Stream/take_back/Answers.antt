use Rattle.std.proofs.Common.{sym, ap, subst, length, arith}
use Rattle.zk_frames.proofs.Cuts.{length-frame}
use Rattle.zk_frames.specs.Framing.{IsFrame}
use Rattle.zk_talk.specs.Streams.{StreamState}
use Rattle.zk_talk.proofs.{Advancing.never_both, Kept.none_kept, Kept.held_all}
use Rattle.zk_talk.proofs.stream.Stream.take_back.Goals as goal

pub overflow_cast-used : goal.overflow_cast-used
overflow_cast-used c = omega (arith, c.requires.part, ap length c.requires.whole.1, length-frame c.requires.whole.0, c.requires.whole.2, c.requires.limit)

pub untake-requires-clause-taken : goal.untake-requires-clause-taken
untake-requires-clause-taken c =
    let s = c.self.inside in
    let held = subst (λ (t : StreamState). IsFrame t.limit t.held) (sym c.self.view_is) c.requires.whole in
    let whole = subst (IsFrame s.frames.limit) (held_all s.kept s.frames.bytes (none_kept s.kept s.frames.limit s.frames.bytes held)) held in
    never_both s.frames.limit s.frames.bytes whole.0 whole.2 whole.1
