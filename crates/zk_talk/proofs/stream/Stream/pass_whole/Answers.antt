use Rattle.std.proofs.Common.{◌≡◌, [], ◌+◌, ap, ◌∙◌}
use Rattle.zk_talk.specs.{Streams.StreamState, Streams.kept_where, contracts.stream.Stream.the_view}
use Rattle.zk_talk.proofs.stream.Stream.pass_whole.Goals as goal

pub returns : goal.returns
returns c =
    let s = c.self.inside in
    let none : (the_view s).held ≡ [] = ap (λ (t : StreamState). t.held) c.self.view_is ∙ c.requires.none.0 in
    rw (← c.self.view_is) (λ i. record { limit = s.frames.limit; held = none i; kept = kept_where s.kept s.frames.bytes; count = s.count + 1; size = s.size + c.args.used })
