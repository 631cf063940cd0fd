use Rattle.std.proofs.Common.{◌≡◌, sym, subst, [], ◌∙◌}
use Rattle.std.proofs.lemmas.Bool.{false≢true}
use Rattle.zk_frames.specs.Framing.{IsBeginning}
use Rattle.zk_talk.specs.{Advance.IsAdvance, Streams.StreamState, Streams.held_where}
use Rattle.zk_talk.proofs.Kept.{nothing_kept, all_held, stays_open}
use Rattle.zk_talk.proofs.stream.Stream.take.Goals as goal

pub go_forward-requires-clause-begins : goal.go_forward-requires-clause-begins
go_forward-requires-clause-begins c =
    let s = c.self.inside in
    let none = subst (λ (t : StreamState). t.kept ≡ []) (sym c.self.view_is) c.requires.dropped in
    subst (IsBeginning s.frames.limit) (sym (all_held s.kept s.frames.limit s.frames.bytes c.self.invariant none s.frames.bytes)) (subst (λ (t : StreamState). IsBeginning t.limit t.held) (sym c.self.view_is) c.requires.begins)

pub invariant_of-self : goal.invariant_of-self
invariant_of-self c =
    let s = c.self.inside in
    let none = subst (λ (t : StreamState). t.kept ≡ []) (sym c.self.view_is) c.requires.dropped in
    λ closed. absurd (false≢true (sym (nothing_kept s.kept s.frames.limit s.frames.bytes c.self.invariant none) ∙ closed))

pub returns-clause-stays : goal.returns-clause-stays
returns-clause-stays c =
    let s = c.self.inside in
    let none = subst (λ (t : StreamState). t.kept ≡ []) (sym c.self.view_is) c.requires.dropped in
    let f = c.go_forward.new.frames in
    rw (← c.self.view_is) (stays_open s.kept s.frames.limit s.frames.bytes c.self.invariant none f.limit c.go_forward.ensures.limit f.bytes s.count s.size)

pub returns-clause-advance : goal.returns-clause-advance
returns-clause-advance c =
    let s = c.self.inside in
    let none = subst (λ (t : StreamState). t.kept ≡ []) (sym c.self.view_is) c.requires.dropped in
    let f = c.go_forward.new.frames in
    let open' = all_held s.kept s.frames.limit s.frames.bytes c.self.invariant none in
    rw (← c.self.view_is) (subst (λ z. IsAdvance s.frames.limit s.size z c.args.piece.now c.go_forward.result (held_where s.kept f.bytes)) (open' s.frames.bytes)
    (subst (IsAdvance s.frames.limit s.size s.frames.bytes c.args.piece.now c.go_forward.result) (open' f.bytes) c.go_forward.ensures.advance))
