use Rattle.std.proofs.Common.{◌≡◌, sym, subst, []}
use Rattle.std.proofs.lemmas.Option.{IfSome_then}
use Rattle.zk_frames.specs.Held.{IsFront}
use Rattle.zk_talk.specs.{declared.stream.Advance.TheVariants.Whole, Advance.IsAdvance, Streams.StreamState, Streams.held_where}
use Rattle.zk_talk.proofs.{Advancing.front_taken, Kept.all_held, Kept.stays_open}
use Rattle.zk_talk.proofs.stream.Stream.take_whole.Goals as goal

pub returns-clause-stays : goal.returns-clause-stays
returns-clause-stays c =
    let s = c.self.inside in
    let f = c.take_whole.new.self in
    rw (← c.self.view_is) (stays_open s.kept s.frames.limit s.frames.bytes c.self.invariant (subst (λ (t : StreamState). t.kept ≡ []) (sym c.self.view_is) c.requires.dropped) f.limit c.take_whole.ensures.limit f.bytes s.count s.size)

pub returns-clause-some : goal.returns-clause-some
returns-clause-some c =
    let s = c.self.inside in
    let f = c.take_whole.new.self in
    let part = c.first_bytes.result.now in
    let piece = c.args.piece.now in
    let open' = all_held s.kept s.frames.limit s.frames.bytes c.self.invariant (subst (λ (t : StreamState). t.kept ≡ []) (sym c.self.view_is) c.requires.dropped) in
    rw (← c.self.view_is) (IfSome_then c.take_whole.result c.take_whole.ensures.some (λ used x.
    let same = subst (λ l. IsFront s.frames.bytes part used (record { limit = l; bytes = f.bytes })) c.take_whole.ensures.limit x in
    let y = front_taken s.frames.limit s.size s.frames.bytes piece part f.bytes c.within-room.result c.first_bytes.ensures c.within-room.ensures.part c.within-room.ensures.fits used same in
    subst (λ z. (z ≡ []) × IsAdvance s.frames.limit s.size z piece (Whole used) (held_where s.kept f.bytes)) (open' s.frames.bytes)
    (subst (λ z. (s.frames.bytes ≡ []) × IsAdvance s.frames.limit s.size s.frames.bytes piece (Whole used) z) (open' f.bytes) y)))
