use Rattle.std.proofs.Common.{◌≡◌, take, sym, subst, []}
use Rattle.std.proofs.lemmas.Option.{IfSome_then}
use Rattle.zk_talk.specs.{declared.stream.Advance.TheVariants.Whole, Advance.IsAdvance, Streams.StreamState}
use Rattle.zk_talk.proofs.{Advancing.front_taken, Lists.front_again, Kept.nothing_kept, Kept.held_all}
use Rattle.zk_talk.proofs.stream.Stream.front.Goals as goal

pub returns : goal.returns
returns c =
    let s = c.self.inside in
    let bytes = s.frames.bytes in
    let part = c.first_bytes.result.now in
    let piece = c.args.piece.now in
    let room = c.within-room.result in
    let none = subst (λ (t : StreamState). t.kept ≡ []) (sym c.self.view_is) c.requires.dropped in
    let was = sym (held_all s.kept bytes (nothing_kept s.kept s.frames.limit bytes c.self.invariant none)) in
    rw (← c.self.view_is) (IfSome_then c.front.result c.front.ensures (λ used x.
    let y = front_taken s.frames.limit s.size bytes piece part (take used part) room c.first_bytes.ensures c.within-room.ensures.part c.within-room.ensures.fits used x in
    let whole = subst (λ z. (bytes ≡ []) × IsAdvance s.frames.limit s.size bytes piece (Whole used) z) (front_again piece part room used c.first_bytes.ensures x.part) y in
    subst (λ z. (z ≡ []) × IsAdvance s.frames.limit s.size z piece (Whole used) (take used piece)) was whole))
