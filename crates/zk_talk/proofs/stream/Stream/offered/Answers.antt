use Rattle.std.proofs.Common.{◌≡◌, [], arith, ap, ◌∙◌, rules}
use Rattle.std.proofs.lemmas.List.{nil_from_length}
use Rattle.zk_talk.specs.{Streams.StreamState, contracts.stream.Stream.the_view}
use Rattle.zk_talk.proofs.Offering.{offered_end, offered_early, offered_bad}
use Rattle.zk_talk.proofs.stream.Stream.offered.Goals as goal

pub returns-then-room-bytes : goal.returns-then-room-bytes
returns-then-room-bytes c =
    let s = the_view c.self.inside in
    let none : s.held ≡ [] = ap (λ (z : StreamState). z.held) c.self.view_is ∙ nil_from_length c.args.self.now.held (omega (arith, c.held.ensures.count, c.if-held-gt0.false)) in
    rw (← c.self.view_is) (offered_end s c.args.bytes.now none (λ odd. let no = c.is_one.ensures.only odd in cc) c.within-room.result c.if-room-bytes.true (c.within-room.ensures.rest c.if-room-bytes.true) (search rules))

pub returns-then-room-lt4 : goal.returns-then-room-lt4
returns-then-room-lt4 c =
    let s = the_view c.self.inside in
    let none : s.held ≡ [] = ap (λ (z : StreamState). z.held) c.self.view_is ∙ nil_from_length c.args.self.now.held (omega (arith, c.held.ensures.count, c.if-held-gt0.false)) in
    let long = c.in-Err-LengthRange.ensures.err.0 in
    rw (← c.self.view_is) (offered_early s c.args.bytes.now none (λ odd. let no = c.is_one.ensures.only odd in cc) c.within-room.result c.if-room-lt4.true long (c.within-room.ensures.rest (omega (arith, c.if-room-lt4.true, long))))

pub returns-else-room-lt4 : goal.returns-else-room-lt4
returns-else-room-lt4 c =
    let s = the_view c.self.inside in
    let none : s.held ≡ [] = ap (λ (z : StreamState). z.held) c.self.view_is ∙ nil_from_length c.args.self.now.held (omega (arith, c.held.ensures.count, c.if-held-gt0.false)) in
    let bad = c.in-Err-LengthRange.ensures.err in
    rw (← c.self.view_is) (offered_bad s c.args.bytes.now none (λ odd. let no = c.is_one.ensures.only odd in cc) bad.0 (omega (arith, c.if-room-lt4.false, c.within-room.ensures.fits)) bad.1)
