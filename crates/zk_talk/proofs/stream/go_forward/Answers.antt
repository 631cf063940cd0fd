use Rattle.std.proofs.Common.{inl, refl, arith, subst}
use Rattle.zk_frames.specs.Held.{IsRefusal}
use Rattle.zk_talk.proofs.Advancing.{only_fault, whole_taken, end_taken, within_taken, range_taken}
use Rattle.zk_talk.proofs.stream.go_forward.Goals as goal

pub overflow_sub-result : goal.overflow_sub-result
overflow_sub-result c =
    let f = c.args.frames.now in
    let r = subst (λ z. IsRefusal f.limit f.bytes c.first_bytes.result.now z c.take.new.self.bytes) (only_fault c.in-Err-LengthRange.field-0) ((c.in-Err-LengthRange.ensures).err f.bytes (inl (c.requires.begins, refl))) in
    omega (arith, c.held-held.ensures.count, r.3)

pub returns-then-took-clause-advance : goal.returns-then-took-clause-advance
returns-then-took-clause-advance c =
    let f = c.args.frames.now in
    whole_taken f.limit c.args.size f.bytes c.args.piece.now c.first_bytes.result.now c.take.new.self.bytes c.within-room.result c.first_bytes.ensures c.within-room.ensures.part c.within-room.ensures.fits c.in-Ok.took
    ((c.in-Ok.ensures).ok f.bytes (inl (c.requires.begins, refl))) c.if-took.true

pub returns-then-room-piece-clause-advance : goal.returns-then-room-piece-clause-advance
returns-then-room-piece-clause-advance c =
    let f = c.args.frames.now in
    end_taken f.limit c.args.size f.bytes c.args.piece.now c.first_bytes.result.now c.take.new.self.bytes c.within-room.result c.first_bytes.ensures c.within-room.ensures.part c.within-room.ensures.fits c.in-Ok.took
    ((c.in-Ok.ensures).ok f.bytes (inl (c.requires.begins, refl))) c.if-took.false c.if-room-piece.true (c.within-room.ensures.rest c.if-room-piece.true)

pub returns-else-room-piece-clause-advance : goal.returns-else-room-piece-clause-advance
returns-else-room-piece-clause-advance c =
    let f = c.args.frames.now in
    within_taken f.limit c.args.size f.bytes c.args.piece.now c.first_bytes.result.now c.take.new.self.bytes c.within-room.result c.first_bytes.ensures c.within-room.ensures.part c.within-room.ensures.fits c.in-Ok.took
    ((c.in-Ok.ensures).ok f.bytes (inl (c.requires.begins, refl))) c.if-took.false (λ l. omega (arith, l, c.if-room-piece.false))

pub returns-in-Err-LengthRange-clause-advance : goal.returns-in-Err-LengthRange-clause-advance
returns-in-Err-LengthRange-clause-advance c =
    let f = c.args.frames.now in
    range_taken f.limit c.args.size f.bytes c.args.piece.now c.first_bytes.result.now c.take.new.self.bytes c.within-room.result c.first_bytes.ensures c.within-room.ensures.part c.within-room.ensures.fits c.held-held.result c.held-held.ensures.count
    (subst (λ z. IsRefusal f.limit f.bytes c.first_bytes.result.now z c.take.new.self.bytes) (only_fault c.in-Err-LengthRange.field-0) ((c.in-Err-LengthRange.ensures).err f.bytes (inl (c.requires.begins, refl))))
