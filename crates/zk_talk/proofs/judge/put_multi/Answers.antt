use Rattle.std.proofs.Common.{ℤ, sym, subst, map, arith}
use Rattle.std.specs.Int.{w32}
use Rattle.std.proofs.lemmas.Int.{to_z-of_z}
use Rattle.zk_records.specs.declared.op.Op.TheVariants as ops
use Rattle.zk_asks.specs.Parts.{op_of_part}
use Rattle.zk_waiting.specs.{Lane.lane_of, Waiting.IsPut}
use Rattle.zk_talk.proofs.Settling.{few_asked, fits_asked, multi_asked, has_these, room_from, put_to, put_full}
use Rattle.zk_talk.proofs.judge.put_multi.Goals as goal

pub judged_multi-multi-requires-clause-few : goal.judged_multi-multi-requires-clause-few
judged_multi-multi-requires-clause-few c = let k = c.requires.asks in few_asked c.args.outline c.args.payload.now k.0 k.1 c.requires.small

pub judged_multi-multi-requires-clause-multi : goal.judged_multi-multi-requires-clause-multi
judged_multi-multi-requires-clause-multi c = let k = c.requires.asks in multi_asked c.args.outline c.args.payload.now c.requires.multi k.0 k.1

pub returns-in-Ok-clause-put : goal.returns-in-Ok-clause-put
returns-in-Ok-clause-put c = λ yes f a.
    let of = c.args.outline in
    let p = c.args.payload.now in
    let w = c.args.waiting.now in
    let new = c.put_numbered.new.self in
    let multi = c.judged_multi-multi in
    let ps = map op_of_part multi.result.list in
    let these = has_these of p c.requires.multi multi.result.list multi.ensures f a in
    let put = subst (λ (z : ℤ). IsPut (lane_of z) (record { xid = z; op = ops.Multi; parts = ps; frame = c.args.number }) w new) (to_z-of_z w32 of.xid (fits_asked of p f a)) c.in-Ok.ensures.ok in
    put_to of ps w c.args.number new ops.Multi (sym c.requires.multi) f a.0 these c.in-Ok.ensures.fits put

pub returns-in-Err-QueueFull-clause-full : goal.returns-in-Err-QueueFull-clause-full
returns-in-Err-QueueFull-clause-full c = λ no f a room.
    let of = c.args.outline in
    let p = c.args.payload.now in
    let multi = c.judged_multi-multi in
    let ps = map op_of_part multi.result.list in
    let these = has_these of p c.requires.multi multi.result.list multi.ensures f a in
    omega (arith, put_full _ _ _ c.in-Err-QueueFull.ensures.err.1, room_from of ps c.args.waiting.now f a.0 these room)
