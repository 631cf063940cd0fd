use Rattle.std.proofs.Common.{subst, map}
use Rattle.std.specs.Prelude.{Option}
use Rattle.zk_asks.specs.{Parts.op_of_part, declared.judge.Outline.Outline}
use Rattle.zk_talk.specs.Settled.{IsAsking}
use Rattle.zk_talk.proofs.Settling.{few_asked, multi_asked, has_these, room_to, room_from}
use Rattle.zk_talk.proofs.judge.has_room.Goals as goal

pub judged_multi-requires-clause-few : goal.judged_multi-requires-clause-few
judged_multi-requires-clause-few c =
    let k = c.requires.asks in
    let p = c.args.payload.now in
    few_asked c.in-Some.outline p k.0 (subst (λ (a : Option Outline). IsAsking a p k.0) c.in-Some.is k.1) c.requires.small

pub judged_multi-requires-clause-multi : goal.judged_multi-requires-clause-multi
judged_multi-requires-clause-multi c =
    let k = c.requires.asks in
    let p = c.args.payload.now in
    multi_asked c.in-Some.outline p c.in-Multi.is k.0 (subst (λ (a : Option Outline). IsAsking a p k.0) c.in-Some.is k.1)

pub returns-in-Multi : goal.returns-in-Multi
returns-in-Multi c = λ f a.
    let of = c.in-Some.outline in
    let p = c.args.payload.now in
    let w = c.args.waiting.now in
    let b = subst (λ (z : Option Outline). IsAsking z p f) c.in-Some.is a in
    let list = c.judged_multi.result.list in
    let these = has_these of p c.in-Multi.is list c.judged_multi.ensures f b in
    let ps = map op_of_part list in
    ((λ yes. room_to of ps w f b.0 these (c.has_room.ensures.0 yes)), (λ room. c.has_room.ensures.1 (room_from of ps w f b.0 these room)))
