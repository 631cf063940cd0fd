use Rattle.std.specs.Int.{w32}
use Rattle.std.proofs.lemmas.Int.{to_z-of_z}
use Rattle.zk_asks.proofs.Lying.{parts_there}
use Rattle.zk_asks.proofs.Judged.{judged_within, judged_xid, judged_body, judged_is, judged_begins, judged_parts}
use Rattle.zk_asks.proofs.known.judged_request.Goals as goal

pub known-requires : goal.known-requires
known-requires c =
    let f = c.requires in
    parts_there c.args.payload.now _ 8 (judged_begins c.args.payload.now c.args.outline c.in-Multi.is f.0 (f.1, f.2, f.3))

pub body_there-requires : goal.body_there-requires
body_there-requires c = let f = c.requires in record { within = judged_within c.args.payload.now c.args.outline f.0 (f.1, f.2, f.3); stands = judged_body c.args.payload.now c.args.outline f.0 (f.1, f.2, f.3) }

pub returns-in-Multi : goal.returns-in-Multi
returns-in-Multi c = λ f asked sent is. rw (to_z-of_z w32 c.args.outline.xid (judged_xid c.args.payload.now c.args.outline f (asked, sent, is)), c.known.ensures) (judged_parts c.args.payload.now c.args.outline c.in-Multi.is f (asked, sent, is))

pub returns-in_default : goal.returns-in_default
returns-in_default c = λ f asked sent is. rw (to_z-of_z w32 c.args.outline.xid (judged_xid c.args.payload.now c.args.outline f (asked, sent, is))) (judged_is c.args.payload.now c.args.outline c.body_there.result c.body_there.ensures f (asked, sent, is))
