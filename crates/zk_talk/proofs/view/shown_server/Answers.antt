use Rattle.std.proofs.Common.{subst}
use Rattle.zk_talk.specs.Viewed.{IsShownAs}
use Rattle.zk_answers.proofs.Replies.{reply_of}
use Rattle.zk_talk.proofs.Viewing.{server_bytes}
use Rattle.zk_talk.proofs.view.shown_server.Goals as goal

pub reply_ref-requires : goal.reply_ref-requires
reply_ref-requires c =
    let k = c.requires in
    let kind = subst (λ o. IsShownAs c.args.count o k.0) c.in-Some.is k.1.kind in
    (k.0, reply_of _ kind.0 k.0 kind.1, (k.1.sent.1, k.1.sent.2), server_bytes c.args.payload.now k.0 k.1.is)

pub connected_ref-requires : goal.connected_ref-requires
connected_ref-requires c =
    let k = c.requires in
    let kind = subst (λ o. IsShownAs c.args.count o k.0) c.in-None.is k.1.kind in
    (k.0, kind.0 c.if-count-eq1.true, k.1.sent, server_bytes c.args.payload.now k.0 k.1.is)

pub event_ref-requires : goal.event_ref-requires
event_ref-requires c =
    let k = c.requires in
    let kind = subst (λ o. IsShownAs c.args.count o k.0) c.in-None.is k.1.kind in
    (k.0, kind.1 c.if-count-eq1.false, k.1.sent, server_bytes c.args.payload.now k.0 k.1.is)

pub returns-in-Some : goal.returns-in-Some
returns-in-Some c = λ s k.
    let kind = subst (λ o. IsShownAs c.args.count o s) c.in-Some.is k.kind in
    c.reply_ref.ensures s (reply_of _ kind.0 s kind.1) (k.sent.1, k.sent.2) (server_bytes c.args.payload.now s k.is)

pub returns-in-None : goal.returns-in-None
returns-in-None c = λ s k.
    let kind = subst (λ o. IsShownAs c.args.count o s) c.in-None.is k.kind in
    c.connected_ref.ensures s (kind.0 c.if-count-eq1.true) k.sent (server_bytes c.args.payload.now s k.is)

pub returns-in-None-2 : goal.returns-in-None-2
returns-in-None-2 c = λ s k.
    let kind = subst (λ o. IsShownAs c.args.count o s) c.in-None.is k.kind in
    c.event_ref.ensures s (kind.1 c.if-count-eq1.false) k.sent (server_bytes c.args.payload.now s k.is)
