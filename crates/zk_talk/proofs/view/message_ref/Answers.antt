use Rattle.std.proofs.Common.{ap, sym, subst, ◌∙◌}
use Rattle.zk_talk.specs.Written.{IsWritten}
use Rattle.zk_talk.specs.declared.message.MessageOf.TheVariants as message
use Rattle.zk_talk.proofs.OfKind.{written_connect, written_ask, written_connected, written_event, written_reply}
use Rattle.zk_talk.proofs.view.message_ref.Goals as goal

pub written_ref-requires : goal.written_ref-requires
written_ref-requires c =
    let f = written_connect c.args.payload.now c.requires.0 (subst (λ k. IsWritten k c.args.payload.now c.requires.0) c.in-Connect.is c.requires.1) in
    (f.0, f.2, f.3, f.4)

pub returns-in-Connect : goal.returns-in-Connect
returns-in-Connect c = λ m w.
    let f = written_connect c.args.payload.now m (subst (λ k. IsWritten k c.args.payload.now m) c.in-Connect.is w) in
    ap message.Client (c.written_ref.ensures f.0 f.2 f.3 f.4) ∙ sym f.1

pub written_ref-requires-in-Ask : goal.written_ref-requires-in-Ask
written_ref-requires-in-Ask c =
    let f = written_ask c.args.payload.now c.requires.0 (subst (λ k. IsWritten k c.args.payload.now c.requires.0) c.in-Ask.is c.requires.1) in
    (f.0, f.2, f.3, f.4)

pub returns-in-Ask : goal.returns-in-Ask
returns-in-Ask c = λ m w.
    let f = written_ask c.args.payload.now m (subst (λ k. IsWritten k c.args.payload.now m) c.in-Ask.is w) in
    ap message.Client (c.written_ref-in-Ask.ensures f.0 f.2 f.3 f.4) ∙ sym f.1

pub connected_ref-requires : goal.connected_ref-requires
connected_ref-requires c =
    let f = written_connected c.args.payload.now c.requires.0 (subst (λ k. IsWritten k c.args.payload.now c.requires.0) c.in-Connected.is c.requires.1) in
    (f.0, f.2, f.3, f.4)

pub returns-in-Connected : goal.returns-in-Connected
returns-in-Connected c = λ m w.
    let f = written_connected c.args.payload.now m (subst (λ k. IsWritten k c.args.payload.now m) c.in-Connected.is w) in
    ap message.Server (c.connected_ref.ensures f.0 f.2 f.3 f.4) ∙ sym f.1

pub event_ref-requires : goal.event_ref-requires
event_ref-requires c =
    let f = written_event c.args.payload.now c.requires.0 (subst (λ k. IsWritten k c.args.payload.now c.requires.0) c.in-Event.is c.requires.1) in
    (f.0, f.2, f.3, f.4)

pub returns-in-Event : goal.returns-in-Event
returns-in-Event c = λ m w.
    let f = written_event c.args.payload.now m (subst (λ k. IsWritten k c.args.payload.now m) c.in-Event.is w) in
    ap message.Server (c.event_ref.ensures f.0 f.2 f.3 f.4) ∙ sym f.1

pub written_reply_ref-requires : goal.written_reply_ref-requires
written_reply_ref-requires c =
    let f = written_reply c.args.payload.now c.in-Answered.op c.requires.0 (subst (λ k. IsWritten k c.args.payload.now c.requires.0) c.in-Answered.is c.requires.1) in
    (f.0, f.2, f.3, f.4)

pub returns-in-Answered : goal.returns-in-Answered
returns-in-Answered c = λ m w.
    let f = written_reply c.args.payload.now c.in-Answered.op m (subst (λ k. IsWritten k c.args.payload.now m) c.in-Answered.is w) in
    ap message.Server (c.written_reply_ref.ensures f.0 f.2 f.3 f.4) ∙ sym f.1
