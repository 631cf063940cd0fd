-- Each frame's items are of a form, and the bytes of a form have no fault.
use Rattle.std.proofs.Common.{ℕ, List, inl, inr, refl, subst}
use Rattle.zk_jute.specs.{declared.fault.Reason.Reason, Item.Item, Item.bytes_of, Flagged.flag_items}
use Rattle.zk_jute.proofs.{Layouts.have_parts, Flagged.flagged_excludes}
use Rattle.zk_records.specs.{declared.op.Op.Op, declared.op.PartOp.PartOp, Records.connect_response, Records.reply_header, Records.watcher_event}
use Rattle.zk_answers.specs.{Held.ServerFrame, Faults.Fields, Faults.IsConnectedFault, Faults.IsReplyFault, Faults.IsEventFault, Faults.rest_shape, Forms.IsConnectedForm, Forms.IsReplyForm, Forms.IsEventForm}
use Rattle.zk_answers.specs.declared.frame.ServerFrameOf.TheVariants as frame
use Rattle.zk_answers.specs.Frames.{event_header, header_of, rest_items, frame_items, IsConnected, IsEvent, IsReplyTo, IsSent}
use Rattle.zk_answers.proofs.Events as events
use Rattle.zk_answers.proofs.{Heads.headed_excludes, Rests.rest_excludes}
use Rattle.zk_answers.proofs.Replies as replies

-- ---- a frame's items are of a form

pub connected_form : (s : ServerFrame) → IsConnected s → IsSent s → IsConnectedForm (frame_items s)
connected_form (frame.Connected hello flag) is sent =
    let items = connect_response.items hello in
    (items, flag, (connect_response.unfolds hello, (have_parts items (flag_items flag) sent.2).0), refl)
connected_form (frame.Answered r) is sent = absurd is
connected_form (frame.Event zxid event) is sent = absurd is

pub reply_form : (op : Op) (parts : List PartOp) (s : ServerFrame) → IsReplyTo op parts s → IsSent s → IsReplyForm op parts (frame_items s)
reply_form op parts (frame.Answered r) fits sent =
    let have = have_parts (reply_header.items (header_of r)) (rest_items r.outcome) sent.2 in
    (header_of r, record { rest = rest_items r.outcome; have = sent.2; of_shape = replies.rest_is op parts r.outcome fits sent.1 have.1; is = refl })
reply_form op parts (frame.Connected hello flag) fits sent = absurd fits
reply_form op parts (frame.Event zxid event) fits sent = absurd fits

pub event_form : (s : ServerFrame) → IsEvent s → IsSent s → IsEventForm (frame_items s)
event_form (frame.Event zxid event) is sent =
    let have = have_parts (reply_header.items (event_header zxid)) (watcher_event.items event) sent.2 in
    (zxid, record { rest = watcher_event.items event; have = sent.2; of_shape = (watcher_event.unfolds event, have.1); is = refl })
event_form (frame.Connected hello flag) is sent = absurd is
event_form (frame.Answered r) is sent = absurd is

-- ---- the bytes of a form have no fault

pub connected_not : (items : List Item) (p : ℕ) (r : Reason) → IsConnectedForm items → IsConnectedFault (bytes_of items) p r → ⊥
connected_not items p r form fault =
    flagged_excludes connect_response.layout form.0 form.1 p r form.2 (subst (λ (i : List Item). IsConnectedFault (bytes_of i) p r) form.3 fault)

pub reply_not : (op : Op) (parts : List PartOp) (items : List Item) (p : ℕ) (r : Reason) → IsReplyForm op parts items → IsReplyFault op parts (bytes_of items) p r → ⊥
reply_not op parts items p r form fault =
    let f = form.1 in
    headed_excludes (replies.Judged op parts) form.0 f.rest p r f.have
    (λ j. rest_excludes (rest_shape op parts form.0.err) f.rest j.0 r f.of_shape j.2)
    (replies.headed (subst (λ (i : List Item). IsReplyFault op parts (bytes_of i) p r) f.is fault))

pub event_not : (items : List Item) (p : ℕ) (r : Reason) → IsEventForm items → IsEventFault (bytes_of items) p r → ⊥
event_not items p r form fault =
    let f = form.1 in
    headed_excludes events.Judged (event_header form.0) f.rest p r f.have
    (λ j. elim j [ inl a ↦ a.0 refl | inr a ↦ rest_excludes (Fields watcher_event.layout) f.rest a.1 r f.of_shape a.3 ])
    (events.headed (subst (λ (i : List Item). IsEventFault (bytes_of i) p r) f.is fault))
