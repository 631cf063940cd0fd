use Rattle.std.proofs.Common.{◌≡◌, Ok, Err, refl, sym, subst, inr, drop}
use Rattle.std.proofs.lemmas.Result.{err_from_is_err_and}
use Rattle.zk_answers.specs.{Held.ServerFrame, Frames.IsEvent, Frames.IsSent, Frames.payload, Faults.IsEventFault}
use Rattle.zk_answers.proofs.{Refusals.head_of, Refusals.event_short, Events.event_injective, Events.event_excludes, Scanned.only_it}
use Rattle.zk_answers.proofs.borrow.borrow_event.Goals as goal

pub returns-in_err-head-clause-fault : goal.returns-in_err-head-clause-fault
returns-in_err-head-clause-fault c =
    let p = err_from_is_err_and c.from_residual.result c.from_residual.ensures.1 in
    let e = c.in_err-head.ensures.fault in
    rw (p.1, p.2) (event_short c.args.payload.now c.in_err-head.field-0.0 (inr e.0), e.1)

pub returns-in_err-head-clause-only : goal.returns-in_err-head-clause-only
returns-in_err-head-clause-only c =
    let p = err_from_is_err_and c.from_residual.result c.from_residual.ensures.1 in
    let e = c.in_err-head.ensures.fault in
    rw (p.1, p.2) (only_it IsEvent IsEventFault c.args.payload.now (Err c.in_err-head.field-0.0) tt (event_short c.args.payload.now c.in_err-head.field-0.0 (inr e.0), e.1) event_injective event_excludes)

pub judge_event-requires-clause-head : goal.judge_event-requires-clause-head
judge_event-requires-clause-head c =
    let src = c.args.payload.now in
    let f = c.in_ok-head.ensures.found in
    (drop c.in_ok-head.field-0-1 src, head_of src c.in_ok-head.head c.in_ok-head.field-0-1 f.0 f.1)

pub judge_event-requires-clause-event : goal.judge_event-requires-clause-event
judge_event-requires-clause-event c =
    let f = c.in_ok-head.ensures.found in
    c.requires c.in_ok-head.head _ (head_of c.args.payload.now c.in_ok-head.head c.in_ok-head.field-0-1 f.0 f.1)

pub event_ref-requires : goal.event_ref-requires
event_ref-requires c = c.in_ok-judge_event.ensures.found refl

pub returns-clause-found : goal.returns-clause-found
returns-clause-found c =
    let s = c.in_ok-judge_event.ensures.found refl in
    let is = c.event_ref.ensures s.0 s.1 s.2 s.3 in
    subst (λ (t : ServerFrame). IsEvent t × IsSent t × (c.args.payload.now ≡ payload t)) (sym is) (s.1, s.2, s.3)

pub returns-clause-only : goal.returns-clause-only
returns-clause-only c = only_it IsEvent IsEventFault c.args.payload.now (Ok c.event_ref.result) (returns-clause-found c) tt event_injective event_excludes

pub returns-in_err-judge_event-clause-only : goal.returns-in_err-judge_event-clause-only
returns-in_err-judge_event-clause-only c =
    let p = err_from_is_err_and c.from_residual-in_err-judge_event.result c.from_residual-in_err-judge_event.ensures.1 in
    rw (p.1, p.2) (only_it IsEvent IsEventFault c.args.payload.now (Err c.in_err-judge_event.field-0.0) tt c.in_err-judge_event.ensures.fault event_injective event_excludes)
