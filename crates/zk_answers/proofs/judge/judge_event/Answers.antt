use Rattle.std.proofs.Common.{inr, ◌≡◌, sym, ap, subst, ◌∙◌, of_z, to_z, arith, List}
use Rattle.std.specs.Prelude.{pos}
use Rattle.std.specs.Int.{w32}
use Rattle.std.proofs.{lemmas.Int.to_z-of_z, lemmas.Result.err_from_is_err_and}
use Rattle.zk_jute.specs.{Item.Item, Item.HaveBytes, Told.StandsAt}
use Rattle.zk_jute.proofs.Judged.{says_more, says_one}
use Rattle.zk_records.proofs.Covered.{watcher_event_covered}
use Rattle.zk_answers.specs.declared.frame.ServerFrameOf.TheVariants as frame
use Rattle.zk_answers.proofs.{Ends.behind_header, Ends.header_there, Heads.head_is, Refusals.event_err, Refusals.event_inside, Refusals.event_left, Refusals.event_found}
use Rattle.zk_answers.proofs.judge.judge_event.Goals as goal

pub end-requires : goal.end-requires
end-requires g c =
    let h = c.requires.head in
    behind_header c.args.payload.now c.args.head.now h.0 h.1

pub returns-then-head-ne0-clause-fault : goal.returns-then-head-ne0-clause-fault
returns-then-head-ne0-clause-fault g c =
    let src = c.args.payload.now in
    let head = c.args.head.now in
    let h = c.requires.head in
    says_one g.V.Verdict.tells _ _ (event_err src head 16 (head_is head h.1.0) (header_there src head h.0 h.1) (λ e. c.if-head-ne0.true (ap (of_z w32) e)), λ e. cc) c.at.result c.at.ensures

pub returns-in_err-end-clause-fault : goal.returns-in_err-end-clause-fault
returns-in_err-end-clause-fault g c =
    let src = c.args.payload.now in
    let head = c.args.head.now in
    let h = c.requires.head in
    let p = err_from_is_err_and c.from_residual.result c.from_residual.ensures.1 in
    let err : head.err ≡ pos 0 = sym (to_z-of_z w32 head.err h.1.0.1.1.0) ∙ ap (to_z w32) c.if-head-ne0.false in
    rw (p.1, p.2) (says_more g.V.Verdict.tells _ _ (λ e f. (event_inside src head 16 (head_is head h.1.0) (header_there src head h.0 h.1) err e (inr f.0), f.1)) c.in_err-end.field-0.0 c.in_err-end.ensures.fault)

pub returns-then-end-payload-clause-fault : goal.returns-then-end-payload-clause-fault
returns-then-end-payload-clause-fault g c =
    let src = c.args.payload.now in
    let head = c.args.head.now in
    let h = c.requires.head in
    let v = c.in_ok-end.ensures.found in
    let err : head.err ≡ pos 0 = sym (to_z-of_z w32 head.err h.1.0.1.1.0) ∙ ap (to_z w32) c.if-head-ne0.false in
    says_one g.V.Verdict.tells _ _ (event_left src head 16 (head_is head h.1.0) (header_there src head h.0 h.1) err v.0 c.in_ok-end.end v.1 v.2 c.if-end-payload.true, λ e. cc) c.at-then-end-payload.result c.at-then-end-payload.ensures

pub returns-clause-found : goal.returns-clause-found
returns-clause-found g c = λ yes.
    let src = c.args.payload.now in
    let head = c.args.head.now in
    let h = c.requires.head in
    let v = c.in_ok-end.ensures.found in
    let err : head.err ≡ pos 0 = sym (to_z-of_z w32 head.err h.1.0.1.1.0) ∙ ap (to_z w32) c.if-head-ne0.false in
    let w = watcher_event_covered v.0 v.1.0 in
    let have = subst HaveBytes (sym w.1) v.1.1 in
    let stands = subst (λ (i : List Item). StandsAt i src 16 c.in_ok-end.end) (sym w.1) v.2 in
    let found = event_found src head 16 (head_is head h.1.0) (header_there src head h.0 h.1) w.0 c.in_ok-end.end c.requires.event err have stands (omega (arith, c.if-end-payload.false)) in
    (frame.Event head.zxid w.0, found.0, found.1, found.2)
