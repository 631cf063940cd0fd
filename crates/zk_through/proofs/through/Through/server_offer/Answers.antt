use Rattle.std.proofs.Common.{rules, ◌∙◌, ◌+◌, ℤ, Ok, Some, refl, sym, ap, subst, w32, w64, SFits}
use Rattle.std.proofs.{lemmas.Int.to_z-of_z, lemmas.Result.err_from_is_err_and}
use Rattle.zk_jute.specs.declared.fault.ItemFault.{ItemFault}
use Rattle.zk_talk.specs.{declared.limits.Limits.Limits, declared.message.Side.TheVariants.Server, declared.stream.Advance.TheVariants.Whole, Fault.fault_of, Streams.kept_now, Streams.held_in, Offered.IsOffered}
use Rattle.zk_through.specs.{contracts.through.Through.the_view, declared.fate.ServerFate.ServerFate, Runs.ThroughState, Runs.dropped, Turns.after_answer, Fates.HasServerFate, Offered.TellsNext}
use Rattle.zk_through.specs.declared.through.StepOutcome.TheVariants as outcome
use Rattle.zk_through.proofs.AnsweringServer.{server_passed, server_left, server_over, server_bad, server_refused}
use Rattle.zk_through.proofs.{Given.given_outcome, Steps.ready, Offering.one_frame, Offering.whole_of, Offering.never_begun, Offering.lent, Offering.would}
use Rattle.zk_through.proofs.through.Through.server_offer.Goals as goal

pub returns-in-Unseen-clause-offered : goal.returns-in-Unseen-clause-offered
returns-in-Unseen-clause-offered c =
    let T = the_view c.self.inside in
    let G = dropped Server T in
    let bytes = c.args.frame.now in
    let used = c.args.used in
    let same = c.self.invariant.2.same ∙ ap (λ (l : Limits). l.server) (sym c.self.invariant.0) in
    let x = ready Server G G c.self.inside.limits c.self.invariant.0 c.self.invariant.2.same c.self.invariant.4.0 refl refl in
    let o = subst (λ (z : ThroughState). IsOffered z.server bytes (Whole used)) (sym c.self.view_is) c.requires.whole in
    let is = whole_of Server T bytes same used o c.carried-payload.result.now c.carried-payload.ensures in
    let w = lent Server G bytes used o x c.carried-payload.result.now is in
    let n = c.count-number.result in
    let after = c.server_fate.new.matched in
    let fate = subst (λ (z : ServerFate). HasServerFate c.self.inside.late c.self.inside.matched c.self.inside.turns n w.p z after) c.in-Unseen.is c.server_fate.ensures in
    let xid : SFits w32 c.in-Unseen.xid = search rules in
    let zxid : SFits w64 c.in-Unseen.zxid = search rules in
    let err : SFits w32 c.in-Unseen.err = search rules in
    let keep = c.keep_whole.ensures ∙ ap (kept_now (held_in T.server bytes)) (sym o.2) in
    let outcome' = server_over G bytes used _ w n c.count-number.ensures c.keep_whole.new.self after c.in-Unseen.xid c.in-Unseen.zxid c.in-Unseen.err fate keep in
    rw (← c.self.view_is, c.of.ensures, to_z-of_z w32 c.in-Unseen.xid xid, to_z-of_z w64 c.in-Unseen.zxid zxid, to_z-of_z w32 c.in-Unseen.err err) (one_frame Server T bytes same used o, (o.2, given_outcome Server T bytes used (outcome.Unseen c.in-Unseen.xid c.in-Unseen.zxid c.in-Unseen.err) _ outcome'))

pub returns-in-Refused-clause-offered : goal.returns-in-Refused-clause-offered
returns-in-Refused-clause-offered c =
    let T = the_view c.self.inside in
    let G = dropped Server T in
    let bytes = c.args.frame.now in
    let used = c.args.used in
    let same = c.self.invariant.2.same ∙ ap (λ (l : Limits). l.server) (sym c.self.invariant.0) in
    let x = ready Server G G c.self.inside.limits c.self.invariant.0 c.self.invariant.2.same c.self.invariant.4.0 refl refl in
    let o = subst (λ (z : ThroughState). IsOffered z.server bytes (Whole used)) (sym c.self.view_is) c.requires.whole in
    let is = whole_of Server T bytes same used o c.carried-payload.result.now c.carried-payload.ensures in
    let w = lent Server G bytes used o x c.carried-payload.result.now is in
    let n = c.count-number.result in
    let after = c.server_fate.new.matched in
    let fate = subst (λ (z : ServerFate). HasServerFate c.self.inside.late c.self.inside.matched c.self.inside.turns n w.p z after) c.in-Refused.is c.server_fate.ensures in
    let e = c.next_fault.result in
    let told = c.next_fault.ensures ∙ ap (λ (i : ItemFault). fault_of Server T.server.count (T.server.size + used) i.place i.reason) c.at-item.ensures in
    let refused = server_bad G bytes used _ w n c.count-number.ensures e (Some e) after after c.in-Refused.reason fate told refl in
    rw (← c.self.view_is) (would Server T (record G { server = held_in G.server bytes; matched = after; fault = Some e }) bytes e refl refused, refl)

pub returns-in-LeftOut-clause-offered : goal.returns-in-LeftOut-clause-offered
returns-in-LeftOut-clause-offered c =
    let T = the_view c.self.inside in
    let G = dropped Server T in
    let bytes = c.args.frame.now in
    let used = c.args.used in
    let same = c.self.invariant.2.same ∙ ap (λ (l : Limits). l.server) (sym c.self.invariant.0) in
    let x = ready Server G G c.self.inside.limits c.self.invariant.0 c.self.invariant.2.same c.self.invariant.4.0 refl refl in
    let o = subst (λ (z : ThroughState). IsOffered z.server bytes (Whole used)) (sym c.self.view_is) c.requires.whole in
    let is = whole_of Server T bytes same used o c.carried-payload.result.now c.carried-payload.ensures in
    let w = lent Server G bytes used o x c.carried-payload.result.now is in
    let n = c.count-number.result in
    let after = c.server_fate.new.matched in
    let fate = subst (λ (z : ServerFate). HasServerFate c.self.inside.late c.self.inside.matched c.self.inside.turns n w.p z after) c.in-LeftOut.is c.server_fate.ensures in
    let turn = c.in-LeftOut.turn in
    let fits : SFits w32 turn.xid = search rules in
    let less = c.answer.ensures.now ∙ ap (λ (z : ℤ). after_answer z c.self.inside.turns) (to_z-of_z w32 turn.xid fits) in
    let keep = c.keep_whole-in-LeftOut.ensures ∙ ap (kept_now (held_in T.server bytes)) (sym o.2) in
    let outcome' = server_left G bytes used _ w n c.count-number.ensures c.keep_whole-in-LeftOut.new.self c.answer.new.self after _ turn fate keep less refl in
    rw (← c.self.view_is, c.of-in-LeftOut.ensures) (one_frame Server T bytes same used o, (o.2, given_outcome Server T bytes used (outcome.Answered turn) _ outcome'))

pub returns-else-not-told-clause-offered : goal.returns-else-not-told-clause-offered
returns-else-not-told-clause-offered c =
    let T = the_view c.self.inside in
    let G = dropped Server T in
    let bytes = c.args.frame.now in
    let used = c.args.used in
    let same = c.self.invariant.2.same ∙ ap (λ (l : Limits). l.server) (sym c.self.invariant.0) in
    let x = ready Server G G c.self.inside.limits c.self.invariant.0 c.self.invariant.2.same c.self.invariant.4.0 refl refl in
    let o = subst (λ (z : ThroughState). IsOffered z.server bytes (Whole used)) (sym c.self.view_is) c.requires.whole in
    let is = whole_of Server T bytes same used o c.carried-payload.result.now c.carried-payload.ensures in
    let w = lent Server G bytes used o x c.carried-payload.result.now is in
    let n = c.count-number.result in
    let after = c.server_fate.new.matched in
    let fate = subst (λ (z : ServerFate). HasServerFate c.self.inside.late c.self.inside.matched c.self.inside.turns n w.p z after) c.in-Told.is c.server_fate.ensures in
    let t = subst (λ b. TellsNext T.talk T.server Server bytes used (Ok b) c.tell_next.new.talk c.tell_next.new.stream) c.if-not-told.false c.in_ok-told-in-Told.ensures.told in
    let outcome' = server_passed G bytes used _ w n c.count-number.ensures c.tell_next.new.stream c.tell_next.new.talk c.reply.new.self after c.in-Told.asked t.2 t.1 t.0 c.in-Told.xid fate c.reply.ensures.now in
    rw (← c.self.view_is, c.of-in-Told.ensures) (one_frame Server T bytes same used o, (o.2, given_outcome Server T bytes used outcome.Message _ outcome'))

pub returns-then-not-told-clause-offered : goal.returns-then-not-told-clause-offered
returns-then-not-told-clause-offered c =
    let T = the_view c.self.inside in
    let G = dropped Server T in
    let bytes = c.args.frame.now in
    let used = c.args.used in
    let same = c.self.invariant.2.same ∙ ap (λ (l : Limits). l.server) (sym c.self.invariant.0) in
    let x = ready Server G G c.self.inside.limits c.self.invariant.0 c.self.invariant.2.same c.self.invariant.4.0 refl refl in
    let o = subst (λ (z : ThroughState). IsOffered z.server bytes (Whole used)) (sym c.self.view_is) c.requires.whole in
    let is = whole_of Server T bytes same used o c.carried-payload.result.now c.carried-payload.ensures in
    let w = lent Server G bytes used o x c.carried-payload.result.now is in
    let n = c.count-number.result in
    let t = subst (λ b. TellsNext T.talk T.server Server bytes used (Ok b) c.tell_next.new.talk c.tell_next.new.stream) c.if-not-told.true c.in_ok-told-in-Told.ensures.told in
    rw (← c.self.view_is, t.1, t.2) (never_begun Server T bytes same used o t.0, refl)

pub returns-in_err-told-in-Told-clause-offered : goal.returns-in_err-told-in-Told-clause-offered
returns-in_err-told-in-Told-clause-offered c =
    let T = the_view c.self.inside in
    let G = dropped Server T in
    let bytes = c.args.frame.now in
    let used = c.args.used in
    let same = c.self.invariant.2.same ∙ ap (λ (l : Limits). l.server) (sym c.self.invariant.0) in
    let x = ready Server G G c.self.inside.limits c.self.invariant.0 c.self.invariant.2.same c.self.invariant.4.0 refl refl in
    let o = subst (λ (z : ThroughState). IsOffered z.server bytes (Whole used)) (sym c.self.view_is) c.requires.whole in
    let is = whole_of Server T bytes same used o c.carried-payload.result.now c.carried-payload.ensures in
    let w = lent Server G bytes used o x c.carried-payload.result.now is in
    let n = c.count-number.result in
    let after = c.server_fate.new.matched in
    let fate = subst (λ (z : ServerFate). HasServerFate c.self.inside.late c.self.inside.matched c.self.inside.turns n w.p z after) c.in-Told.is c.server_fate.ensures in
    let p = err_from_is_err_and c.from_residual.result c.from_residual.ensures.1 in
    let e = c.in_err-told-in-Told.field-0.0 in
    let t = c.in_err-told-in-Told.ensures.told in
    let refused = server_refused G bytes used _ w n c.count-number.ensures c.in-Told.xid c.in-Told.asked after fate e (Some e) after T.server T.talk (t.1, refl) t.0 in
    rw (← c.self.view_is, p.1, p.2, t.2, t.3) (would Server T (record G { talk = T.talk; server = T.server; matched = after; fault = Some e }) bytes e refl refused, refl)
