use Rattle.std.proofs.Common.{◌∙◌, Ok, Some, refl, sym, ap, subst, arith}
use Rattle.std.proofs.lemmas.Result.{err_from_is_err_and}
use Rattle.zk_talk.specs.{declared.limits.Limits.Limits, declared.message.Side.TheVariants.Client, declared.stream.Advance.TheVariants.Whole, Streams.kept_now, Streams.held_in, Offered.IsOffered}
use Rattle.zk_through.specs.{contracts.through.Through.the_view, Runs.ThroughState, Runs.dropped, Fates.HasClientFate, Offered.TellsNext}
use Rattle.zk_through.specs.declared.through.StepOutcome.TheVariants as outcome
use Rattle.zk_through.proofs.AnsweringClient.{client_told, client_left, client_refused, is_full}
use Rattle.zk_through.proofs.{Given.given_outcome, Given.given_full, Steps.ready, Offering.one_frame, Offering.whole_of, Offering.never_begun, Offering.lent, Offering.would}
use Rattle.zk_through.proofs.through.Through.client_offer.Goals as goal

pub client_fate-requires-clause-small : goal.client_fate-requires-clause-small
client_fate-requires-clause-small c =
    let T = the_view c.self.inside in
    let G = dropped Client T in
    let bytes = c.args.frame.now in
    let used = c.args.used in
    let same = c.self.invariant.1.same ∙ ap (λ (l : Limits). l.client) (sym c.self.invariant.0) in
    let x = ready Client G G c.self.inside.limits c.self.invariant.0 c.self.invariant.1.same c.self.invariant.4.0 refl refl in
    let o = subst (λ (z : ThroughState). IsOffered z.client bytes (Whole used)) (sym c.self.view_is) c.requires.whole in
    let is = whole_of Client T bytes same used o c.carried-payload.result.now c.carried-payload.ensures in
    let w = lent Client G bytes used o x c.carried-payload.result.now is in
    let n = c.count-number.result in
    omega (arith, w.fits, c.self.inside.limits.in_range, ap (λ (l : Limits). l.client) c.self.invariant.0)

pub returns-in-Full-clause-offered : goal.returns-in-Full-clause-offered
returns-in-Full-clause-offered c =
    let T = the_view c.self.inside in
    let G = dropped Client T in
    let bytes = c.args.frame.now in
    let used = c.args.used in
    let same = c.self.invariant.1.same ∙ ap (λ (l : Limits). l.client) (sym c.self.invariant.0) in
    let x = ready Client G G c.self.inside.limits c.self.invariant.0 c.self.invariant.1.same c.self.invariant.4.0 refl refl in
    let o = subst (λ (z : ThroughState). IsOffered z.client bytes (Whole used)) (sym c.self.view_is) c.requires.whole in
    let is = whole_of Client T bytes same used o c.carried-payload.result.now c.carried-payload.ensures in
    let w = lent Client G bytes used o x c.carried-payload.result.now is in
    let n = c.count-number.result in
    let fate = subst (HasClientFate c.self.inside.talk c.self.inside.turns n w.p) c.in-Full.is c.client_fate.ensures in
    rw (← c.self.view_is, c.of.ensures) (one_frame Client T bytes same used o, (refl, refl, given_full T bytes (is_full G bytes used _ w n c.count-number.ensures fate), refl))

pub returns-in-LeftOut-clause-offered : goal.returns-in-LeftOut-clause-offered
returns-in-LeftOut-clause-offered c =
    let T = the_view c.self.inside in
    let G = dropped Client T in
    let bytes = c.args.frame.now in
    let used = c.args.used in
    let same = c.self.invariant.1.same ∙ ap (λ (l : Limits). l.client) (sym c.self.invariant.0) in
    let x = ready Client G G c.self.inside.limits c.self.invariant.0 c.self.invariant.1.same c.self.invariant.4.0 refl refl in
    let o = subst (λ (z : ThroughState). IsOffered z.client bytes (Whole used)) (sym c.self.view_is) c.requires.whole in
    let is = whole_of Client T bytes same used o c.carried-payload.result.now c.carried-payload.ensures in
    let w = lent Client G bytes used o x c.carried-payload.result.now is in
    let n = c.count-number.result in
    let fate = subst (HasClientFate c.self.inside.talk c.self.inside.turns n w.p) c.in-LeftOut.is c.client_fate.ensures in
    let keep = c.keep_whole.ensures ∙ ap (kept_now (held_in T.client bytes)) (sym o.2) in
    let outcome' = client_left G bytes used _ w n c.count-number.ensures c.keep_whole.new.self c.leave.new.self c.in-LeftOut.turn fate keep c.leave.ensures.now in
    rw (← c.self.view_is, c.of-in-LeftOut.ensures) (one_frame Client T bytes same used o, (o.2, given_outcome Client T bytes used (outcome.Asked c.in-LeftOut.turn) _ outcome'))

pub returns-else-not-told-clause-offered : goal.returns-else-not-told-clause-offered
returns-else-not-told-clause-offered c =
    let T = the_view c.self.inside in
    let G = dropped Client T in
    let bytes = c.args.frame.now in
    let used = c.args.used in
    let same = c.self.invariant.1.same ∙ ap (λ (l : Limits). l.client) (sym c.self.invariant.0) in
    let x = ready Client G G c.self.inside.limits c.self.invariant.0 c.self.invariant.1.same c.self.invariant.4.0 refl refl in
    let o = subst (λ (z : ThroughState). IsOffered z.client bytes (Whole used)) (sym c.self.view_is) c.requires.whole in
    let is = whole_of Client T bytes same used o c.carried-payload.result.now c.carried-payload.ensures in
    let w = lent Client G bytes used o x c.carried-payload.result.now is in
    let n = c.count-number.result in
    let fate = subst (HasClientFate c.self.inside.talk c.self.inside.turns n w.p) c.in-Told.is c.client_fate.ensures in
    let t = subst (λ b. TellsNext T.talk T.client Client bytes used (Ok b) c.tell_next.new.talk c.tell_next.new.stream) c.if-not-told.false c.in_ok-told-in-Told.ensures.told in
    let outcome' = client_told G bytes used _ w n c.count-number.ensures c.tell_next.new.stream c.tell_next.new.talk c.ask.new.self t.2 t.1 t.0 c.in-Told.turn fate c.ask.ensures.now in
    rw (← c.self.view_is, c.of-in-Told.ensures) (one_frame Client T bytes same used o, (o.2, given_outcome Client T bytes used outcome.Message _ outcome'))

pub returns-then-not-told-clause-offered : goal.returns-then-not-told-clause-offered
returns-then-not-told-clause-offered c =
    let T = the_view c.self.inside in
    let G = dropped Client T in
    let bytes = c.args.frame.now in
    let used = c.args.used in
    let same = c.self.invariant.1.same ∙ ap (λ (l : Limits). l.client) (sym c.self.invariant.0) in
    let x = ready Client G G c.self.inside.limits c.self.invariant.0 c.self.invariant.1.same c.self.invariant.4.0 refl refl in
    let o = subst (λ (z : ThroughState). IsOffered z.client bytes (Whole used)) (sym c.self.view_is) c.requires.whole in
    let is = whole_of Client T bytes same used o c.carried-payload.result.now c.carried-payload.ensures in
    let w = lent Client G bytes used o x c.carried-payload.result.now is in
    let n = c.count-number.result in
    let t = subst (λ b. TellsNext T.talk T.client Client bytes used (Ok b) c.tell_next.new.talk c.tell_next.new.stream) c.if-not-told.true c.in_ok-told-in-Told.ensures.told in
    rw (← c.self.view_is, t.1, t.2) (never_begun Client T bytes same used o t.0, refl)

pub returns-in_err-told-in-Told-clause-offered : goal.returns-in_err-told-in-Told-clause-offered
returns-in_err-told-in-Told-clause-offered c =
    let T = the_view c.self.inside in
    let G = dropped Client T in
    let bytes = c.args.frame.now in
    let used = c.args.used in
    let same = c.self.invariant.1.same ∙ ap (λ (l : Limits). l.client) (sym c.self.invariant.0) in
    let x = ready Client G G c.self.inside.limits c.self.invariant.0 c.self.invariant.1.same c.self.invariant.4.0 refl refl in
    let o = subst (λ (z : ThroughState). IsOffered z.client bytes (Whole used)) (sym c.self.view_is) c.requires.whole in
    let is = whole_of Client T bytes same used o c.carried-payload.result.now c.carried-payload.ensures in
    let w = lent Client G bytes used o x c.carried-payload.result.now is in
    let n = c.count-number.result in
    let fate = subst (HasClientFate c.self.inside.talk c.self.inside.turns n w.p) c.in-Told.is c.client_fate.ensures in
    let p = err_from_is_err_and c.from_residual.result c.from_residual.ensures.1 in
    let e = c.in_err-told-in-Told.field-0.0 in
    let t = c.in_err-told-in-Told.ensures.told in
    let refused = client_refused G bytes used _ w n c.count-number.ensures c.in-Told.turn fate e (Some e) T.client T.talk (t.1, refl) t.0 in
    rw (← c.self.view_is, p.1, p.2, t.2, t.3) (would Client T (record G { talk = T.talk; client = T.client; fault = Some e }) bytes e refl refused, refl)
