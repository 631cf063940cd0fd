use Rattle.std.proofs.Common.{◌++◌, subst}
use Rattle.std.proofs.lemmas.Result.{on_ok_weaker, IfErr-weaker}
use Rattle.zk_listings.specs.Outcome.{HasGrownIn}
use Rattle.zk_runs.proofs.{Gathered.taken-unput, Gathered.gathered-part, Gathered.takes-gathered, Gathered.halts-gathered, Spared.spared-result}
use Rattle.zk_runs.proofs.builder.Builder.feed.Goals as goal

pub returns-clause-halts : goal.returns-clause-halts
returns-clause-halts g c = λ limits x before t.
    let was = g.W.Sink.contents c.args.writer.now in
    let now = g.W.Sink.contents c.write_whole.new.writer in
    let start = taken-unput limits x before was _ c.new-due.ensures.items _ _ _ _ t in
    gathered-part limits (x ++ c.args.block.now) before was now c.gather-gathered.new.due.items _ t.took.written (subst (HasGrownIn was now) c.deref.ensures.value c.in-Err.ensures.err)
    c.gather-gathered.result _ _ _ _
    (on_ok_weaker c.gather-gathered.result (λ goes. goes limits x before was start) c.gather-gathered.ensures.goes_on)
    (IfErr-weaker c.gather-gathered.result _ _ (λ halt halts. halts limits x before was start) c.gather-gathered.ensures.halts)

pub returns-in-Ok-clause-goes_on : goal.returns-in-Ok-clause-goes_on
returns-in-Ok-clause-goes_on g c =
    on_ok_weaker c.gather-gathered.result
    (takes-gathered c.args.self.now c.gather-gathered.new.self c.args.block.now (g.W.Sink.contents c.args.writer.now) (g.W.Sink.contents c.write_whole.new.writer) _ _ _ c.new-due.ensures.items
    c.deref.ensures.value c.in-Ok.ensures.ok) c.gather-gathered.ensures.goes_on

pub returns-in-Ok-clause-halts : goal.returns-in-Ok-clause-halts
returns-in-Ok-clause-halts g c =
    IfErr-weaker c.gather-gathered.result _ _
    (halts-gathered c.args.self.now c.gather-gathered.new.self c.args.block.now (g.W.Sink.contents c.args.writer.now) (g.W.Sink.contents c.write_whole.new.writer) _ _ _ c.new-due.ensures.items
    c.deref.ensures.value c.in-Ok.ensures.ok) c.gather-gathered.ensures.halts

pub returns-in-Ok-clause-spared : goal.returns-in-Ok-clause-spared
returns-in-Ok-clause-spared g c = spared-result c.gather-gathered.result _ c.in-Ok.ensures.failed
