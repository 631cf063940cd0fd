use Rattle.std.proofs.Common.{◌≡◌, ◌∙◌, subst}
use Rattle.std.specs.Io.KnownBytes.{Appends}
use Rattle.zk_listings.specs.{Lines.last_line, Outcome.HasGrownIn}
use Rattle.zk_listings.proofs.{Exits.on-err, Bytes.Appends-then, Found.grown-further, Stopped.stopped-in_messages, Stopped.stopped-in_last_line, Stopped.stopped-before_last_line}
use Rattle.zk_listings.proofs.engines.run.Goals as goal

pub returns-in_err-summary-clause-begun : goal.returns-in_err-summary-clause-begun
returns-in_err-summary-clause-begun g c =
    on-err c.from_residual.result (stopped-in_messages c.args.limits c.args.listing _ _ _ _ c.in_err-summary.ensures.begun)

pub returns-in_err-line-clause-begun : goal.returns-in_err-line-clause-begun
returns-in_err-line-clause-begun g c =
    on-err c.from_residual-in_err-line.result (stopped-before_last_line c.args.limits c.args.listing _ _ _ _ _ _ c.in_ok-summary.ensures.ok)

pub returns-in_err-write_whole-clause-begun : goal.returns-in_err-write_whole-clause-begun
returns-in_err-write_whole-clause-begun g c =
    let f = c.in_ok-summary.ensures.ok in
    let line : c.deref.result.now ≡ last_line c.in_ok-summary.summary = c.deref.ensures.value ∙ c.in_ok-line.ensures in
    on-err c.from_residual-in_err-write_whole.result (stopped-in_last_line c.args.limits c.args.listing _ _ _ _ f.messages _ f.found (grown-further _ _ _ _ _ f.written
    (subst (HasGrownIn (g.W.Sink.contents c.read_on.new.writer) (g.W.Sink.contents c.write_whole.new.writer)) line c.in_err-write_whole.ensures.err)))

pub returns-clause-ok : goal.returns-clause-ok
returns-clause-ok g c =
    let f = c.in_ok-summary.ensures.ok in
    let line : c.deref.result.now ≡ last_line c.in_ok-summary.summary = c.deref.ensures.value ∙ c.in_ok-line.ensures in
    record {
      messages = f.messages;
      summary = c.in_ok-summary.summary;
      found = f.found;
      written = Appends-then _ _ _ _ _ f.written (subst (Appends (g.W.Sink.contents c.read_on.new.writer) (g.W.Sink.contents c.write_whole.new.writer)) line c.in_ok-write_whole.ensures.ok);
      status_is = c.status.ensures;
    }
