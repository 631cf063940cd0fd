use Rattle.std.proofs.Common.{◌≡◌, ◌++◌, ◌∙◌, ap, subst}
use Rattle.std.specs.Io.KnownBytes.{Appends}
use Rattle.zk_listings.specs.{declared.listing.Listing.TheVariants.Last, Earliest.before_lines, Earliest.in_lines, Lines.last_line, Outcome.HasGrownIn}
use Rattle.zk_listings.proofs.{Exits.on-err, Bytes.Appends-then, Found.grown-further, Stopped.stopped-in_messages, Stopped.stopped-before_last_line, Tails.found-with}
use Rattle.zk_listings.proofs.earliest_run.check_earliest_run.Goals as goal

pub returns-in_err-summary-clause-begun : goal.returns-in_err-summary-clause-begun
returns-in_err-summary-clause-begun g c =
    on-err c.from_residual.result (before_lines (stopped-in_messages c.args.limits Last _ _ _ _ c.in_err-summary.ensures.begun))

pub returns-in_err-lines-clause-begun : goal.returns-in_err-lines-clause-begun
returns-in_err-lines-clause-begun g c = on-err c.from_residual-in_err-lines.result (before_lines (stopped-before_last_line c.args.limits Last _ _ _ _ _ _ c.in_ok-summary.ensures.ok))

pub returns-in_err-tail-clause-begun : goal.returns-in_err-tail-clause-begun
returns-in_err-tail-clause-begun g c = on-err c.from_residual-in_err-tail.result (before_lines (stopped-before_last_line c.args.limits Last _ _ _ _ _ _ c.in_ok-summary.ensures.ok))

pub returns-in_err-extend_from_slice-clause-begun : goal.returns-in_err-extend_from_slice-clause-begun
returns-in_err-extend_from_slice-clause-begun g c = on-err c.from_residual-in_err-extend_from_slice.result (before_lines (stopped-before_last_line c.args.limits Last _ _ _ _ _ _ c.in_ok-summary.ensures.ok))

pub returns-in_err-write_whole-clause-begun : goal.returns-in_err-write_whole-clause-begun
returns-in_err-write_whole-clause-begun g c =
    let summary = c.in_ok-summary.summary in
    let f = c.in_ok-summary.ensures.ok in
    let tail = c.in_ok-tail.tail.items in
    let both : c.deref-2.result.now ≡ last_line summary ++ tail = c.deref-2.ensures.value ∙ c.in_ok-extend_from_slice.ensures.items ∙ ap (λ l. l ++ c.deref.result.now) c.in_ok-lines.ensures ∙ ap (λ l. last_line summary ++ l) c.deref.ensures.value in
    on-err c.from_residual-in_err-write_whole.result (in_lines summary tail (found-with _ _ c.refused_body.ensures.tells c.args.limits Last _ _ _ _ summary tail f c.in_ok-tail.ensures)
    (grown-further _ _ _ _ _ f.written (subst (HasGrownIn (g.W.Sink.contents c.read_on.new.writer) (g.W.Sink.contents c.write_whole.new.writer)) both c.in_err-write_whole.ensures.err)))

pub returns-clause-ok : goal.returns-clause-ok
returns-clause-ok g c =
    let summary = c.in_ok-summary.summary in
    let f = c.in_ok-summary.ensures.ok in
    let tail = c.in_ok-tail.tail.items in
    let both : c.deref-2.result.now ≡ last_line summary ++ tail = c.deref-2.ensures.value ∙ c.in_ok-extend_from_slice.ensures.items ∙ ap (λ l. l ++ c.deref.result.now) c.in_ok-lines.ensures ∙ ap (λ l. last_line summary ++ l) c.deref.ensures.value in
    record {
      summary = summary;
      tail = tail;
      found = found-with _ _ c.refused_body.ensures.tells c.args.limits Last _ _ _ _ summary tail f c.in_ok-tail.ensures;
      written = Appends-then _ _ _ _ _ f.written (subst (Appends (g.W.Sink.contents c.read_on.new.writer) (g.W.Sink.contents c.write_whole.new.writer)) both c.in_ok-write_whole.ensures.ok);
      status_is = c.status.ensures;
    }
