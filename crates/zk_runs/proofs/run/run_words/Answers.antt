use Rattle.std.proofs.Common.{◌≡◌}
use Rattle.zk_runs.proofs.Chosen.{done-by, refused-by, stopped-by}
use Rattle.zk_runs.proofs.run.run_words.Goals as goal

pub returns-clause-done : goal.returns-clause-done
returns-clause-done g c =
    done-by _ _ _ _ c.run_settings.result (c.run_settings.new.reader ≡ c.args.reader.now) (c.run_settings.new.writer ≡ c.args.writer.now) c.settings.result c.settings.ensures
    c.run_settings.ensures.done c.run_settings.ensures.refused

pub returns-clause-refused : goal.returns-clause-refused
returns-clause-refused g c =
    refused-by (g.R.Source.remaining c.args.reader.now) (g.R.Source.remaining c.run_settings.new.reader) (g.W.Sink.contents c.args.writer.now) (g.W.Sink.contents c.run_settings.new.writer) c.run_settings.result
    (c.run_settings.new.reader ≡ c.args.reader.now) (c.run_settings.new.writer ≡ c.args.writer.now) c.settings.result c.run_settings.ensures.refused c.run_settings.ensures.stopped

pub returns-clause-stopped : goal.returns-clause-stopped
returns-clause-stopped g c =
    stopped-by _ _ _ _ c.run_settings.result (c.run_settings.new.reader ≡ c.args.reader.now) (c.run_settings.new.writer ≡ c.args.writer.now) c.settings.result c.settings.ensures
    c.run_settings.ensures.refused c.run_settings.ensures.stopped
