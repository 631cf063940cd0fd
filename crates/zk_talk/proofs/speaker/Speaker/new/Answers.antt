use Rattle.std.proofs.Common.{ap, ◌∙◌}
use Rattle.zk_talk.proofs.{Start.no_lanes, Speaking.starts}
use Rattle.zk_talk.proofs.speaker.Speaker.new.Goals as goal

pub returns-clause-says : goal.returns-clause-says
returns-clause-says c = starts c.args.limits c.in_ok-waiting.waiting (c.in_ok-waiting.ensures ∙ ap no_lanes c.waiting.ensures)
