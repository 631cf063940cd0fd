use Rattle.std.proofs.Common.{◌∙◌}
use Rattle.zk_recordings.specs.Recording.{limits_of, history_of}
use Rattle.zk_listings.proofs.Stops.{finishes-whole, finishes-broken}
use Rattle.zk_listings.proofs.progress.Progress.finish.Goals as goal

pub returns-in-Some : goal.returns-in-Some
returns-in-Some c = λ limits x messages i.
    finishes-broken limits x i.recording messages c.args.self.now.talk c.in-Some.damage i.at.spells (c.finish.ensures x i.recording i.at ∙ c.in-Some.is) i.talks.has

pub returns-in-None : goal.returns-in-None
returns-in-None c = λ limits x messages i.
    finishes-whole limits x i.recording messages c.args.self.now.talk c.ending.result i.at.spells (c.finish.ensures x i.recording i.at ∙ c.in-None.is) i.talks.has
    (c.ending.ensures (limits_of limits i.recording) (history_of i.recording) messages i.talks.has)
