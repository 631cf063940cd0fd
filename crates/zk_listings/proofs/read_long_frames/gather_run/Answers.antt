use Rattle.std.proofs.lemmas.Result.{IfOk-weaker}
use Rattle.zk_listings.proofs.read_long_frames.gather_run.Goals as goal

pub returns : goal.returns
returns c = record { gathers = rw (c.in-Some.is, c.in-Some-talk.is) (IfOk-weaker c.gather.result _ _ (λ refused all h messages i _. all h messages i) c.gather.ensures.gathers) }
