use Rattle.zk_frames.proofs.Cuts.{length-frame, drop-frame}
use Rattle.zk_frames.proofs.law.frame_laws.Goals as goal

pub returns-clause-length : goal.returns-clause-length
returns-clause-length c = length-frame

pub returns-clause-payload : goal.returns-clause-payload
returns-clause-payload c = drop-frame
