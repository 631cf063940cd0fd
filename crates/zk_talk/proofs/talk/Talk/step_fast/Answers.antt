use Rattle.std.proofs.Common.{true, take}
use Rattle.std.proofs.lemmas.Option.{IfSome_then}
use Rattle.zk_talk.proofs.Stepping.{steps_first}
use Rattle.zk_talk.proofs.talk.Talk.step_fast.Goals as goal

pub returns-in-None-clause-some : goal.returns-in-None-clause-some
returns-in-None-clause-some c =
    let old = c.args.self.now in
    IfSome_then c.step_whole_frame.result c.step_whole_frame.ensures.some (λ used x. (x.0, x.1, steps_first c.args.side old c.step_whole_frame.new.self (take used c.args.piece.now) true (rw (← c.drop_kept.ensures) x.2)))
