use Rattle.std.proofs.Common.{take, ◌∷◌, []}
use Rattle.std.proofs.lemmas.Option.{IfSome_then}
use Rattle.zk_talk.proofs.Stepping.{goes_first}
use Rattle.zk_talk.proofs.talk.Talk.pass_fast.Goals as goal

pub returns-in-None-clause-some : goal.returns-in-None-clause-some
returns-in-None-clause-some c =
    IfSome_then c.pass_whole_frame.result c.pass_whole_frame.ensures.some (λ used x. (x.0, (x.1.0, x.1.1, goes_first c.args.side c.args.self.now c.pass_whole_frame.new.self (take used c.args.piece.now) (x.0 ∷ []) (rw (← c.drop_kept.ensures) x.1.2))))
