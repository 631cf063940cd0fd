use Rattle.std.proofs.Common.{refl, subst}
use Rattle.zk_c.specs.{Passage.PassageState, PassingOn.IsHeld}
use Rattle.zk_c.proofs.passage.Passage.held.Goals as goal

pub returns : goal.returns
returns c = subst (λ (p : PassageState). IsHeld p c.args.side (record { status = 0; bytes = c.held.result })) c.self.view_is (record { well = refl; bytes = c.held.ensures })
