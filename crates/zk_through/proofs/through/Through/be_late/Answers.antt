use Rattle.zk_through.proofs.Joining.{is_late}
use Rattle.zk_through.proofs.through.Through.be_late.Goals as goal

pub returns-clause-late : goal.returns-clause-late
returns-clause-late c =
    rw (c.begin_after.ensures, c.begin_after-2.ensures, c.renew.ensures) (is_late c.welcome.new.talk c.welcome.ensures.welcomed _ _ _)
