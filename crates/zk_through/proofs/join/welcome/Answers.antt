use Rattle.std.proofs.Common.{replicate}
use Rattle.zk_through.proofs.Joining.{request_is, answer_is, nothing_held, welcomed, let_go}
use Rattle.zk_through.proofs.join.welcome.Goals as goal

pub returns-clause-welcomed : goal.returns-clause-welcomed
returns-clause-welcomed c =
    let begun = c.renew.new.self in
    let stands = c.renew.ensures.stands in
    rw (c.drop_kept-2.ensures, c.drop_kept.ensures) (let_go c.hear-2.new.talk
    (welcomed begun c.hear.new.talk c.hear-2.new.talk stands (nothing_held begun stands) c.hear.ensures.limits (c.hear.ensures.told (replicate 28 255) request_is) (c.hear-2.ensures.told (replicate 20 255) answer_is)))
