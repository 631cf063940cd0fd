use Rattle.std.proofs.Common.{inr, subst}
use Rattle.zk_jute.specs.Item.{Fit}
use Rattle.zk_answers.specs.Frames.{frame_items}
use Rattle.zk_talk.specs.Said.{IsUnwritten}
use Rattle.zk_talk.proofs.{Saying.server_unfit, Saying.server_long, Saying.server_stands, Saying.server_said, Saying.unequal, Saying.either, Speaking.server_within}
use Rattle.zk_talk.proofs.say.say_server.Goals as goal

pub returns-in-Err-clause-err : goal.returns-in-Err-clause-err
returns-in-Err-clause-err c =
    inr (λ v heard. server_unfit c.args.limits c.args.asked c.args.welcomed c.args.waiting.now v heard c.args.message.now c.is_connected.result c.is_connected.ensures (unequal _ _ c.if-is_connected-welcomed.false) c.in-Err.e c.in-Err.ensures.err)

pub returns-in-Err-put_server-clause-err : goal.returns-in-Err-put_server-clause-err
returns-in-Err-put_server-clause-err c =
    either c.in-Err-put_server.e _ _ (λ v heard. server_long c.args.limits c.args.asked c.args.welcomed c.args.waiting.now v heard c.args.message.now c.is_connected.result c.is_connected.ensures (unequal _ _ c.if-is_connected-welcomed.false) c.in-Err-put_server.e c.in-Ok.ensures.ok (subst (λ z. IsUnwritten z (frame_items c.args.message.now) c.in-Err-put_server.e) c.server.ensures c.in-Err-put_server.ensures.err))

pub returns-clause-said : goal.returns-clause-said
returns-clause-said c = λ v heard.
    server_said c.args.limits c.args.asked c.args.welcomed c.args.waiting.now v heard c.args.message.now c.is_connected.result c.is_connected.ensures (unequal _ _ c.if-is_connected-welcomed.false) c.forget.new.waiting c.in-Ok.ensures.ok (subst (λ z. Fit z (frame_items c.args.message.now)) c.server.ensures c.in-Ok-put_server.ensures.fits) c.forget.ensures.forgotten

pub returns-in-Err-put_server-clause-lacks : goal.returns-in-Err-put_server-clause-lacks
returns-in-Err-put_server-clause-lacks c = λ wanting v heard.
    server_stands c.args.limits c.args.asked c.args.welcomed c.args.waiting.now v heard c.args.message.now c.is_connected.result c.is_connected.ensures (unequal _ _ c.if-is_connected-welcomed.false) c.in-Ok.ensures.ok (subst (λ z. Fit z (frame_items c.args.message.now)) c.server.ensures (c.in-Err-put_server.ensures.lacks wanting))

pub returns-clause-within : goal.returns-clause-within
returns-clause-within c = server_within c.args.limits.server c.args.message.now (subst (λ z. Fit z (frame_items c.args.message.now)) c.server.ensures c.in-Ok-put_server.ensures.fits)
