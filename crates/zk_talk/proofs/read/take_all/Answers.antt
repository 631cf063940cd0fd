use Rattle.std.proofs.Common.{length, take, ap, ◌∙◌, subst, arith, length-drop}
use Rattle.std.specs.Option.{option_to_list}
use Rattle.std.proofs.lemmas.Bool.{false≢true}
use Rattle.zk_talk.specs.Taking.{GoesOn, Fails}
use Rattle.zk_talk.proofs.Feeding.{feed_more, feed_fails}
use Rattle.zk_talk.proofs.read.take_all.Goals as goal

pub loop-at-preserved : goal.loop-at-preserved
loop-at-preserved c =
    let o = (c.in-Ok.ensures).ok in
    let goes = subst (λ z. GoesOn c.loop-at.talk c.args.side (take c.in-Ok.taken.used z) (option_to_list c.in-Ok.taken.message) c.take.new.self) c.rest.ensures o.2 in
    record {
      within = omega (arith, o.0, ap length c.rest.ensures, length-drop c.loop-at.at c.args.bytes.now);
      limits = (c.in-Ok.ensures).limits ∙ c.loop-at.invariant.limits;
      stands = rw (c.in_ok-keep-in-Ok.ensures) (feed_more c.args.talk.now c.loop-at.talk c.take.new.self c.args.side c.args.bytes.now c.loop-at.at c.in-Ok.taken.used c.args.messages.now.items c.loop-at.messages.items (option_to_list c.in-Ok.taken.message) c.loop-at.invariant.stands goes);
    }

pub returns-in-Err-clause-fed : goal.returns-in-Err-clause-fed
returns-in-Err-clause-fed c =
    let fails = subst (λ z. Fails c.loop-at.talk c.args.side z c.in-Err.fault c.take.new.self) c.rest.ensures (c.in-Err.ensures).err in
    feed_fails c.args.talk.now c.loop-at.talk c.take.new.self c.args.side c.args.bytes.now c.loop-at.at c.args.messages.now.items c.loop-at.messages.items c.in-Err.fault c.loop-at.invariant.stands
    (λ e. false≢true ((c.if-wants_memory.ensures).1 e)) fails
