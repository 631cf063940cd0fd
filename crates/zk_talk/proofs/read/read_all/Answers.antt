use Rattle.std.proofs.Common.{ℕ, List, [], ◌∙◌, arith}
use Rattle.std.specs.Borrow.{Bor}
use Rattle.zk_talk.specs.{declared.message.Side.Side, declared.message.Side.TheVariants.Client, declared.message.Ending.TheVariants.Refused, Answer.history_of}
use Rattle.zk_talk.proofs.{Small.small_limits, Headline.answer_whole, Headline.read_refused, Headline.read_more, Headline.read_ends, OrderOnce.order_once, FaultOnce.answer_fault}
use Rattle.zk_talk.proofs.read.read_all.Goals as goal

abbrev no_piece : Side × Bor (List ℕ)
no_piece = (Client, record { ref_ptr = (0, 0); now = [] })

pub loop-piece-init : goal.loop-piece-init
loop-piece-init c = record {
  limits = c.in_ok-talk.ensures.limits;
  stands = rw c.new-messages.ensures.items c.in_ok-talk.ensures.stands;
}

pub loop-piece-preserved : goal.loop-piece-preserved
loop-piece-preserved c = record {
  limits = (c.in_ok-fault.ensures).limits ∙ c.loop-piece.invariant.limits;
  stands = read_more c.loop-piece.talk c.take_all.new.talk c.loop-piece.messages.items c.take_all.new.messages.items c.args.pieces.now c.loop-piece.piece-index no_piece c.in_ok-fault.field-0
      c.loop-piece-test.true c.loop-piece.invariant.stands c.in_default.is (c.in_ok-fault.ensures).fed;
}

pub returns-in-Some-clause-ending : goal.returns-in-Some-clause-ending
returns-in-Some-clause-ending c = (read_refused c.args.limits c.loop-piece.talk c.take_all.new.talk c.loop-piece.messages.items c.take_all.new.messages.items c.in-Some.fault c.args.pieces.now c.loop-piece.piece-index no_piece c.in_ok-fault.field-0
    c.loop-piece-test.true ((c.in_ok-fault.ensures).limits ∙ c.loop-piece.invariant.limits) c.loop-piece.invariant.stands c.in-Some.is (c.in_ok-fault.ensures).fed).0

pub returns-in-Some-clause-messages : goal.returns-in-Some-clause-messages
returns-in-Some-clause-messages c = (read_refused c.args.limits c.loop-piece.talk c.take_all.new.talk c.loop-piece.messages.items c.take_all.new.messages.items c.in-Some.fault c.args.pieces.now c.loop-piece.piece-index no_piece c.in_ok-fault.field-0
    c.loop-piece-test.true ((c.in_ok-fault.ensures).limits ∙ c.loop-piece.invariant.limits) c.loop-piece.invariant.stands c.in-Some.is (c.in_ok-fault.ensures).fed).1

pub returns-in-Some-clause-whole : goal.returns-in-Some-clause-whole
returns-in-Some-clause-whole c =
    let r = read_refused c.args.limits c.loop-piece.talk c.take_all.new.talk c.loop-piece.messages.items c.take_all.new.messages.items c.in-Some.fault c.args.pieces.now c.loop-piece.piece-index no_piece c.in_ok-fault.field-0
    c.loop-piece-test.true ((c.in_ok-fault.ensures).limits ∙ c.loop-piece.invariant.limits) c.loop-piece.invariant.stands c.in-Some.is (c.in_ok-fault.ensures).fed in
    answer_whole c.args.limits (small_limits c.args.limits) (history_of c.args.pieces.now) c.take_all.new.messages.items _ r.1 r.0

pub returns-clause-ending : goal.returns-clause-ending
returns-clause-ending c = (read_ends c.args.limits c.loop-piece.talk c.loop-piece.messages.items c.finish.result c.args.pieces.now c.loop-piece.piece-index (omega (arith, c.loop-piece-test.false)) c.loop-piece.invariant.limits c.loop-piece.invariant.stands c.finish.ensures.stands).0

pub returns-clause-messages : goal.returns-clause-messages
returns-clause-messages c = (read_ends c.args.limits c.loop-piece.talk c.loop-piece.messages.items c.finish.result c.args.pieces.now c.loop-piece.piece-index (omega (arith, c.loop-piece-test.false)) c.loop-piece.invariant.limits c.loop-piece.invariant.stands c.finish.ensures.stands).1

pub returns-clause-whole : goal.returns-clause-whole
returns-clause-whole c =
    let r = read_ends c.args.limits c.loop-piece.talk c.loop-piece.messages.items c.finish.result c.args.pieces.now c.loop-piece.piece-index (omega (arith, c.loop-piece-test.false)) c.loop-piece.invariant.limits c.loop-piece.invariant.stands c.finish.ensures.stands in
    answer_whole c.args.limits (small_limits c.args.limits) (history_of c.args.pieces.now) c.loop-piece.messages.items _ r.1 r.0

pub returns-in-Some-clause-refused : goal.returns-in-Some-clause-refused
returns-in-Some-clause-refused c = answer_fault c.args.limits (small_limits c.args.limits) (history_of c.args.pieces.now) _ (read_refused c.args.limits c.loop-piece.talk c.take_all.new.talk c.loop-piece.messages.items c.take_all.new.messages.items c.in-Some.fault c.args.pieces.now c.loop-piece.piece-index no_piece c.in_ok-fault.field-0
    c.loop-piece-test.true ((c.in_ok-fault.ensures).limits ∙ c.loop-piece.invariant.limits) c.loop-piece.invariant.stands c.in-Some.is (c.in_ok-fault.ensures).fed).0

pub returns-clause-refused : goal.returns-clause-refused
returns-clause-refused c = answer_fault c.args.limits (small_limits c.args.limits) (history_of c.args.pieces.now) _ (read_ends c.args.limits c.loop-piece.talk c.loop-piece.messages.items c.finish.result c.args.pieces.now c.loop-piece.piece-index (omega (arith, c.loop-piece-test.false)) c.loop-piece.invariant.limits c.loop-piece.invariant.stands c.finish.ensures.stands).0

pub returns-in-Some-clause-order : goal.returns-in-Some-clause-order
returns-in-Some-clause-order c =
    let r = read_refused c.args.limits c.loop-piece.talk c.take_all.new.talk c.loop-piece.messages.items c.take_all.new.messages.items c.in-Some.fault c.args.pieces.now c.loop-piece.piece-index no_piece c.in_ok-fault.field-0
    c.loop-piece-test.true ((c.in_ok-fault.ensures).limits ∙ c.loop-piece.invariant.limits) c.loop-piece.invariant.stands c.in-Some.is (c.in_ok-fault.ensures).fed in
    λ v M g o. order_once c.args.limits (small_limits c.args.limits) (history_of c.args.pieces.now) v _ M ((answer_whole c.args.limits (small_limits c.args.limits) (history_of c.args.pieces.now) c.take_all.new.messages.items (Refused c.in-Some.fault) r.1 r.0) v g).0 o [] [] g.whole

pub returns-clause-order : goal.returns-clause-order
returns-clause-order c =
    let r = read_ends c.args.limits c.loop-piece.talk c.loop-piece.messages.items c.finish.result c.args.pieces.now c.loop-piece.piece-index (omega (arith, c.loop-piece-test.false)) c.loop-piece.invariant.limits c.loop-piece.invariant.stands c.finish.ensures.stands in
    λ v M g o. order_once c.args.limits (small_limits c.args.limits) (history_of c.args.pieces.now) v _ M ((answer_whole c.args.limits (small_limits c.args.limits) (history_of c.args.pieces.now) c.loop-piece.messages.items c.finish.result r.1 r.0) v g).0 o [] [] g.whole
