use Rattle.std.proofs.Common.{[], subst}
use Rattle.zk_talk.specs.History.{on}
use Rattle.zk_listings.specs.Gathering.{Gathers, Turns}
use Rattle.zk_listings.proofs.Gathering.{refuses-gathers, judges-then, appends-then}
use Rattle.zk_listings.proofs.read_long_frames.gather.Goals as goal

pub returns-in-Some-clause-gathers : goal.returns-in-Some-clause-gathers
returns-in-Some-clause-gathers c =
    let limits = c.args.limits.now in
    refuses-gathers limits c.args.talk.now c.turn_to.new.talk c.args.gathered.now c.turn_to.new.gathered (on c.args.side c.args.bytes.now) c.in-Some.fault
    (subst (λ z. Turns limits c.args.talk.now c.args.gathered.now z c.turn_to.new.talk c.turn_to.new.gathered) c.in-Some.is (c.turn_to.ensures.turns limits))

pub returns-then-not-may_wait-clause-gathers : goal.returns-then-not-may_wait-clause-gathers
returns-then-not-may_wait-clause-gathers c =
    let limits = c.args.limits.now in
    judges-then limits c.args.talk.now c.turn_to.new.talk c.judge.new.talk c.args.gathered.now c.turn_to.new.gathered (on c.args.side c.args.bytes.now) c.judge.result
    (subst (λ z. Turns limits c.args.talk.now c.args.gathered.now z c.turn_to.new.talk c.turn_to.new.gathered) c.in_default.is (c.turn_to.ensures.turns limits))
    (c.is_empty.ensures.0 c.if-is_empty.true) c.judge.ensures.limits c.judge.ensures.taken

pub returns-clause-gathers : goal.returns-clause-gathers
returns-clause-gathers c =
    let limits = c.args.limits.now in
    let turned = subst (λ z. Turns limits c.args.talk.now c.args.gathered.now z c.turn_to.new.talk c.turn_to.new.gathered) c.in_default.is (c.turn_to.ensures.turns limits) in
    let all = subst (λ g. Gathers limits c.turn_to.new.talk g [] c.hand_over.result c.hand_over.new.talk c.hand_over.new.gathered) c.in_ok-append.ensures.ok c.hand_over.ensures.gathers in
    subst (λ side. Gathers limits c.args.talk.now c.args.gathered.now (on side c.args.bytes.now) c.hand_over.result c.hand_over.new.talk c.hand_over.new.gathered) c.turn_to.ensures.side
    (appends-then limits c.args.talk.now c.turn_to.new.talk c.hand_over.new.talk c.args.gathered.now c.turn_to.new.gathered c.hand_over.new.gathered c.args.bytes.now c.hand_over.result turned all)
