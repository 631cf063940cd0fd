use Rattle.std.proofs.Common.{subst, ◌≡◌, ◌∙◌, ◌+◌, ap, arith, length}
use Rattle.zk_asks.specs.Frames.{IsLater, ops_of_ask}
use Rattle.zk_through.proofs.Carried.{if_none}
use Rattle.zk_through.proofs.Weights.{are_few, payload_weighs, weighs_itself, weighs_so, first_weighs, none_weighs}
use Rattle.zk_through.proofs.frame_header.weight.Goals as goal

pub of-requires : goal.of-requires
of-requires c = are_few c.args.payload.now c.in-Ok-Ask.field-0 _ c.in-Ok-Ask.ask c.in-Ok-Ask.field-0-is c.in-Ok-Ask.ensures.found.3 c.requires.small

pub returns-then-most-room-clause-ask : goal.returns-then-most-room-clause-ask
returns-then-most-room-clause-ask c = if_none c.args.out (payload_weighs c.args.profile c.args.number c.args.payload.now c.args.room _ (omega arith) c.if-most-room.true)

pub returns-in-Ok-Ask-clause-ask : goal.returns-in-Ok-Ask-clause-ask
returns-in-Ok-Ask-clause-ask c =
    let found = c.in-Ok-Ask.ensures.found in
    let parts : 1 + c.from.result ≡ 1 + length (ops_of_ask c.in-Ok-Ask.ask) = ap (λ z. 1 + z) (c.from.ensures ∙ c.parts.ensures ∙ ap (λ z. length (ops_of_ask z)) c.of.ensures) in
    let exact = weighs_so c.args.payload.now c.in-Ok-Ask.field-0 _ c.in-Ok-Ask.ask c.in-Ok-Ask.field-0-is found.3 c.args.profile c.args.number (1 + c.from.result) (omega (arith, c.if-number-eq0.false)) found.1 found.2 parts
    (λ g later of sent lies. cc (c.borrow_ask.ensures.only g later of sent lies)) in
    if_none c.args.out (weighs_itself c.args.profile c.args.number c.args.payload.now c.args.room (1 + c.from.result) exact)

pub returns-in-Err-clause-ask : goal.returns-in-Err-clause-ask
returns-in-Err-clause-ask c =
    let none = none_weighs c.args.profile c.args.number c.args.payload.now (λ g later of sent lies. cc (c.borrow_ask.ensures.only g later of sent lies)) in
    if_none c.args.out (weighs_itself c.args.profile c.args.number c.args.payload.now c.args.room 0 none)

pub returns-in-Ok-Connect-clause-ask : goal.returns-in-Ok-Connect-clause-ask
returns-in-Ok-Connect-clause-ask c = absurd (subst IsLater c.in-Ok-Connect.field-0-is c.in-Ok-Connect.ensures.found.0)

pub returns-then-number-eq0-clause-ask : goal.returns-then-number-eq0-clause-ask
returns-then-number-eq0-clause-ask c =
    if_none c.args.out (weighs_itself c.args.profile c.args.number c.args.payload.now c.args.room 0 (first_weighs c.args.profile c.args.number c.args.payload.now (omega (arith, c.if-number-eq0.true))))
