use Rattle.std.proofs.Common.{None, Some, Ok, refl, arith}
use Rattle.zk_jute.specs.Wired.{boolean}
use Rattle.zk_jute.proofs.{Flagged.flagged_found, Flagged.flagged_only, Known.stands_read, Known.value_there, Known.behind, Known.flag_there, Known.flag_is, Sequels.none_left, Theorems.found}
use Rattle.zk_jute.proofs.payload.known_flagged.Goals as goal

pub view-value-requires : goal.view-value-requires
view-value-requires g c κs =
    let w = g.T.Ends.wired in
    ((refl, tt), (omega arith, stands_read w c.args.payload.now 0 (omega arith) (value_there w c.args.payload.now c.requires)))

pub returns-then-place-payload : goal.returns-then-place-payload
returns-then-place-payload g c =
    let w = g.T.Ends.wired in
    let src = c.args.payload.now in
    let value = c.view-value in
    let there = found w.layout w.items src 0 (λ i. omega (arith, c.type_inv.payload i)) (omega arith) (Ok value.result) value.ensures.exact in
    let both = flagged_found w.layout src (w.items value.result.0) value.result.1 None there.0 there.1 (none_left src value.result.1 (let end = c.if-place-payload.true in omega arith)) in
    flagged_only w.layout w.items w.unfolds w.tells_apart src (Ok (value.result.0, None)) both tt

pub view-flag-requires-clause-known : goal.view-flag-requires-clause-known
view-flag-requires-clause-known g c =
    let w = g.T.Ends.wired in
    let src = c.args.payload.now in
    let value = c.view-value in
    let there = found w.layout w.items src 0 (λ i. omega (arith, c.type_inv.payload i)) (omega arith) (Ok value.result) value.ensures.exact in
    let within = value.ensures.within in
    stands_read boolean src value.result.1 within
    (flag_there c.requires.1 src value.result.1 within c.if-place-payload.false (behind w src c.requires (w.items value.result.0) value.result.1 there.0 there.1))

pub returns : goal.returns
returns g c =
    let w = g.T.Ends.wired in
    let src = c.args.payload.now in
    let value = c.view-value in
    let flag = c.view-flag in
    let there = found w.layout w.items src 0 (λ i. omega (arith, c.type_inv.payload i)) (omega arith) (Ok value.result) value.ensures.exact in
    let rest = behind w src c.requires (w.items value.result.0) value.result.1 there.0 there.1 in
    let is = flag_is c.requires.1 src value.result.1 flag.result.0 flag.result.1 value.ensures.within c.if-place-payload.false rest flag.ensures.exact in
    let both = flagged_found w.layout src (w.items value.result.0) value.result.1 (Some flag.result.0) there.0 there.1 is in
    flagged_only w.layout w.items w.unfolds w.tells_apart src (Ok (value.result.0, Some flag.result.0)) both tt
