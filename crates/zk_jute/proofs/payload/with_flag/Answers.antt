use Rattle.std.proofs.Common.{[], ◌∷◌, inr}
use Rattle.std.proofs.lemmas.Result.{err_from_is_err_and}
use Rattle.zk_jute.specs.Item.{ABoolean}
use Rattle.zk_jute.proofs.Flagged.{refused_flag, refused_rest}
use Rattle.zk_jute.proofs.payload.with_flag.Goals as goal

pub returns-in_err-flag-clause-fault : goal.returns-in_err-flag-clause-fault
returns-in_err-flag-clause-fault g c =
    let p = err_from_is_err_and c.from_residual-in_err-flag.result c.from_residual-in_err-flag.ensures.1 in
    let value = c.in_ok-value in
    let found = rw value.was at c.requires.found in
    let within = rw value.was at c.requires.within in
    rw (p.1, p.2) (refused_flag g.T.Ends.wired.layout c.args.payload.now (g.T.Ends.wired.items value.value) value.place c.in_err-flag.field-0.0 within c.if-place-end.false found.0 found.1 (inr c.in_err-flag.ensures.fault.0))

pub returns-then-place-end-2-clause-fault : goal.returns-then-place-end-2-clause-fault
returns-then-place-end-2-clause-fault g c =
    let value = c.in_ok-value in
    let flag = c.in_ok-flag in
    let found = rw value.was at c.requires.found in
    let there = flag.ensures.found in
    rw c.at.ensures (refused_rest g.T.Ends.wired.layout c.args.payload.now (g.T.Ends.wired.items value.value) (ABoolean flag.flag ∷ []) value.place flag.place c.if-place-end-2.true found.0 found.1 there.0 there.1)
