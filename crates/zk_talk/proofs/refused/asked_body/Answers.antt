use Rattle.std.proofs.Common.{rules, w32, FitsSigned, arith, ◌≡◌}
use Rattle.std.proofs.lemmas.Int.{to_z-of_z}
use Rattle.zk_records.specs.Codes.{op_number}
use Rattle.zk_talk.proofs.Bodies.{asked_found}
use Rattle.zk_talk.proofs.refused.asked_body.Goals as goal

pub returns-in-Some-clause-found : goal.returns-in-Some-clause-found
returns-in-Some-clause-found c =
    let x = c.in-Ok in
    let y = c.in-Ok-int_at in
    let fits : FitsSigned w32 y.kind = search rules in
    let is : y.kind ≡ op_number c.in-Some.op = simp to_z-of_z at c.in-Some.ensures.1 in
    λ v. asked_found v c.args.payload.now (λ i. omega (arith, c.type_inv.payload i)) x.field-0-0 x.place x.ensures.exact y.kind y.place y.ensures.exact c.in-Some.op is
