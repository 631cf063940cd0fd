use Rattle.std.proofs.Common.{[], ◌∷◌, arith}
use Rattle.zk_jute.specs.{Item.Int, Item.AnInt, Layout.One, Layout.End}
use Rattle.zk_jute.proofs.{Fields.int_gives, Fields.int_plain, Theorems.found, Theorems.plain_told}
use Rattle.zk_jute.proofs.number.int_at.Goals as goal

pub returns-clause-found : goal.returns-clause-found
returns-clause-found c =
    found (One Int End) (λ x. AnInt x ∷ []) c.args.src.now c.args.place (λ i. omega (arith, c.type_inv.src i)) c.requires c.read_int.result
    (int_gives c.args.src.now c.args.place c.read_int.result c.read_int.ensures.exact)

pub returns-clause-fault : goal.returns-clause-fault
returns-clause-fault c =
    plain_told (One Int End) (λ x. AnInt x ∷ []) c.args.src.now c.args.place (λ i. omega (arith, c.type_inv.src i)) c.requires c.read_int.result
    (int_plain c.args.src.now c.args.place c.read_int.result c.read_int.ensures.exact)
