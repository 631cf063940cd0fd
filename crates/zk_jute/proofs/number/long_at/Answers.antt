use Rattle.std.proofs.Common.{[], ◌∷◌, arith}
use Rattle.zk_jute.specs.{Item.Long, Item.ALong, Layout.One, Layout.End}
use Rattle.zk_jute.proofs.{Fields.long_gives, Fields.long_plain, Theorems.found, Theorems.plain_told}
use Rattle.zk_jute.proofs.number.long_at.Goals as goal

pub returns-clause-found : goal.returns-clause-found
returns-clause-found c =
    found (One Long End) (λ x. ALong x ∷ []) c.args.src.now c.args.place (λ i. omega (arith, c.type_inv.src i)) c.requires c.read_long.result
    (long_gives c.args.src.now c.args.place c.read_long.result c.read_long.ensures.exact)

pub returns-clause-fault : goal.returns-clause-fault
returns-clause-fault c =
    plain_told (One Long End) (λ x. ALong x ∷ []) c.args.src.now c.args.place (λ i. omega (arith, c.type_inv.src i)) c.requires c.read_long.result
    (long_plain c.args.src.now c.args.place c.read_long.result c.read_long.ensures.exact)
