use Rattle.std.proofs.Common.{[], ◌∷◌, arith}
use Rattle.zk_jute.specs.{Item.Boolean, Item.ABoolean, Layout.One, Layout.End}
use Rattle.zk_jute.proofs.{Fields.bool_gives, Fields.bool_plain, Theorems.found, Theorems.plain_told}
use Rattle.zk_jute.proofs.number.bool_at.Goals as goal

pub returns-clause-found : goal.returns-clause-found
returns-clause-found c =
    found (One Boolean End) (λ x. ABoolean x ∷ []) c.args.src.now c.args.place (λ i. omega (arith, c.type_inv.src i)) c.requires c.read_bool.result
    (bool_gives c.args.src.now c.args.place c.read_bool.result c.read_bool.ensures.exact)

pub returns-clause-fault : goal.returns-clause-fault
returns-clause-fault c =
    plain_told (One Boolean End) (λ x. ABoolean x ∷ []) c.args.src.now c.args.place (λ i. omega (arith, c.type_inv.src i)) c.requires c.read_bool.result
    (bool_plain c.args.src.now c.args.place c.read_bool.result c.read_bool.ensures.exact)
