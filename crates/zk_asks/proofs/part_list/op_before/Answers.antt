use Rattle.std.proofs.Common.{◌≡◌, Option, Some, refl, sym, ◌∙◌, subst}
use Rattle.std.specs.Option.{IsSome}
use Rattle.zk_records.specs.declared.op.PartOp.{PartOp}
use Rattle.zk_asks.proofs.Lying.{mark_stands, op_there, own_behind, record_known, record_behind}
use Rattle.zk_asks.proofs.part_list.op_before.Goals as goal

pub known_at-after-requires : goal.known_at-after-requires
known_at-after-requires c κs =
    let p = c.requires.known in
    ((refl, tt), (c.requires.place, mark_stands p.0 c.args.payload.now c.args.place p.1 c.requires.place p.2 p.3))

pub unwrap-requires : goal.unwrap-requires
unwrap-requires c =
    let p = c.requires.known in
    subst IsSome (sym (op_there p.0 c.args.payload.now c.args.place p.1 c.requires.place p.2 p.3 c.known_at-after.result c.known_at-after.ensures c.part_of.result c.part_of.ensures)) refl

same_op : (a b : PartOp) → ◌≡◌ {A = Option PartOp} (Some a) (Some b) → a ≡ b
same_op a b e = cc

pub returns-clause-op : goal.returns-clause-op
returns-clause-op c = λ p end have stands.
    let x = c.known_at-after in
    same_op _ _ (sym (op_there p c.args.payload.now c.args.place end c.requires.place have stands x.result x.ensures c.part_of.result c.part_of.ensures) ∙ c.unwrap.ensures)

pub returns-clause-record : goal.returns-clause-record
returns-clause-record c = λ p end have stands. own_behind p c.args.payload.now c.args.place end c.requires.place have stands c.known_at-after.result c.known_at-after.ensures

pub returns-clause-within : goal.returns-clause-within
returns-clause-within c =
    let p = c.requires.known in
    (record_behind p.0 c.args.payload.now c.args.place p.1 c.requires.place p.2 p.3 c.known_at-after.result c.known_at-after.ensures).0

pub returns-clause-known : goal.returns-clause-known
returns-clause-known c =
    let p = c.requires.known in
    let x = c.known_at-after in
    record_known c.args.payload.now x.result.1 (returns-clause-op c p.0 p.1 p.2 p.3) (record_behind p.0 c.args.payload.now c.args.place p.1 c.requires.place p.2 p.3 x.result x.ensures).1
