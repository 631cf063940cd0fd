use Rattle.std.proofs.Common.{List, ◌++◌, ◌∷◌, [], take, refl, sym, ap, ◌∙◌, append_assoc}
use Rattle.zk_records.specs.declared.op.PartOp.{PartOp}
use Rattle.zk_asks.proofs.Copied.{copied_next}
use Rattle.zk_asks.proofs.asked.Asked.put_ops.Goals as goal

pub loop-j-preserved : goal.loop-j-preserved
loop-j-preserved g c =
    let ops = g.Self.Asked.part_ops c.args.self.now in
    let j = c.loop-j.j in
    let op = c.unwrap.result in
    let was = g.R.Room.ops c.args.room.now in
    let next = copied_next ops (take j ops) j op refl (sym c.part.ensures ∙ c.unwrap.ensures) in
    record {
      put =
          c.push.ensures.pushed ∙ ap (λ (z : List PartOp). z ++ op ∷ []) c.loop-j.invariant.put ∙ append_assoc was (take j ops) (op ∷ [])
          ∙ ap (λ (z : List PartOp). was ++ z) next;
      room = c.push.ensures.room ∙ c.loop-j.invariant.room;
      kept = c.push.ensures.kept ∙ c.loop-j.invariant.kept;
    }
