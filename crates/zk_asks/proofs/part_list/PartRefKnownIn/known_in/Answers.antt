use Rattle.std.proofs.Common.{Ok, sym, ap, ◌∙◌}
use Rattle.zk_asks.proofs.Lying.{part_read}
use Rattle.zk_asks.proofs.part_list.PartRefKnownIn.known_in.Goals as goal

pub returns-clause-only : goal.returns-clause-only
returns-clause-only c = λ p end have stands.
    let before = c.op_before-op.ensures in
    let own = before.record p end have stands in
    c.record_in.ensures p end (before.op p end have stands) own.0 own.1

pub returns-clause-value : goal.returns-clause-value
returns-clause-value c =
    let p = c.requires.known in
    part_read c.args.payload.now p.0 c.args.place p.1 c.requires.place p.2 p.3 ∙ ap Ok (sym (returns-clause-only c p.0 p.1 p.2 p.3))
