use Rattle.std.proofs.Common.{◌+◌, ◌∙◌, refl, ap}
use Rattle.zk_jute.specs.declared.fault.ItemFault.{ItemFault}
use Rattle.zk_talk.specs.{Fault.fault_of, Streams.held_in}
use Rattle.zk_through.proofs.offer.whole_frame.Goals as goal

pub returns-in-Refused : goal.returns-in-Refused
returns-in-Refused c =
    let s = c.args.stream.now in
    let used = c.in-Refused.used in
    let o = c.in-Refused.ensures in (
      o.0,
      held_in s o.1,
      record {
        used = used;
        reason = c.in-Refused.reason;
        advance = o.2;
        stays = refl;
        told = c.next_fault.ensures ∙ ap (λ (i : ItemFault). fault_of c.args.side s.count (s.size + used) i.place i.reason) c.at-item.ensures;
      },
    )
