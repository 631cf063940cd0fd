use Rattle.std.proofs.Common.{ℕ, Option, Ok, ap, length, ◌∙◌}
use Rattle.std.specs.List.{flat_map}
use Rattle.zk_jute.proofs.{Fields.list_read, Known.count_known, Known.elements_known}
use Rattle.zk_jute.proofs.list.ListWire.copied.Goals as goal

pub known_size-count-requires-clause-known : goal.known_size-count-requires-clause-known
known_size-count-requires-clause-known g c = count_known g.T.Ends.wired.layout c.args.src.now c.args.place c.requires.known

pub copied_elements-requires-clause-known : goal.copied_elements-requires-clause-known
copied_elements-requires-clause-known g c =
    let size = c.known_size-count in
    elements_known g.T.Ends.wired.layout c.args.src.now c.args.place c.requires.known c.in-Some.count size.result.1 (size.ensures.exact ∙ ap (λ (n : Option ℕ). Ok (n, size.result.1)) c.in-Some.is)

pub returns-in_ok-items-in-Some-clause-exact : goal.returns-in_ok-items-in-Some-clause-exact
returns-in_ok-items-in-Some-clause-exact g c =
    let size = c.known_size-count in
    let items = c.in_ok-items-in-Some in
    rw c.new.ensures
    (list_read g.T.Ends.wired.layout c.args.src.now c.args.place c.in-Some.count (length items.items.items) size.result.1 items.after size.result.0 (flat_map g.T.Ends.wired.items items.items.items)
    size.ensures.exact c.in-Some.is items.ensures.exact items.ensures.count)
