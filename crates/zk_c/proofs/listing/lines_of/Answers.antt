use Rattle.std.proofs.Common.{ℕ, List, ◌++◌, ap, ◌∙◌}
use Rattle.zk_talk.specs.Held.{Message}
use Rattle.zk_c.specs.Listing.{listing}
use Rattle.zk_c.proofs.Texts.{next_line, with_ending}
use Rattle.zk_c.proofs.listing.lines_of.Goals as goal

pub loop-message-preserved : goal.loop-message-preserved
loop-message-preserved c =
    let l = c.loop-message in
    record { so_far = next_line c.deref-message-items.result.now l.message-index c.message-item.result l.text.items c.put_message.new.text.items c.loop-message-test.true c.message-item.is l.invariant.so_far c.in_ok-put_message.ensures }

pub returns : goal.returns
returns c =
    let l = c.loop-message in
    let ending = c.args.ended.now.ending in
    with_ending c.deref-message-items.result.now l.message-index ending l.text.items c.extend_from_slice.new.self.items c.extend_from_slice-2.new.self.items c.loop-message-test.false l.invariant.so_far
    (c.in_ok-extend_from_slice.ensures.items ∙ ap (λ (xs : List ℕ). l.text.items ++ xs) (c.deref.ensures.value ∙ c.in_ok-ending.ensures)) c.in_ok-extend_from_slice-2.ensures.items
    ∙ ap (λ (ms : List Message). listing ms ending) c.deref-message-items.ensures.value
