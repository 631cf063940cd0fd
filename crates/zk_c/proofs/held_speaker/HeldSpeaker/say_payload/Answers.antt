use Rattle.std.proofs.Common.{ℕ, List, ◌++◌, ap, ◌∙◌}
use Rattle.zk_frames.specs.Framing.{frame}
use Rattle.zk_c.specs.Saying.{payload_said, payload_refused}
use Rattle.zk_c.proofs.Handles.{payload_of}
use Rattle.zk_c.proofs.held_speaker.HeldSpeaker.say_payload.Goals as goal

pub returns : goal.returns
returns c = payload_of c.self.view_is (payload_said c.in-Ok.ensures.limits
    (c.in-Ok.ensures.bytes ∙ ap (λ (xs : List ℕ). xs ++ frame c.args.payload.now) c.clear.ensures.items)
    c.none.ensures c.in-Ok.ensures.said)

pub returns-in-Err : goal.returns-in-Err
returns-in-Err c = let same = c.in-Err.ensures.same in payload_of c.self.view_is (payload_refused c.in-Err.fault
    (λ i. record { speaker = same.0 i; frame = (same.1 ∙ c.clear.ensures.items) i }) c.refused_payload.ensures (record { err = c.in-Err.ensures.err; lacks = c.in-Err.ensures.lacks; exact = c.in-Err.ensures.exact }))
