-- No frame is refused because too much waits.
use Rattle.std.proofs.Common.{◌≢◌, ℕ, List, sym, ◌∙◌}
use Rattle.zk_jute.specs.{declared.fault.Reason.Reason, declared.fault.Reason.TheVariants.QueueFull}
use Rattle.zk_talk.specs.{declared.message.Side.Side, declared.message.Fault.Fault, Held.Message, History.History}
use Rattle.zk_talk.specs.declared.message.Side.TheVariants.{Client, Server}
use Rattle.zk_through.specs.{Came.Came, Runs.ThroughState, Runs.Runs, Runs.IsWhy, Runs.IsRefused, Runs.IsNeverFull}
use Rattle.zk_through.specs.Runs.IsWhy.{stream_end, length_range, unasked, other_turn, told_so}
use Rattle.zk_through.proofs.Causes.{client_never, server_never}

module _ (t : ThroughState) (h : History) (c k : Came) (M : List Message) (r : Runs t h c k M) where
  why_never : (side : Side) (size : ℕ) (bytes : List ℕ) (place : ℕ) (reason : Reason) → IsWhy t.talk.limits t.late c k side size bytes place reason → reason ≢ QueueFull
  why_never side size bytes place reason (stream_end a z because) e = absurd cc
  why_never side size bytes place reason (length_range bad z because) e = absurd cc
  why_never side size bytes place reason (unasked s q is stays turn over z because) e = absurd cc
  why_never side size bytes place reason (other_turn s q is stays turn x its foreign other z because) e = absurd cc
  why_never Client size bytes place reason (told_so q is stays fits f is_fault none at because) e = client_never t h c k M r q f (sym because ∙ e) fits none is_fault
  why_never Server size bytes place reason (told_so q is stays fits f is_fault none at because) e = server_never t h c k M r q f (sym because ∙ e) is_fault

pub never_full : (side : Side) (old : ThroughState) (piece : List ℕ) (e : Fault) (new : ThroughState) → IsRefused old side piece e new → IsNeverFull old e
never_full side old piece e new x h c k M r =
    let y = x.1 h c k M r in
    why_never old h c k M r side _ _ e.place e.reason y.why
