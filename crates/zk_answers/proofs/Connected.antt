-- Connect responses: a fault is unique and excludes each frame, and frames tell their payloads apart.
use Rattle.std.proofs.Common.{◌≡◌, ℕ, Bool, Option, List, ◌++◌, ap, ◌∙◌}
use Rattle.zk_jute.specs.{declared.fault.Reason.Reason, Item.HaveBytes, Layout.IsValueOf, Flagged.flag_items}
use Rattle.zk_jute.proofs.{Layouts.have_parts, Sequels.Same, Flagged.flagged_unique, Flagged.flagged_excludes, Flagged.flagged_injective}
use Rattle.zk_records.specs.{Held.ConnectResponse, Records.connect_response}
use Rattle.zk_answers.specs.{Held.ServerFrame, Frames.IsConnected, Frames.IsSent, Frames.payload, Faults.IsConnectedFault}
use Rattle.zk_answers.specs.declared.frame.ServerFrameOf.TheVariants as frame

hello_is : (hello : ConnectResponse) (flag : Option Bool) → HaveBytes (connect_response.items hello ++ flag_items flag) → IsValueOf connect_response.layout (connect_response.items hello)
hello_is hello flag have = (connect_response.unfolds hello, (have_parts (connect_response.items hello) (flag_items flag) have).0)

pub connected_unique : (bytes : List ℕ) (p q : ℕ) (r s : Reason) → IsConnectedFault bytes p r → IsConnectedFault bytes q s → Same p r q s
connected_unique bytes p q r s f g = flagged_unique connect_response.layout bytes p q r s f g

pub connected_excludes : (s : ServerFrame) (p : ℕ) (r : Reason) → IsConnected s → IsSent s → IsConnectedFault (payload s) p r → ⊥
connected_excludes (frame.Connected hello flag) p r first sent f = flagged_excludes connect_response.layout (connect_response.items hello) flag p r (hello_is hello flag sent.2) f
connected_excludes (frame.Answered a) p r first sent f = absurd first
connected_excludes (frame.Event zxid event) p r first sent f = absurd first

pub connected_injective : (s t : ServerFrame) → IsConnected s → IsConnected t → IsSent s → IsSent t → payload s ≡ payload t → s ≡ t
connected_injective (frame.Connected hello flag) (frame.Connected other bit) c d u v e =
    let same = flagged_injective connect_response.layout (connect_response.items hello) (connect_response.items other) flag bit (hello_is hello flag u.2) (hello_is other bit v.2) e in
    ap (λ (h : ConnectResponse). frame.Connected h flag) (connect_response.tells_apart hello other same.0) ∙ ap (λ (b : Option Bool). frame.Connected other b) same.1
connected_injective (frame.Connected hello flag) (frame.Answered a) c d u v e = absurd d
connected_injective (frame.Connected hello flag) (frame.Event zxid event) c d u v e = absurd d
connected_injective (frame.Answered a) t c d u v e = absurd c
connected_injective (frame.Event zxid event) t c d u v e = absurd c
