-- What was judged of a payload is so of the frame that carries it.
use Rattle.std.proofs.Common.{◌≡◌, ◌≢◌, ℕ, ◌<◌, ◌^◌, List, length, drop, Option, sym, ap, subst, ◌∙◌, arith}
use Rattle.zk_jute.specs.{declared.fault.ItemFault.ItemFault, declared.fault.Reason.TheVariants.NoMemory}
use Rattle.zk_frames.specs.Framing.{frame}
use Rattle.zk_frames.proofs.Cuts.{length-frame}
use Rattle.zk_records.specs.declared.profile.Profile.{Profile}
use Rattle.zk_asks.specs.Held.{ClientFrame}
use Rattle.zk_asks.specs.Frames as asks
use Rattle.zk_answers.specs.Held.{ServerFrame}
use Rattle.zk_waiting.specs.Waiting.{Lanes}
use Rattle.zk_talk.specs.{declared.limits.Limits.Limits, Payloads.client_payload, Payloads.server_payload, Conversation.Conversation, Conversation.ServerMay, Fault.IsClientFault, Fault.IsServerFault, Describes.Describes}
use Rattle.zk_talk.specs.Judged.{Tells, IsInTurn, HasRoomFor, IsNumbered, IsDue, IsForgotten, IsNextClient, IsNextServer}
use Rattle.zk_talk.specs.{Settled.IsAwaited, Settled.IsSettled, declared.replied.Replied.Replied, Streams.StreamState, Streams.IsAtFrame}
use Rattle.zk_talk.proofs.{Judging.due_waits, Settling.room_before, Sides.carried}

module _ (s : StreamState) (used n : ℕ) (at' : IsAtFrame s used) (p : List ℕ) (is : s.held ≡ frame p) (count : n ≡ s.count) (w : Lanes) where
  payload_is : p ≡ drop 4 s.held
  payload_is = carried s.held p is

  pub payload_small : length p < 2 ^ 32
  payload_small = omega (arith, ap length at'.whole.1, length-frame at'.whole.0, ap length is, length-frame p, at'.whole.2, at'.limit)

  pub client_seen : (profile : Profile) (f : ClientFrame) → IsInTurn profile n f → asks.IsSent f → client_payload f ≡ p → HasRoomFor f w → IsNextClient profile s.count w (drop 4 s.held) f
  client_seen profile f turn sent pay room = record { turn = subst (λ z. IsInTurn profile z f) count turn; sent = sent; is = pay ∙ payload_is; room = room }

  pub client_passes : (profile : Profile) (new : Lanes) (k : (f : ClientFrame) × IsAwaited profile n n p w new f) → IsNextClient profile s.count w (drop 4 s.held) k.0 × IsNumbered s.count k.0 w new
  client_passes profile new k = (client_seen profile k.0 k.1.turn k.1.sent k.1.is (room_before n k.0 w new k.1.waits), subst (λ z. IsNumbered z k.0 w new) count k.1.waits)

  pub client_told : (profile : Profile) (e : ItemFault) → (e.reason ≢ NoMemory) × ((limits : Limits) (m : ℕ) (v : Conversation) → limits.waiting ≡ w.max → limits.profile ≡ profile → Describes n m w v → Tells (IsClientFault limits v p) e) →
      (e.reason ≢ NoMemory) × ((limits : Limits) (m : ℕ) (v : Conversation) → limits.waiting ≡ w.max → limits.profile ≡ profile → Describes s.count m w v → Tells (IsClientFault limits v (drop 4 s.held)) e)
  client_told profile e k = (k.0, λ limits m v q o d. subst (λ z. Tells (IsClientFault limits v z) e) payload_is (k.1 limits m v q o (subst (λ z. Describes z m w v) (sym count) d)))

  module _ (asked : ℕ) where
    pub server_seen : (f : ServerFrame) → IsDue f w → server_payload f ≡ p → ((v : Conversation) → Describes asked n w v → ServerMay v.client v.server f) → IsNextServer asked s.count w (drop 4 s.held) f
    server_seen f due pay may = record { due = due_waits w f due; is = pay ∙ payload_is; may = λ v d. may v (subst (λ z. Describes asked z w v) (sym count) d) }

    pub server_passes : (told : Option Replied) (new : Lanes) (k : (f : ServerFrame) × IsSettled asked n p told w new f) → IsNextServer asked s.count w (drop 4 s.held) k.0 × IsForgotten k.0 w new
    server_passes told new k = (server_seen k.0 k.1.due k.1.is k.1.may, k.1.forgotten)

    pub server_told : (e : ItemFault) → (e.reason ≢ NoMemory) × ((v : Conversation) → Describes asked n w v → Tells (IsServerFault v p) e) →
        (e.reason ≢ NoMemory) × ((v : Conversation) → Describes asked s.count w v → Tells (IsServerFault v (drop 4 s.held)) e)
    server_told e k = (k.0, λ v d. subst (λ z. Tells (IsServerFault v z) e) payload_is (k.1 v (subst (λ z. Describes asked z w v) (sym count) d)))
