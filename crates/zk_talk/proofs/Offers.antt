-- What a talk does with a frame that is offered, by what its side would do.
use Rattle.std.proofs.Common.{◌≡◌, ◌≢◌, true, ℕ, ◌≤◌, List, length, take, Some, refl, sym, ap, ◌∙◌, arith, subst}
use Rattle.std.proofs.lemmas.List.{take_all}
use Rattle.zk_jute.specs.{declared.fault.Reason.Reason, declared.fault.Reason.TheVariants.NoMemory, declared.fault.ItemFault.ItemFault}
use Rattle.zk_frames.specs.Framing.{frame}
use Rattle.zk_talk.specs.declared.stream.Advance.TheVariants.{Whole}
use Rattle.zk_talk.specs.{declared.message.Side.Side, declared.message.Fault.Fault, Advance.IsAdvance, Fault.fault_of, Streams.StreamState, Streams.IsAtFrame, Streams.held_in, Stands.TalkState, Taking.Steps, Taking.StepsOn, Taking.IsRefused, Offered.WouldRefuse}
use Rattle.zk_talk.proofs.{Talks.put_on}

-- a side to which one whole frame is lent
pub lent : (s : StreamState) (most : ℕ) → s.limit ≡ most → most ≤ 16777216 → s.count ≤ s.size → (bytes : List ℕ) (used : ℕ) → used ≡ length bytes → IsAdvance s.limit s.size s.held bytes (Whole used) bytes → IsAtFrame (held_in s bytes) used
lent s most same small count bytes used e a = record { whole = a.4; limit = omega (arith, same, small); part = omega (arith, e); size = a.2; count = count }

-- what it carries
pub carries : (bytes payload : List ℕ) (used : ℕ) → used ≡ length bytes → take used bytes ≡ frame payload → bytes ≡ frame payload
carries bytes payload used e is = sym (take_all used bytes (omega (arith, e))) ∙ is

-- all bytes were used
pub steps_all : (t new : TalkState) (side : Side) (bytes : List ℕ) (used : ℕ) → used ≡ length bytes → Steps t side (take used bytes) true new → StepsOn t side bytes (length bytes) true new
steps_all t new side bytes used e steps = (omega arith, (λ l. l), subst (λ n. Steps t side (take n bytes) true new) e steps)

-- what a step would leave where the side has this
pub would : (side : Side) (t : TalkState) (bytes : List ℕ) (s : StreamState) (result : Fault) → (result.reason ≢ NoMemory) × IsRefused t side bytes result (put_on side t s t.waiting t.answered (Some result)) → (result.reason ≢ NoMemory) × WouldRefuse t side bytes result
would side t bytes s result b = (b.0, (put_on side t s t.waiting t.answered (Some result), refl, b.1))

pub at_item : (side : Side) (count size : ℕ) (reason : Reason) (item : ItemFault) (result : Fault) → item ≡ record { place = 0; reason = reason } → result ≡ fault_of side count size item.place item.reason → result ≡ fault_of side count size 0 reason
at_item side count size reason item result is told = told ∙ ap (λ (i : ItemFault). fault_of side count size i.place i.reason) is
