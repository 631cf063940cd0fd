-- What a payload begins with.
use Rattle.std.proofs.Common.{◌≡◌, ◌≢◌, ℕ, zero, suc, ℤ, pos, negsuc, List, refl}
use Rattle.zk_jute.specs.declared.fault.Reason.{Reason}
use Rattle.zk_records.specs.declared.header.ReplyHeader.{ReplyHeader}
use Rattle.zk_answers.specs.Faults.{IsHead, IsHeadFault}
use Rattle.zk_answers.proofs.Heads.{head_excludes}
use Rattle.zk_c.specs.Judged.{HasHead, IsOfReply}

-- bytes that end within a header begin with none
pub no_head : (Is : ℤ → Type 0) (bytes : List ℕ) (place : ℕ) (reason : Reason) → IsHeadFault bytes place reason → HasHead Is bytes → ⊥
no_head Is bytes place reason fault head = head_excludes bytes head.0 head.1 place reason head.2 fault

stable : (z : ℤ) → (z ≢ negsuc 0 → ⊥) → z ≡ negsuc 0
stable (pos n) not = absurd (not (λ e. cc))
stable (negsuc zero) not = refl
stable (negsuc (suc n)) not = absurd (not (λ e. cc))

-- where no reply's header stands, what stands is an event's
pub events_head : (bytes : List ℕ) → (HasHead IsOfReply bytes → ⊥) → (header : ReplyHeader) (rest : List ℕ) → IsHead bytes header rest → header.xid ≡ negsuc 0
events_head bytes not header rest is = stable header.xid (λ reply. not (header, rest, is, reply))
