-- What a reader told, as what a judgement tells.
use Rattle.std.proofs.Common.{◌≡◌, ◌≢◌, ℕ, ◌<◌, ◌⊎◌, inl, inr, List, ℤ, Option, Result, Err, sym, ap, subst, arith}
use Rattle.std.specs.Prelude.{IfErr}
use Rattle.zk_jute.specs.{declared.fault.ItemFault.ItemFault, declared.fault.Reason.Reason, Reading.told_place, Told.IsTold, Verdict.Says}
use Rattle.zk_jute.specs.declared.fault.Reason.TheVariants.{NoMemory, Unasked, XidOrder}
use Rattle.zk_jute.proofs.Judged.{says_more, says_told}
use Rattle.zk_records.specs.declared.profile.Profile.{Profile}
use Rattle.zk_asks.specs.Faults.{IsFirstFault, IsAskFault}
use Rattle.zk_waiting.specs.Waiting.{Lanes}
use Rattle.zk_talk.specs.{declared.limits.Limits.Limits, Conversation.Conversation, Fault.IsClientFault, Fault.IsServerFault, Describes.Describes, Judged.Tells, Judged.IsTurnFault}
use Rattle.zk_talk.proofs.Judging as J
use Rattle.std.proofs.lemmas.Bool.{cases_order}

-- a told fault that isn't want of memory
pub known : (F : ℕ → Reason → Type 0) (e : ItemFault) → IsTold F e × (e.reason ≢ NoMemory) → (e.reason ≢ NoMemory) × Tells F e
unfolding IsTold
known F e (inl q, n) = absurd (n (ap (λ z. z.reason) q))
known F e (inr x, n) = (n, x)

pub told_first : (profile : Profile) (count : ℕ) (p : List ℕ) (e : ItemFault) → count ≡ 0 → IsTold (IsFirstFault p) e × (e.reason ≢ NoMemory) → (e.reason ≢ NoMemory) × IsTurnFault profile count p e
told_first profile count p e z f = let k = known (IsFirstFault p) e f in (k.0, ((λ _. k.1), λ n. absurd (n z)))

pub told_later : (profile : Profile) (count : ℕ) (p : List ℕ) (e : ItemFault) → (count ≡ 0 → ⊥) → IsTold (IsAskFault profile p) e × (e.reason ≢ NoMemory) → (e.reason ≢ NoMemory) × IsTurnFault profile count p e
told_later profile count p e z f = let k = known (IsAskFault profile p) e f in (k.0, ((λ n. absurd (z n)), λ _. k.1))

-- a fault of the client's payload, whichever frame it is
pub told_client : (profile : Profile) (count : ℕ) (w : Lanes) (p : List ℕ) (e : ItemFault) → IsTurnFault profile count p e →
    (limits : Limits) (m : ℕ) (v : Conversation) → limits.waiting ≡ w.max → limits.profile ≡ profile → Describes count m w v → Tells (IsClientFault limits v p) e
told_client profile count w p e x limits m v q o d = go (cases_order count 0)
  where
    go : ((count ≡ 0) ⊎ ((count < 0) ⊎ (0 < count))) → Tells (IsClientFault limits v p) e
    go (inl z) = let t = x.0 z in (t.0, J.first_refused count m w v d limits p t.0 e.reason z t.1, t.2)
    go (inr (inl l)) = absurd (omega arith)
    go (inr (inr l)) =
        let some : count ≡ 0 → ⊥ = λ z. omega (arith, z, l) in
        let t = x.1 some in
        (t.0, J.ask_refused count m w v d limits p t.0 e.reason some (subst (λ z. IsAskFault z p t.0 e.reason) (sym o) t.1), t.2)

-- the fault of a reader that a judge calls
pub told_on : {X V : Type 0} (tells : V → Option ItemFault) (F Q : ItemFault → Type 0) → ((e : ItemFault) → F e → Q e) → (answer : Result X ItemFault) → IfErr answer F → (v : V) → Says tells (λ e. answer ≡ Err e) v → Says tells Q v
told_on tells F Q more answer fault v s = says_more tells F Q more v (says_told tells F answer fault v s)

-- a fault told at place 0
pub told_at : (F : ℕ → Reason → Type 0) (reason : Reason) (e : ItemFault) → e ≡ record { place = told_place 0; reason = reason } → F 0 reason → Tells F e
told_at F reason e q f = (0, subst (λ z. F 0 z.reason) (sym q) f, ap (λ z. z.place) q)

-- a scan's fault as one of the server's payload
pub told_server : (P : Conversation → Type 0) (F : ℕ → Reason → Type 0) (p : List ℕ) → ((v : Conversation) → P v → (place : ℕ) (reason : Reason) → F place reason → IsServerFault v p place reason) →
    (e : ItemFault) → IsTold F e × (e.reason ≢ NoMemory) → (e.reason ≢ NoMemory) × ((v : Conversation) → P v → Tells (IsServerFault v p) e)
told_server P F p k e f = let x = known F e f in (x.0, λ v d. (x.1.0, k v d x.1.0 e.reason x.1.1, x.1.2))

pub told_answer : (w : Lanes) (F : ℕ → Reason → Type 0) (p : List ℕ) → ((n m : ℕ) (v : Conversation) → (m ≡ 0 → ⊥) → Describes n m w v → (place : ℕ) (reason : Reason) → F place reason → IsServerFault v p place reason) →
    (e : ItemFault) → IsTold F e × (e.reason ≢ NoMemory) → (e.reason ≢ NoMemory) × ((n m : ℕ) (v : Conversation) → (m ≡ 0 → ⊥) → Describes n m w v → Tells (IsServerFault v p) e)
told_answer w F p k e f = let x = known F e f in (x.0, λ n m v y d. (x.1.0, k n m v y d x.1.0 e.reason x.1.1, x.1.2))

-- what isn't asked is no want of memory
pub unasked_known : (e : ItemFault) → e.reason ≡ Unasked → e.reason ≢ NoMemory
unasked_known e is n = cc

pub order_known : (e : ItemFault) (a b : ℤ) → e.reason ≡ XidOrder a b → e.reason ≢ NoMemory
order_known e a b is n = cc
