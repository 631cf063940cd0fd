-- A piece that is taken bit by bit.
use Rattle.std.proofs.Common.{◌≡◌, ℕ, ◌+◌, inl, inr, List, ◌++◌, drop, sym, ap, ◌∙◌, subst, append_assoc, Some, take}
use Rattle.std.proofs.{lemmas.List.map-append, lemmas.List.take-append-drop, Math.Seq.take-add}
use Rattle.zk_talk.specs.{declared.message.Side.Side, History.History, History.on, declared.message.Fault.Fault, Held.Message, Stands.TalkState, Stands.Stands, Stands.Refuses, Taking.GoesOn, Taking.Fails, Answer.TakesAll}
use Rattle.zk_jute.specs.declared.fault.Reason.TheVariants.{NoMemory}

on-append : (side : Side) (a b : List ℕ) → on side (a ++ b) ≡ on side a ++ on side b
on-append side a b = map-append (λ (z : ℕ). (side, z)) a b

-- the history goes on with what was used of the rest
pub feed_more : (old mid new : TalkState) (side : Side) (bytes : List ℕ) (at' used : ℕ) (before now more : List Message) →
    ((h : History) → Stands old h before → Stands mid (h ++ on side (take at' bytes)) now) → GoesOn mid side (take used (drop at' bytes)) more new →
    (h : History) → Stands old h before → Stands new (h ++ on side (take (at' + used) bytes)) (now ++ more)
feed_more old mid new side bytes at' used before now more inv goes h st =
    let parts = take-add at' used bytes in
    let joined : (h ++ on side (take at' bytes)) ++ on side (take used (drop at' bytes)) ≡ h ++ on side (take (at' + used) bytes) =
    append_assoc h (on side (take at' bytes)) (on side (take used (drop at' bytes))) ∙ ap (λ z. h ++ z) (sym (on-append side (take at' bytes) (take used (drop at' bytes))) ∙ ap (on side) (sym parts)) in
    subst (λ z. Stands new z (now ++ more)) joined (goes (h ++ on side (take at' bytes)) now (inv h st))

pub feed_fails : (old mid new : TalkState) (side : Side) (bytes : List ℕ) (at' : ℕ) (before now : List Message) (fault : Fault) →
    ((h : History) → Stands old h before → Stands mid (h ++ on side (take at' bytes)) now) → (fault.reason ≡ NoMemory → ⊥) → Fails mid side (drop at' bytes) fault new → TakesAll old before side bytes (Some fault) new now
feed_fails old mid new side bytes at' before now fault inv known (inl w) h st = absurd (known (ap (λ z. z.reason) w.told))
feed_fails old mid new side bytes at' before now fault inv known (inr r) h st =
    let joined : (h ++ on side (take at' bytes)) ++ on side (drop at' bytes) ≡ h ++ on side bytes =
    append_assoc h (on side (take at' bytes)) (on side (drop at' bytes)) ∙ ap (λ z. h ++ z) (sym (on-append side (take at' bytes) (drop at' bytes)) ∙ ap (on side) (take-append-drop at' bytes)) in
    subst (λ z. Refuses new z now fault) joined (r (h ++ on side (take at' bytes)) now (inv h st))
