-- A fault stands behind a whole head; and nothing is decided by a front of a recording that is good and undamaged.
use Rattle.std.proofs.Common.{◌≡◌, ℕ, inl, inr, List, [], ◌++◌, None, sym, ap, ◌∙◌, subst}
use Rattle.std.proofs.lemmas.Option.{none-some}
use Rattle.zk_talk.specs.{declared.limits.Limits.Limits, Good.IsGood, declared.message.Fault.Fault, Fault.IsFaultOf}
use Rattle.zk_talk.proofs.{Start.start, Headline.fault_is_bad, Headline.fault_more}
use Rattle.zk_recordings.specs.Recording.{AtLetters, InHead, Recording, Breaks, Spells, place_of, history_of, limits_of, damage_of}
use Rattle.zk_recordings.specs.Reading.{IsHeaded}
use Rattle.zk_listings.specs.Outcome.{IsDecided}
use Rattle.zk_recordings.proofs.{Any.longer, Stages.damaged-more, Once.spells-once}

nothing-good : (limits : Limits) → IsGood limits []
nothing-good limits = let s = start limits in (s.conversation, [], [], s.good)

-- a fault stands behind a whole head
pub fault-headed : (limits : Limits) (r : Recording) (g : Fault) → IsFaultOf (limits_of limits r) (history_of r) g → IsHeaded (place_of r)
fault-headed limits (Breaks AtLetters b) g is = absurd (fault_is_bad limits [] g is (nothing-good limits))
fault-headed limits (Breaks (InHead format) b) g is = absurd (fault_is_bad limits [] g is (nothing-good limits))
fault-headed limits _ g is = tt

pub not_ended : (limits : Limits) (bytes rest : List ℕ) (r s : Recording) → Spells bytes r → Spells (bytes ++ rest) s → IsGood (limits_of limits s) (history_of s) → damage_of s ≡ None → IsDecided limits bytes r → ⊥
not_ended limits bytes rest r s i j good undamaged (inl f) = by-fault (fault-headed limits r f.0 f.1)
  where
    by-fault : IsHeaded (place_of r) → ⊥
    by-fault is =
        let l = longer r bytes rest i in
        let same : l.new ≡ s = spells-once (bytes ++ rest) s l.new j l.spells in
        let more = fault_more (limits_of limits r) (history_of r) l.after f.0 f.1 in
        let here = subst (λ z. IsFaultOf z (history_of l.new) f.0) (sym (l.limits_are is limits)) (subst (λ h. IsFaultOf (limits_of limits r) h f.0) (sym l.history) more) in
        fault_is_bad (limits_of limits s) (history_of s) f.0 (subst (λ q. IsFaultOf (limits_of limits q) (history_of q) f.0) same here) good
not_ended limits bytes rest r s i j good undamaged (inr b) =
    let d = damaged-more b.0 bytes rest r i b.1 in
    none-some b.0 (sym undamaged ∙ ap damage_of (sym (spells-once (bytes ++ rest) s d.0 j d.1)) ∙ d.2.damage)
