-- What a front of a recording decides stands whatever follows it.
use Rattle.std.proofs.Common.{◌≡◌, ℕ, List, [], ◌++◌, inl, inr, sym, ap, ◌∙◌, subst, append-nil}
use Rattle.zk_talk.specs.{declared.limits.Limits.Limits, Held.Message, declared.message.Fault.Fault, Fault.IsFaultOf, Answer.AreMessages}
use Rattle.zk_talk.specs.declared.message.Ending.TheVariants.{Whole, Cut, Refused}
use Rattle.zk_talk.proofs.Headline.{fault_is_bad, fault_more, messages_more}
use Rattle.zk_listings.specs.{declared.summary.Summary.Summary, Outcome.ComesTo, Outcome.HasMessages, Outcome.IsOutcome, Outcome.IsDecided}
use Rattle.zk_listings.specs.declared.summary.Summary.TheVariants.{Ended, Broken}
use Rattle.zk_recordings.specs.Recording.{Recording, Spells, history_at, limits_at, place_of, begun_history, history_of, limits_of, damage_of}
use Rattle.zk_recordings.specs.Reading.{IsHeaded}
use Rattle.zk_recordings.proofs.{Any.longer, Once.spells-once, Stages.damaged-more}
use Rattle.zk_listings.proofs.Decided.{fault-headed}

-- equal limits, histories and damages come to the same
pub same-outcome : (limits others : Limits) (r s : Recording) (messages : List Message) (summary : Summary) → limits_of others s ≡ limits_of limits r → history_of s ≡ history_of r → damage_of s ≡ damage_of r →
    IsOutcome limits r messages summary → IsOutcome others s messages summary
same-outcome limits others r s messages summary l e d i = record {
  comes_to = subst (λ z. ComesTo z (history_of s) (damage_of s) summary) (sym l) (subst (λ z. ComesTo (limits_of limits r) z (damage_of s) summary) (sym e) (subst (λ z. ComesTo (limits_of limits r) (history_of r) z summary) (sym d) i.comes_to));
  messages_are = subst (λ z. HasMessages z (history_of s) messages summary) (sym l) (subst (λ z. HasMessages (limits_of limits r) z messages summary) (sym e) i.messages_are);
}

module _ (limits : Limits) (x more : List ℕ) (r s : Recording) (messages : List Message) (i : Spells x r) (j : Spells (x ++ more) s) where
  -- a fault stands in what was read
  by-fault : (f : Fault) → IsFaultOf (limits_of limits r) (history_of r) f → IsHeaded (place_of r) → (summary : Summary) → IsOutcome limits r messages summary → IsOutcome limits s messages summary
  by-fault f is headed (Ended (Refused g)) o =
      let l = longer r x more i in
      let same : l.new ≡ s = spells-once (x ++ more) s l.new j l.spells in
      let comes = fault_more (limits_of limits r) (history_of r) l.after g o.comes_to in
      let are = messages_more (limits_of limits r) (history_of r) l.after messages g o.messages_are in
      subst (λ q. IsOutcome limits q messages (Ended (Refused g))) same (record {
        comes_to = subst (λ z. IsFaultOf z (history_of l.new) g) (sym (l.limits_are headed limits)) (subst (λ h. IsFaultOf (limits_of limits r) h g) (sym l.history) comes);
        messages_are = subst (λ z. AreMessages z (history_of l.new) messages (Refused g)) (sym (l.limits_are headed limits)) (subst (λ h. AreMessages (limits_of limits r) h messages (Refused g)) (sym l.history) are);
      })
  by-fault f is headed (Ended (Cut side frame got)) o =
      let e = o.comes_to.1 in
      absurd (fault_is_bad (limits_of limits r) (history_of r) f is (e.0, e.1, e.2, e.3))
  by-fault f is headed (Ended (Whole n)) o =
      let e = o.comes_to.1 in
      absurd (fault_is_bad (limits_of limits r) (history_of r) f is (e.0, [], [], e.1))
  by-fault f is headed (Broken d) o = absurd (o.comes_to.0 f is)

  pub decided-more : (summary : Summary) → IsDecided limits x r → IsOutcome limits r messages summary → IsOutcome limits s messages summary
  decided-more summary (inl f) o = by-fault f.0 f.1 (fault-headed limits r f.0 f.1) summary o
  decided-more summary (inr b) o =
      let d = damaged-more b.0 x more r i b.1 in
      let history : history_of d.0 ≡ history_of r = ap (λ p. history_at p ++ begun_history d.0) d.3 ∙ ap (λ h. history_at (place_of r) ++ h) (d.5 ∙ append-nil (begun_history r)) in
      let same = spells-once (x ++ more) s d.0 j d.1 in
      subst (λ q. IsOutcome limits q messages summary) same (same-outcome limits limits r d.0 messages summary (ap (limits_at limits) d.3) history (d.2.damage ∙ sym b.1.damage) o)
