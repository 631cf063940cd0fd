-- What a run finds before the end.
use Rattle.std.proofs.Common.{◌≡◌, ℕ, List, ◌++◌, take, drop, Option, Some, None, inl, inr, refl, sym, ap, ◌∙◌, subst, append_assoc, append-nil}
use Rattle.std.proofs.lemmas.List.{take-append-drop}
use Rattle.zk_talk.specs.{declared.limits.Limits.Limits, Held.Message, declared.message.Fault.Fault, declared.message.Ending.Ending, declared.message.Ending.TheVariants.Refused, History.History, Fault.IsFaultOf, Ending.IsEnding}
use Rattle.zk_talk.specs.{Answer.AreMessages, Stands.TalkState, Stands.Refuses}
use Rattle.zk_talk.proofs.Headline.{fault_is_bad, refused, refuses_more, stands_messages}
use Rattle.zk_recordings.specs.{declared.parts.DamageAt.DamageAt, Reading.IsDecidedBy, Reading.IsHeaded}
use Rattle.zk_listings.specs.declared.summary.Summary.TheVariants.{Ended, Broken}
use Rattle.zk_recordings.specs.Recording.{Recording, Spells, place_of, begun_history, history_at, history_of, limits_at, limits_of, damage_of}
use Rattle.zk_listings.specs.Outcome.{HasNoFault, ComesTo, IsGoodWith}
use Rattle.zk_listings.specs.Following.{Has, HasRefused, IsKept, Decides, Finishes}
use Rattle.zk_recordings.proofs.{Any.longer, Stages.damaged-more}
use Rattle.zk_listings.proofs.Talking.{talk_now, has-stands, has-good}

no-fault : (limits : Limits) (h : History) (messages : List Message) → IsGoodWith limits h messages → HasNoFault limits h
no-fault limits h messages i = λ fault is. fault_is_bad limits h fault is (i.conversation, i.client_rest, i.server_rest, i.good)

-- what was read, and the rest of a block
pub rejoined : (x block : List ℕ) (n : ℕ) → (x ++ take n block) ++ drop n block ≡ x ++ block
rejoined x block n = append_assoc x (take n block) (drop n block) ∙ ap (λ b. x ++ b) (take-append-drop n block)

-- a fault stands whatever follows it
pub decides-by_fault : (limits : Limits) (x block : List ℕ) (n : ℕ) (r : Recording) (messages : List Message) (talk : Option TalkState) (f : Fault) → Spells (x ++ take n block) r →
    IsHeaded (place_of r) → HasRefused (limits_of limits r) talk (history_of r) messages f → Decides limits (x ++ block) messages talk (Ended (Refused f))
decides-by_fault limits x block n r messages None f i is has = absurd has
decides-by_fault limits x block n r messages (Some t) f i is has =
    let l = longer r (x ++ take n block) (drop n block) i in
    let both = refused t (history_of r) l.after messages f has.0 in
    let e = has.1 ∙ sym (l.limits_are is limits) in
    let here = subst (λ k. IsFaultOf (limits_of limits l.new) k f × AreMessages (limits_of limits l.new) k messages (Refused f)) (sym l.history)
    (subst (λ z. IsFaultOf z (history_of r ++ l.after) f × AreMessages z (history_of r ++ l.after) messages (Refused f)) e both) in
    record {
      finishes = record {
        recording = l.new;
        spells = subst (λ y. Spells y l.new) (rejoined x block n) l.spells;
        is = record { comes_to = here.0; messages_are = here.1 };
        kept = (subst (λ k. Refuses t k messages f) (sym l.history) (refuses_more t (history_of r) l.after messages f has.0), e);
      };
      decided = inl (f, here.0);
    }

-- a damage other than the end stands whatever follows it
pub decides-by_damage : (limits : Limits) (x block : List ℕ) (n : ℕ) (r : Recording) (messages : List Message) (talk : Option TalkState) (d : DamageAt) → Spells (x ++ take n block) r →
    IsDecidedBy d (x ++ take n block) r → IsGoodWith (limits_of limits r) (history_of r) messages → Decides limits (x ++ block) messages talk (Broken d)
decides-by_damage limits x block n r messages talk d s i good =
    let m = damaged-more d (x ++ take n block) (drop n block) r s i in
    let history : history_of r ≡ history_of m.0 = ap (λ p. history_at p ++ begun_history r) (sym m.3) ∙ ap (λ h. history_at (place_of m.0) ++ h) (sym (m.5 ∙ append-nil (begun_history r))) in
    let here = subst (λ z. IsGoodWith z (history_of m.0) messages) (ap (limits_at limits) (sym m.3)) (subst (λ h. IsGoodWith (limits_of limits r) h messages) history good) in
    let j = subst (λ y. IsDecidedBy d y m.0) (rejoined x block n) m.2 in
    record {
      finishes = record {
        recording = m.0;
        spells = subst (λ y. Spells y m.0) (rejoined x block n) m.1;
        is = record { comes_to = (no-fault (limits_of limits m.0) (history_of m.0) messages here, j.damage); messages_are = here };
        kept = tt;
      };
      decided = inr (d, j);
    }

comes-to_end : (limits : Limits) (h : History) (ending : Ending) → IsEnding limits h ending → ComesTo limits h None (Ended ending)
comes-to_end limits h (Refused f) i = i
comes-to_end limits h _ i = (refl, i)

-- what has no fault keeps none
kept-none : (limits : Limits) (talk : Option TalkState) (h : History) (messages : List Message) → Has limits talk h messages → (ending : Ending) → IsEnding limits h ending → IsKept limits talk h messages (Ended ending)
kept-none limits talk h messages has (Refused f) is = absurd (no-fault limits h messages (has-good limits talk h messages has) f is)
kept-none limits talk h messages has _ is = tt

pub finishes-whole : (limits : Limits) (x : List ℕ) (r : Recording) (messages : List Message) (talk : Option TalkState) (ending : Ending) →
    Spells x r → damage_of r ≡ None → Has (limits_of limits r) talk (history_of r) messages → IsEnding (limits_of limits r) (history_of r) ending → Finishes limits x messages talk (Ended ending)
finishes-whole limits x r messages talk ending i e has is =
    let l = limits_of limits r in
    let s = has-stands l talk (history_of r) messages has in
    let all = stands_messages (talk_now l talk) (history_of r) messages s.0 ending (subst (λ z. IsEnding z (history_of r) ending) (sym s.1) is) in
    record {
      recording = r;
      spells = i;
      is = record {
        comes_to = subst (λ d. ComesTo l (history_of r) d (Ended ending)) (sym e) (comes-to_end l (history_of r) ending is);
        messages_are = subst (λ z. AreMessages z (history_of r) messages ending) s.1 all;
      };
      kept = kept-none l talk (history_of r) messages has ending is;
    }

pub finishes-broken : (limits : Limits) (x : List ℕ) (r : Recording) (messages : List Message) (talk : Option TalkState) (d : DamageAt) → Spells x r → damage_of r ≡ Some d →
    Has (limits_of limits r) talk (history_of r) messages → Finishes limits x messages talk (Broken d)
finishes-broken limits x r messages talk d i e has =
    let good = has-good (limits_of limits r) talk (history_of r) messages has in
    record {
      recording = r;
      spells = i;
      is = record { comes_to = (no-fault (limits_of limits r) (history_of r) messages good, e); messages_are = good };
      kept = tt;
    }
