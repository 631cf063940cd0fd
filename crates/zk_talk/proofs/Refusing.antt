-- The body in which the fault lies, of a talk that keeps it.
use Rattle.std.proofs.Common.{◌≡◌, ℕ, ◌+◌, ◌<◌, ◌^◌, List, ◌∷◌, ◌++◌, [], length, arith, refl, sym, ap, subst, ◌∙◌, Option, Some, None, Bor, MatchOption}
use Rattle.zk_answers.specs.declared.layout.Layout.{Layout}
use Rattle.zk_frames.specs.Framing.{frame}
use Rattle.zk_talk.specs.{declared.message.Fault.Fault, declared.message.Side.Side, Held.Message, History.History, Conversation.Conversation, Describes.Describes}
use Rattle.zk_talk.specs.{Refused.HasBody, Refused.IsInBody, Refused.IsRefusedBody, Refused.TellsRefusedBody, Stands.TalkState, Stands.Refuses, Stands.held_on}
use Rattle.zk_jute.specs.declared.fault.Reason.{Reason}
use Rattle.zk_talk.specs.{declared.limits.Limits.Limits, Fault.IsCause, Fault.IsCause.stream_end, Fault.IsCause.length_range, Fault.IsCause.payload_fault, Fault.IsOfItems, Fault.rest_on}
use Rattle.zk_talk.proofs.Bodies.{frame_once}

-- the byte that decides a fault of items is taken
item_taken : (limits : Limits) (v : Conversation) (side : Side) (size : ℕ) (rest : List ℕ) (byte place : ℕ) (reason : Reason) → IsCause limits v side size rest byte place reason → IsOfItems reason → size + 1 < 2 ^ 62
item_taken limits v side size rest byte place reason (stream_end last at is) items = absurd (let on = subst IsOfItems is items in cc)
item_taken limits v side size rest byte place reason (length_range less bad at is) items = less
item_taken limits v side size rest byte place reason (payload_fault less p whole within judged) items = less

module _ (t : TalkState) (h : History) (M : List Message) (f : Fault) (r : Refuses t h M f) where
  abbrev now : Conversation
  now = r.is.conversation

  pub known : Describes (length now.client) (length now.server) t.waiting now
  known = record { client = refl; server = refl; may = r.is.good.conversation.server; queues = r.queues }

  held_items : IsOfItems f.reason → held_on f.side t ≡ rest_on f.side r.is.client_rest r.is.server_rest ++ r.is.byte ∷ []
  held_items items = r.held (omega (arith, r.is.offset, item_taken t.limits now f.side _ _ _ _ f.reason r.is.cause items))

  module _ (p : List ℕ) (is : held_on f.side t ≡ frame p) where
    pub body_none : ((layout : Layout) (body : List ℕ) → HasBody now p f.side layout body → ⊥) → (layout : Layout) (body : List ℕ) → IsRefusedBody t.limits h f r.is layout body → ⊥
    body_none none layout body b =
        let held = held_items b.inside.items in
        let same : b.payload ≡ p = frame_once b.payload p (sym b.whole ∙ sym held ∙ is) in
        none layout body (subst (λ z. HasBody now z f.side layout body) same b.has)

    pub body_some : IsInBody f → (layout : Layout) (body : List ℕ) → HasBody now p f.side layout body → IsRefusedBody t.limits h f r.is layout body
    body_some inside layout body has = record { inside = inside; payload = p; whole = sym (held_items inside.items) ∙ is; has = has }

    -- what is found of the held payload is what the fault lies in
    pub body_either : (o : Option (Layout × Bor (List ℕ))) → IsInBody f → MatchOption o ((layout : Layout) (body : List ℕ) → HasBody now p f.side layout body → ⊥) (λ b. HasBody now p f.side b.0 b.1.now) →
        MatchOption o ((layout : Layout) (body : List ℕ) → IsRefusedBody t.limits h f r.is layout body → ⊥) (λ b. IsRefusedBody t.limits h f r.is b.0 b.1.now)
    body_either None inside x = body_none x
    body_either (Some b) inside x = body_some inside b.0 b.1.now x

  -- the same, by the fault that the talk keeps
  pub body_there : (g : Fault) → t.fault ≡ Some g → (side : Side) → g.side ≡ side → IsInBody g → (p : List ℕ) → held_on side t ≡ frame p → (o : Option (Layout × Bor (List ℕ))) →
      MatchOption o ((layout : Layout) (body : List ℕ) → HasBody now p side layout body → ⊥) (λ b. HasBody now p side b.0 b.1.now) → TellsRefusedBody t.limits h f r.is o
  body_there g kept side at inside p is o found =
      let same : f ≡ g = cc (r.kept) in
      let side' : f.side ≡ side = ap (λ (z : Fault). z.side) same ∙ at in
      body_either p (ap (λ z. held_on z t) side' ∙ is) o (subst IsInBody (sym same) inside)
      (subst (λ z. MatchOption o ((layout : Layout) (body : List ℕ) → HasBody now p z layout body → ⊥) (λ b. HasBody now p z b.0 b.1.now)) (sym side') found)
