-- Replies and events: what the readers refuse, and what they find.
use Rattle.std.proofs.Common.{◌≡◌, ℕ, ◌+◌, ◌≤◌, ◌<◌, inl, inr, List, ◌++◌, length, drop, refl, sym, ap, subst, ◌∙◌, arith}
use Rattle.std.specs.Prelude.{◌≢◌, ℤ, pos, negsuc}
use Rattle.std.proofs.lemmas.List.{append-nil}
use Rattle.zk_jute.specs.{declared.fault.ItemFault.ItemFault, declared.fault.Reason.Reason, Item.Item, Item.bytes_of, Item.HaveBytes, Layout.IsValueOf, Reading.told_place, Told.StandsAt, Told.IsToldFault, Told.IsTold, Told.IsToldAt}
use Rattle.zk_jute.specs.declared.fault.Reason.TheVariants.{Trailing, EventErr}
use Rattle.zk_jute.proofs.{Layouts.have_both, Sequels.stands_then, Sequels.is_left, Sequels.none_left}
use Rattle.zk_records.specs.{declared.header.ReplyHeader.ReplyHeader, declared.op.Op.Op, declared.op.PartOp.PartOp, Records.reply_header, Records.watcher_event, Held.WatcherEvent}
use Rattle.zk_answers.specs.Held.{Outcome}
use Rattle.zk_answers.specs.declared.frame.ServerFrameOf.TheVariants as frame
use Rattle.zk_answers.specs.Frames.{err_of, event_header, rest_items, IsOutcome, OutcomeFits, IsSent, IsEvent, IsReplyTo, payload}
use Rattle.zk_answers.specs.Faults.{Shape, Fields, IsOfShape, IsShapeFault, IsRestFault, in_shape, past_shape, IsHead, IsReplyFault, in_head, in_rest, IsEventFault, in_header, bad_err, in_event, rest_shape}

-- ---- a header, and what stands behind it

module _ (src : List ℕ) (header : ReplyHeader) (after : ℕ) (v : IsValueOf reply_header.layout (reply_header.items header)) (s : StandsAt (reply_header.items header) src 0 after) where
  pub head_of : IsHead src header (drop after src)
  head_of = (v.1, s.0)

  -- a fault behind the header, told from the header's beginning
  told_behind : (F : ℕ → Reason → Type 0) (shape : Shape) → ((behind : ℕ) (reason : Reason) → IsRestFault shape (drop after src) behind reason → F (16 + behind) reason)
      → (e : ItemFault) → IsToldAt (IsShapeFault shape) src after e → IsTold F e
  unfolding IsTold IsToldAt
  told_behind F shape make e h =
      let sixteen : after ≡ 16 = s.1 in
      elim h [
        | inl m ↦ inl m
        | inr f ↦
            let told : after + f.0 ≡ 16 + f.0 = omega arith in
            inr (16 + f.0, make f.0 e.reason (in_shape (drop after src) f.0 e.reason f.1), f.2 ∙ ap told_place told)
      ]

  left_behind : (F : ℕ → Reason → Type 0) (shape : Shape) → ((behind : ℕ) (reason : Reason) → IsRestFault shape (drop after src) behind reason → F (16 + behind) reason)
      → (items : List Item) (end : ℕ) → IsOfShape shape items → StandsAt items src after end → end < length src → IsTold F (record { place = told_place end; reason = Trailing })
  unfolding IsTold
  left_behind F shape make items end w t left =
      let sixteen : after ≡ 16 = s.1 in
      let at = t.1 in
      let told : end ≡ 16 + length (bytes_of items) = omega arith in
      inr (16 + length (bytes_of items), make (length (bytes_of items)) Trailing (past_shape (drop after src) (drop end src) items w t.0 (is_left src end left)), ap told_place told)

  module _ (op : Op) (parts : List PartOp) where
    make_reply : (behind : ℕ) (reason : Reason) → IsRestFault (rest_shape op parts header.err) (drop after src) behind reason → IsReplyFault op parts src (16 + behind) reason
    make_reply behind reason f = in_rest src (drop after src) header behind reason head_of f

    pub reply_inside : (e : ItemFault) → IsToldAt (IsShapeFault (rest_shape op parts header.err)) src after e → IsTold (IsReplyFault op parts src) e
    reply_inside e h = told_behind (IsReplyFault op parts src) (rest_shape op parts header.err) make_reply e h

    pub reply_left : (items : List Item) (end : ℕ) → IsOfShape (rest_shape op parts header.err) items → StandsAt items src after end → end < length src → IsTold (IsReplyFault op parts src) (record { place = told_place end; reason = Trailing })
    reply_left items end w t left = left_behind (IsReplyFault op parts src) (rest_shape op parts header.err) make_reply items end w t left

  pub event_err : header.err ≢ pos 0 → IsTold (IsEventFault src) (record { place = 12; reason = EventErr })
  unfolding IsTold
  event_err not = inr (12, bad_err src (drop after src) header head_of not, refl)

  module _ (is : header.err ≡ pos 0) where
    make_event : (behind : ℕ) (reason : Reason) → IsRestFault (Fields watcher_event.layout) (drop after src) behind reason → IsEventFault src (16 + behind) reason
    make_event behind reason f = in_event src (drop after src) header behind reason head_of is f

    pub event_inside : (e : ItemFault) → IsToldFault (IsValueOf watcher_event.layout) src after e → IsTold (IsEventFault src) e
    unfolding IsToldAt
    event_inside e h = told_behind (IsEventFault src) (Fields watcher_event.layout) make_event e h

    pub event_left : (items : List Item) (end : ℕ) → IsValueOf watcher_event.layout items → StandsAt items src after end → end < length src → IsTold (IsEventFault src) (record { place = told_place end; reason = Trailing })
    event_left items end w t left = left_behind (IsEventFault src) (Fields watcher_event.layout) make_event items end w t left

-- ---- a header's own fault

pub reply_short : (op : Op) (parts : List PartOp) (src : List ℕ) (e : ItemFault) → IsToldFault (IsValueOf reply_header.layout) src 0 e → IsTold (IsReplyFault op parts src) e
unfolding IsTold
reply_short op parts src e h = elim h [ inl m ↦ inl m | inr f ↦ let same : 0 + f.0 ≡ f.0 = omega arith in inr (f.0, in_head src f.0 e.reason f.1, f.2 ∙ ap told_place same) ]

pub event_short : (src : List ℕ) (e : ItemFault) → IsToldFault (IsValueOf reply_header.layout) src 0 e → IsTold (IsEventFault src) e
unfolding IsTold
event_short src e h = elim h [ inl m ↦ inl m | inr f ↦ let same : 0 + f.0 ≡ f.0 = omega arith in inr (f.0, in_header src f.0 e.reason f.1, f.2 ∙ ap told_place same) ]

-- ---- a whole payload

-- items that stand one behind the other and reach the end
pub whole_is : (src : List ℕ) (a b : List Item) (after end : ℕ) → StandsAt a src 0 after → StandsAt b src after end → length src ≤ end → src ≡ bytes_of (a ++ b)
whole_is src a b after end s t le =
    let both = stands_then a b src 0 after end s t in
    both.0 ∙ ap (λ (x : List ℕ). bytes_of (a ++ b) ++ x) (none_left src end le) ∙ append-nil (bytes_of (a ++ b))

module _ (src : List ℕ) (header : ReplyHeader) (after : ℕ) (v : IsValueOf reply_header.layout (reply_header.items header)) (s : StandsAt (reply_header.items header) src 0 after) where
  -- the same header, and what stands behind it, is the payload
  header_and : (other : ReplyHeader) (items : List Item) (end : ℕ) → header ≡ other → HaveBytes items → StandsAt items src after end → length src ≤ end → HaveBytes (reply_header.items other ++ items) × (src ≡ bytes_of (reply_header.items other ++ items))
  header_and other items end same have t le =
      let w : HaveBytes (reply_header.items other) = subst (λ (h : ReplyHeader). HaveBytes (reply_header.items h)) same v.1 in
      let u : StandsAt (reply_header.items other) src 0 after = subst (λ (h : ReplyHeader). StandsAt (reply_header.items h) src 0 after) same s in
      (have_both (reply_header.items other) items w have, whole_is src (reply_header.items other) items after end u t le)

  pub reply_found : (op : Op) (parts : List PartOp) (o : Outcome) (end : ℕ) → header.xid ≢ negsuc 0 → OutcomeFits op parts o → IsOutcome o → err_of o ≡ header.err → HaveBytes (rest_items o) → StandsAt (rest_items o) src after end → length src ≤ end
      → IsReplyTo op parts (frame.Answered (record { xid = header.xid; zxid = header.zxid; outcome = o })) × IsSent (frame.Answered (record { xid = header.xid; zxid = header.zxid; outcome = o })) × (src ≡ payload (frame.Answered (record { xid = header.xid; zxid = header.zxid; outcome = o })))
  reply_found op parts o end x fits is err have t le =
      let same : header ≡ record { xid = header.xid; zxid = header.zxid; err = err_of o } = ap (λ (z : ℤ). record { xid = header.xid; zxid = header.zxid; err = z }) (sym err) in
      let both = header_and (record { xid = header.xid; zxid = header.zxid; err = err_of o }) (rest_items o) end same have t le in
      (fits, (x, is, both.0), both.1)

  pub event_found : (w : WatcherEvent) (end : ℕ) → header.xid ≡ negsuc 0 → header.err ≡ pos 0 → HaveBytes (watcher_event.items w) → StandsAt (watcher_event.items w) src after end → length src ≤ end
      → IsEvent (frame.Event header.zxid w) × IsSent (frame.Event header.zxid w) × (src ≡ payload (frame.Event header.zxid w))
  event_found w end x err have t le =
      let same : header ≡ event_header header.zxid = ap (λ (z : ℤ). record { xid = z; zxid = header.zxid; err = header.err }) x ∙ ap (λ (z : ℤ). record { xid = negsuc 0; zxid = header.zxid; err = z }) err in
      let both = header_and (event_header header.zxid) (watcher_event.items w) end same have t le in
      (tt, (tt, tt, both.0), both.1)
