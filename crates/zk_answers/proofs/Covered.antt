-- The fault of a reply or an event over its openings is the one of the reader's cases.
use Rattle.std.proofs.Common.{◌≡◌, ℕ, ◌+◌, ◌⊎◌, inl, inr, List, ◌++◌, length, refl, sym, ap, subst, ◌∙◌, append_assoc, arith}
use Rattle.std.proofs.lemmas.List.{append_cancel_left, length-append}
use Rattle.zk_jute.specs.{declared.fault.Reason.Reason, declared.fault.Reason.TheVariants.BadPart, Item.Item, Item.bytes_of, Faults.IsFault, Faults.IsTrailing}
use Rattle.zk_jute.proofs.Layouts.{bytes_both}
use Rattle.zk_records.specs.{declared.header.ReplyHeader.ReplyHeader, declared.op.Op.Op, declared.op.PartOp.PartOp, Records.reply_header, Records.watcher_event}
use Rattle.zk_asks.proofs.Openings.{behind_front, drop_front}
use Rattle.zk_answers.specs.Faults.{Shape, Fields, Results, IsOfShape, IsShapeFault, IsRestFault, in_shape, past_shape, rest_shape, IsHead, IsReplyFault, in_head, in_rest, IsEventFault, in_header, bad_err, in_event}
use Rattle.zk_answers.specs.Openings.{IsOpened, IsBadIn, IsBehind, IsOpeningBehind, of_item, of_part, of_rest, IsReplyOpening, reply_header_of, reply_rest_of, IsEventOpening, event_header_of, event_err_of, event_rest_of}
use Rattle.zk_answers.proofs.{Opened.done_opened, Cased.marked_cased, Cased.part_cased}

shape_opened : (shape : Shape) (bytes : List ℕ) (p : ℕ) (r : Reason) → IsShapeFault shape bytes p r → IsFault (IsOpened shape) bytes p r ⊎ (IsBadIn shape bytes p × (r ≡ BadPart))
shape_opened (Fields l) bytes p r f = inl f
shape_opened (Results parts) bytes p r f = done_opened f

shape_cased : (shape : Shape) (bytes : List ℕ) (p : ℕ) (r : Reason) → IsFault (IsOpened shape) bytes p r → IsShapeFault shape bytes p r
shape_cased (Fields l) bytes p r f = f
shape_cased (Results parts) bytes p r f = marked_cased parts bytes p r f

bad_cased : (shape : Shape) (bytes : List ℕ) (p : ℕ) → IsBadIn shape bytes p → IsShapeFault shape bytes p BadPart
bad_cased (Fields l) bytes p f = absurd f
bad_cased (Results parts) bytes p f = part_cased f

module _ (header : ReplyHeader) (shape : Shape) (bytes rest : List ℕ) (head : IsHead bytes header rest) where
  rest_opened : {q : ℕ} {r : Reason} → IsRestFault shape rest q r → IsOpeningBehind header shape bytes rest (16 + q) r
  rest_opened (in_shape _ q r f) =
      let front = reply_header.items header in
      elim (shape_opened shape rest q r f) [
        | inl g ↦ of_item (16 + q) r (behind_front (IsOpened shape) (IsBehind header (IsOpened shape)) front bytes rest q r head.1
            (λ o m k v next. (
              (m, (o ++ m, v, append_assoc front o m)),
              λ more w.
                  let same : w.0 ≡ o ++ more = append_cancel_left front w.0 (o ++ more) (sym w.2 ∙ append_assoc front o more) in
                  next more (subst (IsOpened shape) same w.1),
            ))
            g)
        | inr g ↦ subst (λ (x : Reason). IsOpeningBehind header shape bytes rest (16 + q) x) (sym g.1) (of_part q g.0)
      ]
  rest_opened (past_shape _ more whole v e some) =
      let front = reply_header.items header in
      let split : bytes ≡ bytes_of (front ++ whole) ++ more = head.1 ∙ ap (λ (x : List ℕ). bytes_of front ++ x) e ∙ sym (append_assoc (bytes_of front) (bytes_of whole) more) ∙ ap (λ (x : List ℕ). x ++ more) (sym (bytes_both front whole)) in
      let place : 16 + length (bytes_of whole) ≡ length (bytes_of (front ++ whole)) = omega (arith, ap length (bytes_both front whole), length-append (bytes_of front) (bytes_of whole)) in
      of_rest (16 + length (bytes_of whole)) (record { whole = front ++ whole; rest = more; value = (whole, v, refl); splits = split; some = some; at = place })

  abbrev Rest : ℕ → Reason → Type 0
  Rest p r = (q : ℕ) × (p ≡ 16 + q) × IsRestFault shape rest q r

  trailing_cased : {p : ℕ} (t : IsTrailing (IsBehind header (IsOfShape shape)) bytes p) → (body : List Item) → IsOfShape shape body → t.whole ≡ reply_header.items header ++ body → (q : ℕ) × (p ≡ 16 + q) × (rest ≡ bytes_of body ++ t.rest) × (q ≡ length (bytes_of body))
  trailing_cased t body v is =
      let front = reply_header.items header in
      let split : bytes_of t.whole ++ t.rest ≡ bytes_of front ++ (bytes_of body ++ t.rest) = ap (λ (x : List Item). bytes_of x ++ t.rest) is ∙ ap (λ (x : List ℕ). x ++ t.rest) (bytes_both front body) ∙ append_assoc (bytes_of front) (bytes_of body) t.rest in
      let at = t.at in
      (length (bytes_of body), omega (arith, ap (λ (x : List Item). length (bytes_of x)) is, ap length (bytes_both front body), length-append (bytes_of front) (bytes_of body)), append_cancel_left (bytes_of front) rest (bytes_of body ++ t.rest) (sym head.1 ∙ t.splits ∙ split), refl)

  rest_cased : {p : ℕ} {r : Reason} → IsOpeningBehind header shape bytes rest p r → Rest p r
  rest_cased (of_item p r f) =
      let d = drop_front (IsOpened shape) (reply_header.items header) head.0 bytes rest p r head.1 f in
      (d.0, d.1, in_shape rest d.0 r (shape_cased shape rest d.0 r d.2))
  rest_cased (of_part p f) = (p, refl, in_shape rest p BadPart (bad_cased shape rest p f))
  rest_cased (of_rest p t) =
      let b = t.value in
      let c = trailing_cased t b.0 b.1 b.2 in
      (length (bytes_of b.0), c.1 ∙ ap (λ (x : ℕ). 16 + x) c.3, past_shape rest t.rest b.0 b.1 c.2 t.some)

pub reply_opened : {op : Op} {parts : List PartOp} {bytes : List ℕ} {p : ℕ} {r : Reason} → IsReplyFault op parts bytes p r → IsReplyOpening op parts bytes p r
reply_opened (in_head bytes p r f) = reply_header_of p r f
reply_opened {op} {parts} (in_rest bytes rest header q r head f) = reply_rest_of header rest (16 + q) r head (rest_opened header (rest_shape op parts header.err) bytes rest head f)

pub reply_cased : {op : Op} {parts : List PartOp} {bytes : List ℕ} {p : ℕ} {r : Reason} → IsReplyOpening op parts bytes p r → IsReplyFault op parts bytes p r
reply_cased {op} {parts} {bytes} (reply_header_of p r f) = in_head bytes p r f
reply_cased {op} {parts} {bytes} (reply_rest_of header rest p r head f) =
    let c = rest_cased header (rest_shape op parts header.err) bytes rest head f in
    subst (λ (x : ℕ). IsReplyFault op parts bytes x r) (sym c.1) (in_rest bytes rest header c.0 r head c.2)

pub event_opened : {bytes : List ℕ} {p : ℕ} {r : Reason} → IsEventFault bytes p r → IsEventOpening bytes p r
event_opened (in_header bytes p r f) = event_header_of p r f
event_opened (bad_err bytes rest header head not) = event_err_of header rest head not
event_opened (in_event bytes rest header q r head is f) = event_rest_of header rest (16 + q) r head is (rest_opened header (Fields watcher_event.layout) bytes rest head f)

pub event_cased : {bytes : List ℕ} {p : ℕ} {r : Reason} → IsEventOpening bytes p r → IsEventFault bytes p r
event_cased {bytes} (event_header_of p r f) = in_header bytes p r f
event_cased {bytes} (event_err_of header rest head not) = bad_err bytes rest header head not
event_cased {bytes} (event_rest_of header rest p r head is f) =
    let c = rest_cased header (Fields watcher_event.layout) bytes rest head f in
    subst (λ (x : ℕ). IsEventFault bytes x r) (sym c.1) (in_event bytes rest header c.0 r head is c.2)
