-- Every payload of a server has its form, given the request, or a fault.
use Rattle.std.proofs.Common.{◌≡◌, ℕ, ◌+◌, ◌⊎◌, inl, inr, List, [], ◌∷◌, ◌++◌, length, refl, sym, ap, subst, ◌∙◌, append_assoc}
use Rattle.std.specs.Prelude.{◌≢◌, ℤ, pos, negsuc}
use Rattle.std.specs.List.{flat_map}
use Rattle.std.proofs.lemmas.List.{append-nil}
use Rattle.zk_jute.specs.declared.fault.Reason.TheVariants.{Trailing, EventErr, BadPart}
use Rattle.zk_jute.specs.{Item.Int, Item.Item, Item.AnInt, Item.bytes_of, Item.HaveBytes, Layout.Layout, Layout.End, Layout.One, Layout.Unfolds, Layout.IsValueOf, Wired.ustring, Wired.vector}
use Rattle.zk_jute.proofs.{Steps.IsBytes, Layouts.have_both, Layouts.bytes_both, Covers.Covers, Covers.int_covered, Covers.text_covered, Covers.vector_covered}
use Rattle.zk_jute.proofs.Deciding.{Starts, HasFault, layout_decided, left, whole_of, flagged_decided}
use Rattle.zk_records.specs.{Records.connect_response, Records.reply_header, Records.multi_header, Records.watcher_event, declared.header.ReplyHeader.ReplyHeader, declared.header.MultiHeader.MultiHeader, declared.op.Op.Op}
use Rattle.zk_records.specs.declared.op.Op.TheVariants as ops
use Rattle.zk_records.specs.declared.op.PartOp.{PartOp}
use Rattle.zk_records.specs.declared.op.PartOp.TheVariants as parts
use Rattle.zk_records.proofs.Covered.{connect_response_covered, reply_header_covered, multi_header_covered, watcher_event_covered, stat_covered, data_body_covered, acl_body_covered, children_body_covered, create_body_covered}
use Rattle.zk_asks.specs.Parts.{end_header, marked}
use Rattle.zk_asks.proofs.{Choices.int_decided, Choices.header_decided, Deciding.flagged_whole}
use Rattle.zk_answers.specs.Held.{PartDone, Body, Reply, ServerFrame}
use Rattle.zk_answers.specs.declared.frame.PartDoneOf.TheVariants as done
use Rattle.zk_answers.specs.declared.frame.OutcomeOf.TheVariants as outcome
use Rattle.zk_answers.specs.declared.frame.ServerFrameOf.TheVariants as frame
use Rattle.zk_answers.specs.Results.{result_header, error_header, done_items, multi_items, Answers, AnswerAll, result_layout, IsDoneFault, in_mark, bad_mark, in_result, in_error, other_error, behind_result, behind_error}
use Rattle.zk_answers.specs.Rows.{Row, holds, bare, multi, row_of, Content, remake, items_in, op_of_body, body_items}
use Rattle.zk_answers.specs.Faults.{IsConnectedFault, IsHead, IsHeadFault, Shape, Fields, Results, IsRestFault, in_shape, past_shape, shape_in, body_shape, rest_shape, IsReplyFault, in_rest, IsEventFault, bad_err, in_event}
use Rattle.zk_answers.specs.Frames.{event_header, header_of, IsConnected, IsEvent, IsSent, IsReplyTo, BodyFits, payload}
use Rattle.zk_answers.proofs.{Bodies.made_is, Bodies.RowFits, Bodies.made_fits, Dones.Result, Dones.done_of, Dones.result_items, Dones.items_of, Dones.own_made, Replies.failed_shape}

-- ---- the first payload

abbrev pub ConnectedIs : List ℕ → Type 0
ConnectedIs bytes = (s : ServerFrame) × IsConnected s × IsSent s × (payload s ≡ bytes)

pub connected_decided : (bytes : List ℕ) → IsBytes bytes → ConnectedIs bytes ⊎ HasFault IsConnectedFault bytes
connected_decided bytes fits = elim (flagged_decided connect_response.layout bytes fits) [
  | inl s ↦ let w = flagged_whole connect_response connect_response_covered bytes s in inl (frame.Connected w.0 w.1, tt, (tt, tt, w.2), w.3)
  | inr f ↦ inr f
]

-- ---- the header

pub record Heads (bytes : List ℕ) : Type 0 where
  pub header : ReplyHeader
  pub rest : List ℕ
  pub is : IsHead bytes header rest
  pub fits : IsBytes rest

pub head_decided : (bytes : List ℕ) → IsBytes bytes → Heads bytes ⊎ HasFault IsHeadFault bytes
head_decided bytes fits = elim (layout_decided reply_header.layout bytes fits) [
  | inl s ↦
      let h = reply_header_covered s.items s.value.0 in
      inl (record { header = h.0; rest = s.rest; is = (subst HaveBytes (sym h.1) s.value.1, s.splits ∙ ap (λ (z : List Item). bytes_of z ++ s.rest) (sym h.1)); fits = s.fits })
  | inr f ↦ inr f
]

-- ---- fields, and nothing behind them

record IsWhole (l : Layout) (bytes : List ℕ) : Type 0 where
  items : List Item
  value : IsValueOf l items
  whole : bytes ≡ bytes_of items

fields_decided : (l : Layout) (bytes : List ℕ) → IsBytes bytes → IsWhole l bytes ⊎ HasFault (IsRestFault (Fields l)) bytes
fields_decided l bytes fits = elim (layout_decided l bytes fits) [ inl s ↦ last s (left s.rest) | inr f ↦ inr (f.0, f.1, in_shape bytes f.0 f.1 f.2) ] where
  last : (s : Starts l bytes) → ((s.rest ≡ []) ⊎ (s.rest ≡ [] → ⊥)) → IsWhole l bytes ⊎ HasFault (IsRestFault (Fields l)) bytes
  last s (inl none) = inl (record { items = s.items; value = s.value; whole = whole_of bytes s.rest s.items s.splits none })
  last s (inr some) = inr (length (bytes_of s.items), Trailing, past_shape bytes s.rest s.items s.value s.splits some)

-- ---- an event

abbrev pub EventIs : List ℕ → Type 0
EventIs bytes = (s : ServerFrame) × IsEvent s × IsSent s × (payload s ≡ bytes)

module _ (bytes : List ℕ) (k : Heads bytes) where
  event_found : k.header.xid ≡ negsuc 0 → k.header.err ≡ pos 0 → IsWhole watcher_event.layout k.rest → EventIs bytes
  event_found xid err w =
      let e = watcher_event_covered w.items w.value.0 in
      let head : event_header k.header.zxid ≡ k.header = (λ i. record { xid = sym xid i; zxid = k.header.zxid; err = sym err i }) in
      let front = reply_header.items (event_header k.header.zxid) in (
        frame.Event k.header.zxid e.0,
        tt,
        (tt, tt, have_both front (watcher_event.items e.0) (subst (λ (h : ReplyHeader). HaveBytes (reply_header.items h)) (sym head) k.is.0) (subst HaveBytes (sym e.1) w.value.1)),
        bytes_both front (watcher_event.items e.0)
            ∙ ap (λ (h : ReplyHeader). bytes_of (reply_header.items h) ++ bytes_of (watcher_event.items e.0)) head
            ∙ ap (λ (z : List ℕ). bytes_of (reply_header.items k.header) ++ z) (ap bytes_of e.1 ∙ sym w.whole)
            ∙ sym k.is.1,
      )

  pub event_decided : k.header.xid ≡ negsuc 0 → EventIs bytes ⊎ HasFault IsEventFault bytes
  event_decided xid = elim (int_decided k.header.err (pos 0)) [
    | inl err ↦ elim (fields_decided watcher_event.layout k.rest k.fits) [
      | inl w ↦ inl (event_found xid err w)
      | inr f ↦ inr (16 + f.0, f.1, in_event bytes k.rest k.header f.0 f.1 k.is err f.2)
    ]
    | inr not ↦ inr (12, EventErr, bad_err bytes k.rest k.header k.is not)
  ]

-- ---- the results of a multi

record Tells (left : List PartOp) (bytes : List ℕ) : Type 0 where
  dones : List PartDone
  rest : List ℕ
  all : AnswerAll left dones
  have : HaveBytes (multi_items dones)
  splits : bytes ≡ bytes_of (multi_items dones) ++ rest

record IsOneDone (op : PartOp) (items : List Item) : Type 0 where
  done : PartDone
  answers : Answers op done
  same : done_items done ≡ marked (result_header op) ++ items

texts_covered : Covers (vector ustring)
texts_covered = vector_covered ustring text_covered

nothing_covered : (items : List Item) → Unfolds End items → Unit {0} × ([] ≡ items)
nothing_covered items u = (tt, sym u)

ruleset records = (text_covered, int_covered, stat_covered, nothing_covered, data_body_covered, acl_body_covered, children_body_covered, create_body_covered, texts_covered, tt)

result_covers : (op : PartOp) (items : List Item) → Unfolds (result_layout op) items → (x : Result op) × (result_items op x ≡ items)
result_covers parts.Create = text_covered
result_covers _ = search records

done_covered : (op : PartOp) (items : List Item) → IsValueOf (result_layout op) items → IsOneDone op items
done_covered op items v =
    let x = result_covers op items v.0 in
    record { done = done_of op x.0; answers = (own_made op x.0).1; same = items_of op x.0 ∙ ap (λ (z : List Item). marked (result_header op) ++ z) x.1 }

-- one result more in front
tells_more : (op : PartOp) (left : List PartOp) (bytes rest : List ℕ) (items : List Item) (d : PartDone) → Answers op d → done_items d ≡ items → HaveBytes items → bytes ≡ bytes_of items ++ rest → Tells left rest → Tells (op ∷ left) bytes
tells_more op left bytes rest items d a same have splits m =
    let all : multi_items (d ∷ m.dones) ≡ items ++ multi_items m.dones = append_assoc (done_items d) (flat_map done_items m.dones) (marked end_header) ∙ ap (λ (z : List Item). z ++ multi_items m.dones) same in
    record {
      dones = d ∷ m.dones;
      rest = m.rest;
      all = (a, m.all);
      have = subst HaveBytes (sym all) (have_both items (multi_items m.dones) have m.have);
      splits = splits ∙ ap (λ (z : List ℕ). bytes_of items ++ z) m.splits ∙ sym (append_assoc (bytes_of items) (bytes_of (multi_items m.dones)) m.rest)
          ∙ ap (λ (z : List ℕ). z ++ m.rest) (sym (bytes_both items (multi_items m.dones)) ∙ ap bytes_of (sym all));
    }

module _ (bytes : List ℕ) (s : Starts multi_header.layout bytes) (h : MultiHeader) (head : marked h ≡ s.items) where
  have_head : HaveBytes (marked h)
  have_head = subst HaveBytes (sym head) s.value.1

  opens : bytes ≡ bytes_of (marked h) ++ s.rest
  opens = s.splits ∙ ap (λ (z : List Item). bytes_of z ++ s.rest) (sym head)

  last_decided : Tells [] bytes ⊎ HasFault (IsDoneFault []) bytes
  last_decided = elim (header_decided h end_header) [
    | inl e ↦ inl (record { dones = []; rest = s.rest; all = tt; have = subst (λ (z : MultiHeader). HaveBytes (marked z)) e have_head; splits = opens ∙ ap (λ (z : MultiHeader). bytes_of (marked z) ++ s.rest) e })
    | inr not ↦ inr (0, BadPart, bad_mark [] bytes s.rest h have_head opens not)
  ]

  module _ (op : PartOp) (left : List PartOp) (again : (rest : List ℕ) → IsBytes rest → Tells left rest ⊎ HasFault (IsDoneFault left) rest) where
    abbrev OneDecided : Type 0
    OneDecided = Tells (op ∷ left) bytes ⊎ HasFault (IsDoneFault (op ∷ left)) bytes

    -- a header, and what is read behind it
    both : (g : MultiHeader) (l : Layout) → h ≡ g → (t : Starts l s.rest) → bytes ≡ bytes_of (marked g ++ t.items) ++ t.rest
    both g l is t =
        opens ∙ ap (λ (z : MultiHeader). bytes_of (marked z) ++ s.rest) is ∙ ap (λ (z : List ℕ). bytes_of (marked g) ++ z) t.splits
        ∙ sym (append_assoc (bytes_of (marked g)) (bytes_of t.items) t.rest) ∙ ap (λ (z : List ℕ). z ++ t.rest) (sym (bytes_both (marked g) t.items))

    have_with : (g : MultiHeader) (l : Layout) → h ≡ g → (t : Starts l s.rest) → HaveBytes (marked g ++ t.items)
    have_with g l is t = have_both (marked g) t.items (subst (λ (z : MultiHeader). HaveBytes (marked z)) is have_head) t.value.1

    result : h ≡ result_header op → OneDecided
    result is = elim (layout_decided (result_layout op) s.rest s.fits) [
      | inl t ↦ elim (again t.rest t.fits) [
        | inl m ↦
            let d = done_covered op t.items t.value in
            inl (tells_more op left bytes t.rest (marked (result_header op) ++ t.items) d.done d.answers d.same (have_with (result_header op) (result_layout op) is t) (both (result_header op) (result_layout op) is t) m)
        | inr f ↦ inr (length (bytes_of (marked (result_header op) ++ t.items)) + f.0, f.1, behind_result op left t.items bytes t.rest f.0 f.1 t.value (both (result_header op) (result_layout op) is t) f.2)
      ]
      | inr f ↦ inr (length (bytes_of (marked (result_header op))) + f.0, f.1, in_result op left bytes s.rest f.0 f.1 (opens ∙ ap (λ (z : MultiHeader). bytes_of (marked z) ++ s.rest) is) f.2)
    ]

    error : (e : ℤ) → h ≡ error_header e → OneDecided
    error e is = elim (layout_decided (One Int End) s.rest s.fits) [
      | inl t ↦ told t (int_covered t.items t.value.0)
      | inr f ↦ inr (
        length (bytes_of (marked (error_header e))) + f.0,
        f.1,
        in_error op left e bytes s.rest f.0 f.1 (subst (λ (z : MultiHeader). HaveBytes (marked z)) is have_head) (opens ∙ ap (λ (z : MultiHeader). bytes_of (marked z) ++ s.rest) is) f.2,
      )
    ] where
      told : (t : Starts (One Int End) s.rest) → ((d : ℤ) × (AnInt d ∷ [] ≡ t.items)) → OneDecided
      told t x = go (int_decided x.0 e) where
        have_d : HaveBytes (marked (error_header e) ++ (AnInt x.0 ∷ []))
        have_d = subst (λ (z : List Item). HaveBytes (marked (error_header e) ++ z)) (sym x.1) (have_with (error_header e) (One Int End) is t)

        opens_d : bytes ≡ bytes_of (marked (error_header e) ++ (AnInt x.0 ∷ [])) ++ t.rest
        opens_d = both (error_header e) (One Int End) is t ∙ ap (λ (z : List Item). bytes_of (marked (error_header e) ++ z) ++ t.rest) (sym x.1)

        go : ((x.0 ≡ e) ⊎ (x.0 ≡ e → ⊥)) → OneDecided
        go (inr not) = inr (0, BadPart, other_error op left e x.0 bytes t.rest have_d opens_d not)
        go (inl same) =
            let have_e = subst (λ (z : ℤ). HaveBytes (marked (error_header e) ++ (AnInt z ∷ []))) same have_d in
            let opens_e = opens_d ∙ ap (λ (z : ℤ). bytes_of (marked (error_header e) ++ (AnInt z ∷ [])) ++ t.rest) same in
            elim (again t.rest t.fits) [
              | inl m ↦ inl (tells_more op left bytes t.rest (marked (error_header e) ++ (AnInt e ∷ [])) (done.PartFailed e) tt refl have_e opens_e m)
              | inr f ↦ inr (length (bytes_of (marked (error_header e) ++ (AnInt e ∷ []))) + f.0, f.1, behind_error op left e bytes t.rest f.0 f.1 have_e opens_e f.2)
            ]

    one_decided : OneDecided
    one_decided = elim (header_decided h (result_header op)) [
      | inl is ↦ result is
      | inr n ↦ elim (header_decided h (error_header h.err)) [
        | inl is ↦ error h.err is
        | inr m ↦ inr (0, BadPart, bad_mark (op ∷ left) bytes s.rest h have_head opens (λ may. elim may [ inl r ↦ n r | inr x ↦ m (x.1 ∙ ap error_header (sym (ap (λ (z : MultiHeader). z.err) x.1))) ]))
      ]
    ]

dones_decided : (left : List PartOp) (bytes : List ℕ) → IsBytes bytes → Tells left bytes ⊎ HasFault (IsDoneFault left) bytes
dones_decided [] bytes fits = elim (layout_decided multi_header.layout bytes fits) [
  | inl s ↦ let h = multi_header_covered s.items s.value.0 in last_decided bytes s h.0 h.1
  | inr f ↦ inr (f.0, f.1, in_mark [] bytes f.0 f.1 f.2)
]
dones_decided (op ∷ left) bytes fits = elim (layout_decided multi_header.layout bytes fits) [
  | inl s ↦ let h = multi_header_covered s.items s.value.0 in one_decided bytes s h.0 h.1 op left (dones_decided left)
  | inr f ↦ inr (f.0, f.1, in_mark (op ∷ left) bytes f.0 f.1 f.2)
]

-- ---- bodies

record BodyIs (op : Op) (left : List PartOp) (bytes : List ℕ) : Type 0 where
  body : Body
  is : op_of_body body ≡ op
  fits : BodyFits left body
  have : HaveBytes (body_items body)
  whole : bytes ≡ bytes_of (body_items body)

-- the bytes are those of a row's content
record HoldsRow (r : Row) (left : List PartOp) (bytes : List ℕ) : Type 0 where
  content : Content r
  fits : RowFits r left content
  have : HaveBytes (items_in r content)
  whole : bytes ≡ bytes_of (items_in r content)

abbrev pub Covered : Row → Type 0
Covered (holds make w) = Covers w
Covered (bare b) = Unit {0}
Covered multi = Unit {0}

pub covered : (op : Op) → Covered (row_of op)
covered ops.Create = text_covered
covered _ = search records

multi_decided : (asked : List PartOp) (bytes : List ℕ) → IsBytes bytes → HoldsRow multi asked bytes ⊎ HasFault (IsRestFault (Results asked)) bytes
multi_decided asked bytes fits = elim (dones_decided asked bytes fits) [ inl m ↦ last m (left m.rest) | inr f ↦ inr (f.0, f.1, in_shape bytes f.0 f.1 f.2) ] where
  last : (m : Tells asked bytes) → ((m.rest ≡ []) ⊎ (m.rest ≡ [] → ⊥)) → HoldsRow multi asked bytes ⊎ HasFault (IsRestFault (Results asked)) bytes
  last m (inl none) = inl (record { content = m.dones; fits = m.all; have = m.have; whole = whole_of bytes m.rest (multi_items m.dones) m.splits none })
  last m (inr some) = inr (length (bytes_of (multi_items m.dones)), Trailing, past_shape bytes m.rest (multi_items m.dones) (m.dones, m.all, m.have, refl) m.splits some)

row_decided : (r : Row) → Covered r → (left : List PartOp) (bytes : List ℕ) → IsBytes bytes → HoldsRow r left bytes ⊎ HasFault (IsRestFault (shape_in r left)) bytes
row_decided (holds make w) covers left bytes fits = elim (fields_decided w.layout bytes fits) [
  | inl s ↦
      let x = covers s.items s.value.0 in
      inl (record { content = x.0; fits = tt; have = subst HaveBytes (sym x.1) s.value.1; whole = s.whole ∙ ap bytes_of (sym x.1) })
  | inr f ↦ inr f
]
row_decided (bare b) covers left bytes fits = elim (fields_decided End bytes fits) [
  | inl s ↦ inl (record { content = tt; fits = tt; have = tt; whole = s.whole ∙ ap bytes_of s.value.0 })
  | inr f ↦ inr f
]
row_decided multi covers left bytes fits = multi_decided left bytes fits

body_decided : (op : Op) (left : List PartOp) (bytes : List ℕ) → IsBytes bytes → BodyIs op left bytes ⊎ HasFault (IsRestFault (body_shape op left)) bytes
body_decided op left bytes fits = elim (row_decided (row_of op) (covered op) left bytes fits) [
  | inl s ↦
      let m = made_is op s.content in
      inl (record { body = remake (row_of op) s.content; is = m.0; fits = made_fits op left s.content s.fits; have = subst HaveBytes (sym m.1) s.have; whole = s.whole ∙ ap bytes_of (sym m.1) })
  | inr f ↦ inr f
]

-- ---- a reply

pub record ReplyIs (op : Op) (left : List PartOp) (number : ℤ) (bytes : List ℕ) : Type 0 where
  pub reply : Reply
  pub xid : reply.xid ≡ number
  pub fits : IsReplyTo op left (frame.Answered reply)
  pub sent : IsSent (frame.Answered reply)
  pub is : payload (frame.Answered reply) ≡ bytes

module _ (op : Op) (left : List PartOp) (bytes : List ℕ) (k : Heads bytes) (other : k.header.xid ≢ negsuc 0) where
  abbrev ReplyDecided : Type 0
  ReplyDecided = ReplyIs op left k.header.xid bytes ⊎ HasFault (IsReplyFault op left) bytes

  failed : k.header.err ≢ pos 0 → ((k.rest ≡ []) ⊎ (k.rest ≡ [] → ⊥)) → ReplyDecided
  failed not (inl none) =
      let items = reply_header.items k.header in
      inl (record {
        reply = record { xid = k.header.xid; zxid = k.header.zxid; outcome = outcome.Failed op k.header.err };
        xid = refl;
        fits = refl;
        sent = (other, not, have_both items [] k.is.0 tt);
        is = ap bytes_of (append-nil items) ∙ sym (whole_of bytes k.rest items k.is.1 none);
      })
  failed not (inr some) =
      let bad : IsRestFault (Fields End) k.rest 0 Trailing = past_shape k.rest k.rest [] (refl, tt) refl some in
      inr (16 + 0, Trailing, in_rest bytes k.rest k.header 0 Trailing k.is (subst (λ (s : Shape). IsRestFault s k.rest 0 Trailing) (sym (failed_shape op left k.header.err not)) bad))

  answered : k.header.err ≡ pos 0 → BodyIs op left k.rest → ReplyDecided
  answered err b =
      let r : Reply = record { xid = k.header.xid; zxid = k.header.zxid; outcome = outcome.Done b.body } in
      let head : header_of r ≡ k.header = (λ i. record { xid = k.header.xid; zxid = k.header.zxid; err = sym err i }) in
      inl (record {
        reply = r;
        xid = refl;
        fits = (b.is, b.fits);
        sent = (other, tt, have_both (reply_header.items (header_of r)) (body_items b.body) (subst (λ (h : ReplyHeader). HaveBytes (reply_header.items h)) (sym head) k.is.0) b.have);
        is = bytes_both (reply_header.items (header_of r)) (body_items b.body)
            ∙ ap (λ (h : ReplyHeader). bytes_of (reply_header.items h) ++ bytes_of (body_items b.body)) head
            ∙ ap (λ (z : List ℕ). bytes_of (reply_header.items k.header) ++ z) (sym b.whole)
            ∙ sym k.is.1;
      })

  pub reply_decided : ReplyDecided
  reply_decided = elim (int_decided k.header.err (pos 0)) [
    | inl err ↦ elim (body_decided op left k.rest k.fits) [
      | inl b ↦ answered err b
      | inr f ↦ inr (16 + f.0, f.1, in_rest bytes k.rest k.header f.0 f.1 k.is (subst (λ (e : ℤ). IsRestFault (rest_shape op left e) k.rest f.0 f.1) (sym err) f.2))
    ]
    | inr not ↦ failed not (left_over k.rest)
  ] where
    left_over : (rest : List ℕ) → (rest ≡ []) ⊎ (rest ≡ [] → ⊥)
    left_over [] = inl refl
    left_over (b ∷ rest) = inr (λ e. absurd cc)
