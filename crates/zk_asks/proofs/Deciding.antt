-- Every payload of a client has its form, or a fault.
use Rattle.std.proofs.Common.{◌≡◌, ℕ, zero, suc, ◌+◌, ◌<◌, ◌≤◌, ◌⊎◌, inl, inr, Bool, List, [], ◌∷◌, ◌++◌, length, Option, Some, None, refl, sym, ap, subst, ◌∙◌, append_assoc, arith}
use Rattle.std.specs.Prelude.{ℤ}
use Rattle.std.specs.List.{flat_map}
use Rattle.std.proofs.lemmas.List.{length-append}
use Rattle.zk_jute.specs.declared.fault.Reason.TheVariants.{Trailing, UnknownOp, XidOp, BadPart}
use Rattle.zk_jute.specs.{Item.Item, Item.bytes_of, Item.HaveBytes, Layout.IsValueOf, Wired.Wired, Flagged.flag_items}
use Rattle.zk_jute.proofs.{Steps.IsBytes, Layouts.have_both, Layouts.bytes_both, Layouts.has_byte, Covers.Covers}
use Rattle.zk_jute.proofs.Deciding.{Starts, HasFault, layout_decided, left, whole_of, IsFlaggedWhole, flagged_decided}
use Rattle.zk_records.specs.{Records.connect_request, Records.request_header, Records.multi_header, declared.header.RequestHeader.RequestHeader, declared.header.MultiHeader.MultiHeader, declared.op.Op.Op, declared.op.PartOp.PartOp}
use Rattle.zk_records.specs.declared.op.Op.TheVariants as ops
use Rattle.zk_records.specs.declared.op.PartOp.TheVariants as parts
use Rattle.zk_records.specs.{declared.profile.Profile.Profile, Codes.op_number, Codes.HasOp}
use Rattle.zk_records.proofs.Covered.{connect_request_covered, request_header_covered, multi_header_covered, create_ask_covered, delete_ask_covered, watch_ask_covered, create_ttl_ask_covered, watches_ask_covered, add_watch_ask_covered, reconfig_ask_covered, set_data_ask_covered, path_ask_covered, set_acl_ask_covered, auth_ask_covered, set_watches_ask_covered, check_ask_covered}
use Rattle.zk_asks.specs.{Held.Ask, Held.Part, Held.ClientFrame, Codes.IsAllowed, Forms.header_items, Forms.HasHeader}
use Rattle.zk_asks.specs.declared.frame.ClientFrameOf.TheVariants as frame
use Rattle.zk_asks.specs.Parts.{part_row, part_layout, part_header, end_header, marked, op_of_part, record_of, part_items, multi_items}
use Rattle.zk_asks.specs.Rows.{Row, holds, bare, multi, row_of, Content, remake, items_in, body_in, op_of_ask, body_items}
use Rattle.zk_asks.specs.Faults.{IsFirstFault, IsMultiFault, in_mark, bad_mark, in_part, behind_part, IsFaultOf, IsBodyFault, IsAskFault, in_header, unknown_op, bad_xid, in_body, behind_body}
use Rattle.zk_asks.specs.Frames.{frame_items, IsFirst, IsLater, IsOfProfile, IsSent, payload}
use Rattle.zk_asks.proofs.{Choices.number_decided, Choices.allowed_decided, Choices.header_may, Made.made_is, Parts.made_part, Later.is_ask}

flag_has : (flag : Option _) → HaveBytes (flag_items flag)
flag_has None = tt
flag_has (Some b) = (tt, tt)

-- ---- the first payload

abbrev pub FirstIs : List ℕ → Type 0
FirstIs bytes = (f : ClientFrame) × IsFirst f × IsSent f × (payload f ≡ bytes)

-- a record and perhaps a flag are the bytes
pub flagged_whole : {X : Type 0} (w : Wired X) → Covers w → (bytes : List ℕ) → IsFlaggedWhole w.layout bytes → (x : X) × (flag : Option Bool) × HaveBytes (w.items x ++ flag_items flag) × (bytes_of (w.items x ++ flag_items flag) ≡ bytes)
flagged_whole w covers bytes s =
    let x = covers s.value s.is.0 in
    let have = subst HaveBytes (sym x.1) s.is.1 in
    (x.0, s.flag, have_both (w.items x.0) (flag_items s.flag) have (flag_has s.flag), ap (λ (z : List Item). bytes_of (z ++ flag_items s.flag)) x.1 ∙ sym s.whole)

pub first_decided : (bytes : List ℕ) → IsBytes bytes → FirstIs bytes ⊎ HasFault IsFirstFault bytes
first_decided bytes fits = elim (flagged_decided connect_request.layout bytes fits) [
  | inl s ↦ let w = flagged_whole connect_request connect_request_covered bytes s in inl (frame.Connect w.0 w.1, tt, (tt, w.2), w.3)
  | inr f ↦ inr f
]

-- ---- bodies

-- the bytes are those of a body of the operation, and then a rest
pub record Asks (op : Op) (bytes : List ℕ) : Type 0 where
  pub ask : Ask
  pub is : op_of_ask ask ≡ op
  pub rest : List ℕ
  pub have : HaveBytes (body_items ask)
  pub splits : bytes ≡ bytes_of (body_items ask) ++ rest

-- the bytes are those of a row's content, and then a rest
record HoldsRow (r : Row) (bytes : List ℕ) : Type 0 where
  content : Content r
  rest : List ℕ
  have : HaveBytes (items_in r content)
  splits : bytes ≡ bytes_of (items_in r content) ++ rest

abbrev Covered : Row → Type 0
Covered (holds make w) = Covers w
Covered (bare a) = Unit {0}
Covered (multi make) = Unit {0}

ruleset records = (create_ask_covered, delete_ask_covered, watch_ask_covered, create_ttl_ask_covered, watches_ask_covered, add_watch_ask_covered, reconfig_ask_covered, set_data_ask_covered, path_ask_covered, set_acl_ask_covered, auth_ask_covered, set_watches_ask_covered, check_ask_covered, tt)

covered : (op : Op) → Covered (row_of op)
covered ops.Create = create_ask_covered
covered _ = search records

-- ---- the parts of a multi

-- the bytes are those of parts and the end marker, and then a rest
pub record AsksParts (bytes : List ℕ) : Type 0 where
  pub parts : List Part
  pub rest : List ℕ
  pub have : HaveBytes (multi_items parts)
  pub splits : bytes ≡ bytes_of (multi_items parts) ++ rest

-- the items are those of a record of the part
pub record IsOnePart (op : PartOp) (items : List Item) : Type 0 where
  pub part : Part
  pub is : op_of_part part ≡ op
  pub same : record_of part ≡ items

part_covers : (op : PartOp) → Covers (part_row op).wired
part_covers parts.Create = create_ask_covered
part_covers _ = search records

pub part_covered : (op : PartOp) (items : List Item) → IsValueOf (part_layout op) items → IsOnePart op items
part_covered op items v =
    let x = part_covers op items v.0 in
    let m = made_part op x.0 in
    record { part = (part_row op).make x.0; is = m.0; same = m.1 ∙ x.1 }

module _ (n : ℕ) (again : (bytes : List ℕ) → length bytes < n → IsBytes bytes → AsksParts bytes ⊎ HasFault IsMultiFault bytes) (bytes : List ℕ) (short : length bytes < suc n) where
  abbrev PartsDecided : Type 0
  PartsDecided = AsksParts bytes ⊎ HasFault IsMultiFault bytes

  module _ (s : Starts multi_header.layout bytes) (h : MultiHeader) (head : marked h ≡ s.items) where
    have_head : HaveBytes (marked h)
    have_head = subst HaveBytes (sym head) s.value.1

    opens : bytes ≡ bytes_of (marked h) ++ s.rest
    opens = s.splits ∙ ap (λ (z : List Item). bytes_of z ++ s.rest) (sym head)

    long : 1 ≤ length (bytes_of (marked h))
    long = has_byte multi_header.layout (marked h) multi_header.has_fields (multi_header.unfolds h)

    ends : h ≡ end_header → PartsDecided
    ends e = inl (record { parts = []; rest = s.rest; have = subst (λ (z : MultiHeader). HaveBytes (marked z)) e have_head; splits = opens ∙ ap (λ (z : MultiHeader). bytes_of (marked z) ++ s.rest) e })

    module _ (op : PartOp) (is : h ≡ part_header op) where
      opens_part : bytes ≡ bytes_of (marked (part_header op)) ++ s.rest
      opens_part = opens ∙ ap (λ (z : MultiHeader). bytes_of (marked z) ++ s.rest) is

      module _ (t : Starts (part_layout op) s.rest) where
        opens_both : bytes ≡ bytes_of (marked (part_header op) ++ t.items) ++ t.rest
        opens_both =
            opens_part ∙ ap (λ (z : List ℕ). bytes_of (marked (part_header op)) ++ z) t.splits
            ∙ sym (append_assoc (bytes_of (marked (part_header op))) (bytes_of t.items) t.rest)
            ∙ ap (λ (z : List ℕ). z ++ t.rest) (sym (bytes_both (marked (part_header op)) t.items))

        shorter : length t.rest < n
        shorter = omega (arith, short, long, ap length opens, length-append (bytes_of (marked h)) s.rest, ap length t.splits, length-append (bytes_of t.items) t.rest)

        more : AsksParts t.rest → PartsDecided
        more m =
            let p = part_covered op t.items t.value in
            let own : part_items p.part ≡ marked (part_header op) ++ t.items = (λ i. marked (part_header (p.is i)) ++ p.same i) in
            let all : multi_items (p.part ∷ m.parts) ≡ (marked (part_header op) ++ t.items) ++ multi_items m.parts =
            append_assoc (part_items p.part) (flat_map part_items m.parts) (marked end_header) ∙ ap (λ (z : List Item). z ++ multi_items m.parts) own in
            let have_own = have_both (marked (part_header op)) t.items (subst (λ (z : MultiHeader). HaveBytes (marked z)) is have_head) t.value.1 in
            inl (record {
              parts = p.part ∷ m.parts;
              rest = m.rest;
              have = subst HaveBytes (sym all) (have_both (marked (part_header op) ++ t.items) (multi_items m.parts) have_own m.have);
              splits = opens_both ∙ ap (λ (z : List ℕ). bytes_of (marked (part_header op) ++ t.items) ++ z) m.splits
                  ∙ sym (append_assoc (bytes_of (marked (part_header op) ++ t.items)) (bytes_of (multi_items m.parts)) m.rest)
                  ∙ ap (λ (z : List ℕ). z ++ m.rest) (sym (bytes_both (marked (part_header op) ++ t.items) (multi_items m.parts)) ∙ ap bytes_of (sym all));
            })

        behind : PartsDecided
        behind = elim (again t.rest shorter t.fits) [
          | inl m ↦ more m
          | inr f ↦ inr (length (bytes_of (marked (part_header op) ++ t.items)) + f.0, f.1, behind_part bytes t.rest op t.items f.0 f.1 t.value opens_both f.2)
        ]

      one_part : PartsDecided
      one_part = elim (layout_decided (part_layout op) s.rest s.fits) [
        | inl t ↦ behind t
        | inr f ↦ inr (length (bytes_of (marked (part_header op))) + f.0, f.1, in_part bytes s.rest op f.0 f.1 opens_part f.2)
      ]

    headed : PartsDecided
    headed = elim (header_may h) [
      | inl m ↦ elim m [ inl p ↦ one_part p.0 p.1 | inr e ↦ ends e ]
      | inr not ↦ inr (0, BadPart, bad_mark bytes s.rest h have_head opens not)
    ]

  parts_step : IsBytes bytes → PartsDecided
  parts_step fits = elim (layout_decided multi_header.layout bytes fits) [
    | inl s ↦ let h = multi_header_covered s.items s.value.0 in headed s h.0 h.1
    | inr f ↦ inr (f.0, f.1, in_mark bytes f.0 f.1 f.2)
  ]

parts_decided : (n : ℕ) (bytes : List ℕ) → length bytes < n → IsBytes bytes → AsksParts bytes ⊎ HasFault IsMultiFault bytes
parts_decided zero bytes short fits = absurd (omega (arith, short))
parts_decided (suc n) bytes short fits = parts_step n (parts_decided n) bytes short fits

row_decided : (r : Row) → Covered r → (bytes : List ℕ) → IsBytes bytes → HoldsRow r bytes ⊎ HasFault (IsFaultOf (body_in r)) bytes
row_decided (holds make w) covers bytes fits = elim (layout_decided w.layout bytes fits) [
  | inl s ↦
      let x = covers s.items s.value.0 in
      inl (record { content = x.0; rest = s.rest; have = subst HaveBytes (sym x.1) s.value.1; splits = s.splits ∙ ap (λ (z : List Item). bytes_of z ++ s.rest) (sym x.1) })
  | inr f ↦ inr f
]
row_decided (bare a) covers bytes fits = inl (record { content = tt; rest = bytes; have = tt; splits = refl })
row_decided (multi make) covers bytes fits = elim (parts_decided (suc (length bytes)) bytes (omega arith) fits) [
  | inl m ↦ inl (record { content = m.parts; rest = m.rest; have = m.have; splits = m.splits })
  | inr f ↦ inr f
]

pub body_decided : (op : Op) (bytes : List ℕ) → IsBytes bytes → Asks op bytes ⊎ HasFault (IsBodyFault op) bytes
body_decided op bytes fits = elim (row_decided (row_of op) (covered op) bytes fits) [
  | inl s ↦
      let m = made_is op s.content in
      let items = sym m.1 in
      inl (record { ask = remake (row_of op) s.content; is = m.0; rest = s.rest; have = subst HaveBytes items s.have; splits = s.splits ∙ ap (λ (z : List Item). bytes_of z ++ s.rest) items })
  | inr f ↦ inr f
]

-- ---- later payloads

abbrev pub LaterIs : Profile → List ℕ → Type 0
LaterIs profile bytes = (f : ClientFrame) × IsLater f × IsOfProfile profile f × IsSent f × (payload f ≡ bytes)

module _ (profile : Profile) (bytes : List ℕ) (s : Starts request_header.layout bytes) (h : RequestHeader) (head : request_header.items h ≡ s.items) where
  abbrev AskDecided : Type 0
  AskDecided = LaterIs profile bytes ⊎ HasFault (IsAskFault profile) bytes

  have_front : HaveBytes (header_items h.xid h.kind)
  have_front = subst HaveBytes (sym head) s.value.1

  opens_front : bytes ≡ bytes_of (header_items h.xid h.kind) ++ s.rest
  opens_front = s.splits ∙ ap (λ (z : List Item). bytes_of z ++ s.rest) (sym head)

  module _ (op : Op) (has : HasOp profile op) (is : h.kind ≡ op_number op) where
    have_op : HaveBytes (header_items h.xid (op_number op))
    have_op = subst (λ (z : ℤ). HaveBytes (header_items h.xid z)) is have_front

    opens_op : bytes ≡ bytes_of (header_items h.xid (op_number op)) ++ s.rest
    opens_op = opens_front ∙ ap (λ (z : ℤ). bytes_of (header_items h.xid z) ++ s.rest) is

    abbrev op_front : HasHeader h.xid (op_number op) bytes
    op_front = record { rest = s.rest; have = have_op; splits = opens_op }

    module _ (allowed : IsAllowed h.xid op) (a : Asks op s.rest) where
      abbrev made : ClientFrame
      made = frame.Ask h.xid a.ask

      have_made : HaveBytes (frame_items made)
      have_made = have_both (header_items h.xid (op_number (op_of_ask a.ask))) (body_items a.ask) (subst (λ (o : Op). HaveBytes (header_items h.xid (op_number o))) (sym a.is) have_op) a.have

      has_made : IsOfProfile profile made
      has_made = subst (HasOp profile) (sym a.is) has

      sent_made : IsSent made
      sent_made = (subst (IsAllowed h.xid) (sym a.is) allowed, have_made)

      opens_made : bytes ≡ bytes_of (frame_items made) ++ a.rest
      opens_made =
          let front = bytes_of (header_items h.xid (op_number (op_of_ask a.ask))) in
          opens_op ∙ ap (λ (o : Op). bytes_of (header_items h.xid (op_number o)) ++ s.rest) (sym a.is)
          ∙ ap (λ (z : List ℕ). front ++ z) a.splits
          ∙ sym (append_assoc front (bytes_of (body_items a.ask)) a.rest)
          ∙ ap (λ (z : List ℕ). z ++ a.rest) (sym (bytes_both (header_items h.xid (op_number (op_of_ask a.ask))) (body_items a.ask)))

      finished : ((a.rest ≡ []) ⊎ (a.rest ≡ [] → ⊥)) → AskDecided
      finished (inl none) = inl (made, tt, has_made, sent_made, sym (whole_of bytes a.rest (frame_items made) opens_made none))
      finished (inr some) = inr (
        length (bytes_of (frame_items made)),
        Trailing,
        behind_body (length (bytes_of (frame_items made))) (record { whole = frame_items made; rest = a.rest; value = is_ask profile made tt has_made sent_made; splits = opens_made; some = some; at = refl }),
      )

    with_op : AskDecided
    with_op = elim (allowed_decided h.xid op) [
      | inl allowed ↦ elim (body_decided op s.rest s.fits) [
        | inl a ↦ finished allowed a (left a.rest)
        | inr f ↦ inr (8 + f.0, f.1, in_body h.xid op f.0 f.1 (record { header = op_front; has = has; may = allowed }) f.2)
      ]
      | inr not ↦ inr (4, XidOp, bad_xid h.xid op op_front has not)
    ]

  with_header : AskDecided
  with_header = elim (number_decided profile h.kind) [
    | inl o ↦ with_op o.0 o.1 o.2
    | inr none ↦ inr (4, UnknownOp, unknown_op h.xid h.kind (record { rest = s.rest; have = have_front; splits = opens_front }) none)
  ]

pub ask_decided : (profile : Profile) (bytes : List ℕ) → IsBytes bytes → LaterIs profile bytes ⊎ HasFault (IsAskFault profile) bytes
ask_decided profile bytes fits = elim (layout_decided request_header.layout bytes fits) [
  | inl s ↦ let h = request_header_covered s.items s.value.0 in with_header profile bytes s h.0 h.1
  | inr f ↦ inr (f.0, f.1, in_header f.0 f.1 f.2)
]
