-- Requests: a fault is unique and excludes each form, and frames tell their payloads apart.
use Rattle.std.proofs.Common.{◌≡◌, ℕ, suc, ◌+◌, ◌⊎◌, inl, inr, List, [], ◌++◌, length, refl, sym, ap, subst, ◌∙◌, append_assoc, arith}
use Rattle.std.specs.Prelude.{Result, Ok, Err, IfOk, IfErr, ℤ, ◌≢◌}
use Rattle.std.proofs.lemmas.List.{append-nil, length-append}
use Rattle.zk_jute.specs.{declared.fault.Reason.Reason, declared.fault.ItemFault.ItemFault, Item.Item, Item.bytes_of, Item.HaveBytes, Layout.IsValueOf, Told.IsTold}
use Rattle.zk_jute.specs.declared.fault.Reason.TheVariants.{NoMemory, Trailing, UnknownOp, XidOp}
use Rattle.zk_jute.proofs.{Layouts.bytes_only, Layouts.bytes_both, Layouts.have_parts, Sequels.Same, Sequels.Sequel, Sequels.sequel_same, Sequels.sequel_not}
use Rattle.zk_records.specs.{Records.request_header, declared.header.RequestHeader.RequestHeader, declared.op.Op.Op, declared.profile.Profile.Profile, Codes.op_number, Codes.HasOp, Codes.IsNoOp}
use Rattle.zk_asks.specs.{Held.Ask, Held.ClientFrame, Codes.IsAllowed, Frames.frame_items, Frames.IsSent, Frames.IsLater, Frames.IsOfProfile, Frames.payload}
use Rattle.zk_asks.specs.declared.frame.ClientFrameOf.TheVariants as frame
use Rattle.zk_asks.specs.Forms.{header_items, op_header, IsOf, IsBody, IsAsk, asks}
use Rattle.zk_asks.specs.Rows.{Row, holds, bare, multi, row_of, Content, remake, items_in, Body, Fields, Parts, body_of, op_of_ask, body_items}
use Rattle.zk_asks.specs.Faults.{IsFaultOf, IsBodyFault, IsAskFault, in_header, unknown_op, bad_xid, in_body, behind_body}
use Rattle.zk_records.proofs.Numbers.{op_number_apart}
use Rattle.zk_asks.proofs.{Parted.multi_unique, Parted.multi_excludes, Parted.multi_only, Parted.multi_apart, Placed.IsExact, Placed.layout_exact, Placed.Placed, Placed.placed_same, Placed.placed_not, Made.IsMade, Made.is_made}
use Rattle.zk_asks.proofs.Asks.{body_is}

-- ---- bodies

body_exact : (b : Body) → IsExact (IsOf b) (IsFaultOf b)
body_exact (Fields l) = layout_exact l
body_exact Parts = record {
  unique = λ bytes. multi_unique (suc (length bytes)) bytes (omega arith);
  excludes = λ items bytes more p r v e. multi_excludes v bytes more p r e;
  only = λ c d x y v w. multi_only v w x y;
}

pub body_only : (op : Op) (a b : List Item) (x y : List ℕ) → IsBody op a → IsBody op b → bytes_of a ++ x ≡ bytes_of b ++ y → (a ≡ b) × (x ≡ y)
body_only op = (body_exact (body_of op)).only

-- ---- a fault by its header

-- behind a body
abbrev TooLong : List Item → List ℕ → ℕ → Reason → Type 0
TooLong body more p r = (more ≢ []) × (p ≡ 8 + length (bytes_of body)) × (r ≡ Trailing)

-- behind a header of an operation that the xid may have
abbrev AfterOp : Op → List ℕ → ℕ → Reason → Type 0
AfterOp op = Placed 8 (IsBody op) (IsBodyFault op) TooLong

abbrev OfOp : ℤ → Op → List ℕ → ℕ → Reason → Type 0
OfOp xid op rest p r = ((IsAllowed xid op → ⊥) × (p ≡ 4) × (r ≡ XidOp)) ⊎ (IsAllowed xid op × AfterOp op rest p r)

abbrev AfterKind : Profile → ℤ → ℤ → List ℕ → ℕ → Reason → Type 0
AfterKind profile xid kind rest p r = (IsNoOp profile kind × (p ≡ 4) × (r ≡ UnknownOp)) ⊎ ((op : Op) × HasOp profile op × (kind ≡ op_number op) × OfOp xid op rest p r)

abbrev AfterHeader : Profile → List Item → List ℕ → ℕ → Reason → Type 0
AfterHeader profile header rest p r = (xid : ℤ) × (kind : ℤ) × (header ≡ header_items xid kind) × AfterKind profile xid kind rest p r

pub header_is : (xid kind : ℤ) → HaveBytes (header_items xid kind) → IsValueOf request_header.layout (header_items xid kind)
header_is xid kind have = (request_header.unfolds (record { xid = xid; kind = kind }), have)

pub header_same : (xid kind id number : ℤ) → header_items xid kind ≡ header_items id number → (xid ≡ id) × (kind ≡ number)
header_same xid kind id number e =
    let same : ◌≡◌ {A = RequestHeader} (record { xid = xid; kind = kind }) (record { xid = id; kind = number }) = request_header.tells_apart (record { xid = xid; kind = kind }) (record { xid = id; kind = number }) e in
    (ap (λ (h : RequestHeader). h.xid) same, ap (λ (h : RequestHeader). h.kind) same)

header_split : (header body : List Item) (bytes rest : List ℕ) → bytes ≡ bytes_of (header ++ body) ++ rest → bytes ≡ bytes_of header ++ (bytes_of body ++ rest)
header_split header body bytes rest e = e ∙ ap (λ (b : List ℕ). b ++ rest) (bytes_both header body) ∙ append_assoc (bytes_of header) (bytes_of body) rest

trailing : (profile : Profile) {items : List Item} → IsAsk profile items → (bytes rest : List ℕ) (p : ℕ) → bytes ≡ bytes_of items ++ rest → rest ≢ [] → p ≡ length (bytes_of items) → Sequel request_header.layout (AfterHeader profile) bytes p Trailing
trailing profile (asks xid op body have has may v) bytes rest p e some at =
    let header = header_items xid (op_number op) in
    let place : p ≡ 8 + length (bytes_of body) = at ∙ omega (arith, ap length (bytes_both header body), length-append (bytes_of header) (bytes_of body)) in
    inr (header, bytes_of body ++ rest, header_is xid (op_number op) have, header_split header body bytes rest e, (xid, op_number op, refl, inr (op, has, refl, inr (may, inr (body, rest, v, refl, (some, place, refl))))))

sequel : (profile : Profile) {bytes : List ℕ} {p : ℕ} {r : Reason} → IsAskFault profile bytes p r → Sequel request_header.layout (AfterHeader profile) bytes p r
sequel profile (in_header place reason f) = inl f
sequel profile (unknown_op xid kind h unknown) = inr (header_items xid kind, h.rest, header_is xid kind h.have, h.splits, (xid, kind, refl, inl (unknown, refl, refl)))
sequel profile (bad_xid xid op h has not) = inr (op_header xid op, h.rest, header_is xid (op_number op) h.have, h.splits, (xid, op_number op, refl, inr (op, has, refl, inl (not, refl, refl))))
sequel profile (in_body xid op behind reason a f) =
    let h = a.header in
    inr (op_header xid op, h.rest, header_is xid (op_number op) h.have, h.splits, (xid, op_number op, refl, inr (op, a.has, refl, inr (a.may, inl (behind, refl, f)))))
sequel profile {bytes} (behind_body place t) = trailing profile t.value bytes t.rest place t.splits t.some t.at

-- ---- one fault

after_same : (op : Op) (rest : List ℕ) (p q : ℕ) (r s : Reason) → AfterOp op rest p r → AfterOp op rest q s → Same p r q s
after_same op rest = placed_same 8 (body_exact (body_of op)) TooLong rest (λ items more p q r s x y. (x.1 ∙ sym y.1, x.2 ∙ sym y.2))

of_same : (xid : ℤ) (op : Op) (rest : List ℕ) (p q : ℕ) (r s : Reason) → OfOp xid op rest p r → OfOp xid op rest q s → Same p r q s
of_same xid op rest p q r s a b =
    elim a [
      | inl f ↦ elim b [ inl g ↦ (f.1 ∙ sym g.1, f.2 ∙ sym g.2) | inr g ↦ absurd (f.0 g.0) ]
      | inr f ↦ elim b [ inl g ↦ absurd (g.0 f.0) | inr g ↦ after_same op rest p q r s f.1 g.1 ]
    ]

kind_same : (profile : Profile) (xid kind : ℤ) (rest : List ℕ) (p q : ℕ) (r s : Reason) → AfterKind profile xid kind rest p r → AfterKind profile xid kind rest q s → Same p r q s
kind_same profile xid kind rest p q r s a b =
    elim a [
      | inl f ↦ elim b [ inl g ↦ (f.1 ∙ sym g.1, f.2 ∙ sym g.2) | inr g ↦ absurd (f.0 g.0 g.1 g.2) ]
      | inr f ↦ elim b [
        | inl g ↦ absurd (g.0 f.0 f.1 f.2)
        | inr g ↦
            let one : g.0 ≡ f.0 = op_number_apart g.0 f.0 (sym g.2 ∙ f.2) in
            of_same xid f.0 rest p q r s f.3 (subst (λ (op : Op). OfOp xid op rest q s) one g.3)
      ]
    ]

pub ask_unique : (profile : Profile) (bytes : List ℕ) (p q : ℕ) (r s : Reason) → IsAskFault profile bytes p r → IsAskFault profile bytes q s → Same p r q s
ask_unique profile bytes p q r s f g =
    sequel_same request_header.layout (AfterHeader profile) bytes
    (λ header rest p q r s v e a b.
    let same = header_same b.0 b.1 a.0 a.1 (sym b.2 ∙ a.2) in
    let one : AfterKind profile a.0 b.1 rest q s = subst (λ (z : ℤ). AfterKind profile z b.1 rest q s) same.0 b.3 in
    let two : AfterKind profile a.0 a.1 rest q s = subst (λ (z : ℤ). AfterKind profile a.0 z rest q s) same.1 one in
    kind_same profile a.0 a.1 rest p q r s a.3 two)
    p q r s (sequel profile f) (sequel profile g)

-- ---- a fault excludes each form

ask_not : (profile : Profile) (xid : ℤ) (op : Op) (body : List Item) (p : ℕ) (r : Reason) → HasOp profile op → IsAllowed xid op → IsBody op body → AfterKind profile xid (op_number op) (bytes_of body) p r → ⊥
ask_not profile xid op body p r has may v a =
    elim a [
      | inl f ↦ f.0 op has refl
      | inr f ↦
          let one : f.0 ≡ op = sym (op_number_apart op f.0 f.2) in
          let g : OfOp xid op (bytes_of body) p r = subst (λ (op : Op). OfOp xid op (bytes_of body) p r) one f.3 in
          elim g [
            | inl h ↦ h.0 may
            | inr h ↦ placed_not 8 (body_exact (body_of op)) TooLong (bytes_of body) body [] v (sym (append-nil (bytes_of body))) p r (λ k. k.0 refl) h.1
          ]
    ]

pub form_not : (profile : Profile) {items : List Item} → IsAsk profile items → (bytes : List ℕ) → bytes ≡ bytes_of items → (p : ℕ) (r : Reason) → IsAskFault profile bytes p r → ⊥
form_not profile (asks xid op body have has may v) bytes e p r fault =
    let header = header_items xid (op_number op) in
    sequel_not request_header.layout (AfterHeader profile) bytes header (bytes_of body) (header_is xid (op_number op) have) (e ∙ bytes_both header body) p r
    (λ k.
    let same = header_same k.0 k.1 xid (op_number op) (sym k.2) in
    let one : AfterKind profile xid k.1 (bytes_of body) p r = subst (λ (z : ℤ). AfterKind profile z k.1 (bytes_of body) p r) same.0 k.3 in
    let two : AfterKind profile xid (op_number op) (bytes_of body) p r = subst (λ (z : ℤ). AfterKind profile xid z (bytes_of body) p r) same.1 one in
    ask_not profile xid op body p r has may v two)
    (sequel profile fault)

-- a request's items are of the form
pub is_ask : (profile : Profile) (f : ClientFrame) → IsLater f → IsOfProfile profile f → IsSent f → IsAsk profile (frame_items f)
is_ask profile (frame.Connect hello flag) later has sent = absurd later
is_ask profile (frame.Ask xid a) later has sent =
    let h = have_parts (header_items xid (op_number (op_of_ask a))) (body_items a) sent.1 in
    asks xid (op_of_ask a) (body_items a) h.0 has sent.0 (body_is a h.1)

pub ask_excludes : (profile : Profile) (f : ClientFrame) (p : ℕ) (r : Reason) → IsLater f → IsOfProfile profile f → IsSent f → IsAskFault profile (payload f) p r → ⊥
ask_excludes profile f p r later has sent fault = form_not profile (is_ask profile f later has sent) (payload f) refl p r fault

-- ---- frames tell their payloads apart

row_apart : (r : Row) (x y : Content r) → items_in r x ≡ items_in r y → x ≡ y
row_apart (holds make w) x y e = w.tells_apart x y e
row_apart (bare a) x y e = refl
row_apart (multi make) x y e = multi_apart x y e

pub body_apart : (a b : Ask) → op_of_ask b ≡ op_of_ask a → body_items a ≡ body_items b → a ≡ b
unfolding IsMade
body_apart a b same e =
    let r = row_of (op_of_ask a) in
    let x = is_made a in
    let y : IsMade (op_of_ask a) b = subst (λ (op : Op). IsMade op b) same (is_made b) in
    sym x.1 ∙ ap (remake r) (row_apart r x.0 y.0 (x.2 ∙ e ∙ sym y.2)) ∙ y.1

pub ask_injective : (f g : ClientFrame) → IsLater f → IsLater g → IsSent f → IsSent g → payload f ≡ payload g → f ≡ g
ask_injective (frame.Connect hello flag) g l m s t e = absurd l
ask_injective (frame.Ask xid a) (frame.Connect hello flag) l m s t e = absurd m
ask_injective (frame.Ask xid a) (frame.Ask id b) l m s t e =
    let x = header_items xid (op_number (op_of_ask a)) in
    let y = header_items id (op_number (op_of_ask b)) in
    let h = have_parts x (body_items a) s.1 in
    let k = have_parts y (body_items b) t.1 in
    let same = bytes_only request_header.layout x y (bytes_of (body_items a)) (bytes_of (body_items b)) (header_is xid (op_number (op_of_ask a)) h.0) (header_is id (op_number (op_of_ask b)) k.0) (sym (bytes_both x (body_items a)) ∙ e ∙ bytes_both y (body_items b)) in
    let head = header_same xid (op_number (op_of_ask a)) id (op_number (op_of_ask b)) same.0 in
    let op : op_of_ask b ≡ op_of_ask a = op_number_apart (op_of_ask b) (op_of_ask a) (sym head.1) in
    let v : IsBody (op_of_ask a) (body_items b) = subst (λ (o : Op). IsBody o (body_items b)) op (body_is b k.1) in
    let body = body_only (op_of_ask a) (body_items a) (body_items b) [] [] (body_is a h.1) v (append-nil (bytes_of (body_items a)) ∙ same.1 ∙ sym (append-nil (bytes_of (body_items b)))) in
    ap (λ (z : ℤ). frame.Ask z a) head.0 ∙ ap (λ (c : Ask). frame.Ask id c) (body_apart a b op body.0)

-- what is sent is read
pub ask_lies : (profile : Profile) (src : List ℕ) (answer : Result ClientFrame ItemFault) → IfOk answer (λ f. IsLater f × IsOfProfile profile f × IsSent f × (src ≡ payload f))
    → IfErr answer (λ e. IsTold (IsAskFault profile src) e × (e.reason ≢ NoMemory)) → (f : ClientFrame) → IsLater f → IsOfProfile profile f → IsSent f → src ≡ payload f → answer ≡ Ok f
unfolding IsTold
ask_lies profile src (Ok g) found fault f later has sent e = ap Ok (ask_injective g f found.0 later found.2 sent (sym found.3 ∙ e))
ask_lies profile src (Err x) found fault f later has sent e =
    elim fault.0 [
      | inl m ↦ absurd (fault.1 (ap (λ (y : ItemFault). y.reason) m))
      | inr k ↦ absurd (ask_excludes profile f k.0 x.reason later has sent (subst (λ (b : List ℕ). IsAskFault profile b k.0 x.reason) e k.1))
    ]
