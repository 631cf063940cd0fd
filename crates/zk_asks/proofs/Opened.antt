-- The fault of a request over its openings is the one of the reader's cases.
use Rattle.std.proofs.Common.{◌≡◌, ℕ, ◌+◌, ◌⊎◌, inl, inr, Bool, List, [], ◌∷◌, ◌++◌, length, map, refl, sym, ap, subst, ◌∙◌, append_assoc, arith}
use Rattle.std.specs.Prelude.{ℤ, pos, negsuc}
use Rattle.std.proofs.lemmas.Int.{ints}
use Rattle.std.proofs.lemmas.List.{append-nil, length-append, append_cancel_left, map-append}
use Rattle.zk_jute.specs.{declared.fault.Reason.Reason, declared.fault.Reason.TheVariants.BadPart, Apart.cons_is, Apart.unfolds_only, Faults.IsNext, Faults.IsBad, Faults.IsFault, Faults.Opens}
use Rattle.zk_jute.specs.Item.{Kind, Int, Boolean, Item, AnInt, ABoolean, kind_of, bytes_of, HaveBytes}
use Rattle.zk_jute.specs.Layout.{Layout, IsValueOf, ◌then◌}
use Rattle.zk_jute.proofs.Layouts.{bytes_both}
use Rattle.zk_records.specs.{Records.multi_header, declared.header.MultiHeader.MultiHeader, declared.op.Op.Op, declared.op.PartOp.PartOp, declared.profile.Profile.Profile, Codes.op_number}
use Rattle.zk_records.specs.declared.op.Op.TheVariants as ops
use Rattle.zk_asks.specs.{Parts.part_layout, Parts.part_header, Parts.end_header, Parts.MayStand, Parts.marked, Rows.Body, Rows.Fields, Rows.Parts, Rows.body_of, Forms.header_items, Forms.IsRequested}
use Rattle.zk_asks.specs.Faults.{IsMultiFault, in_mark, bad_mark, in_part, behind_part, IsFaultOf, IsAskFault, in_header, unknown_op, bad_xid, in_body, behind_body}
use Rattle.zk_asks.specs.Openings.{AreParts, no_part, one_more, AreHeaded, last, a_part_before, IsHeaded, IsRequest, IsOpeningFault, of_header, of_type, of_xid, of_item, of_part, of_rest}
use Rattle.zk_asks.proofs.Openings.{cut, NextIs, next_follows, goes_on, behind_front, drop_front}
use Rattle.zk_asks.proofs.{Parts.mark_is, Parted.op_same, Parted.not_end, Parted.end_bytes, Parted.mark_bytes, Parted.part_mark}

-- ---- a multi's header

pub int_is : (i : Item) → kind_of i ≡ Int → (n : ℤ) × (i ≡ AnInt n)
int_is (AnInt n) e = (n, refl)
int_is _ e = absurd cc

pub boolean_is : (i : Item) → kind_of i ≡ Boolean → (b : Bool) × (i ≡ ABoolean b)
boolean_is (ABoolean b) e = (b, refl)
boolean_is _ e = absurd cc

pub mark_shape : (items : List Item) → IsValueOf multi_header.layout items → (h : MultiHeader) × (items ≡ marked h)
unfolding ◌then◌
mark_shape items v =
    let a = v.0 in
    let b = a.3 in
    let c = b.3 in
    let kind = int_is a.0 a.2 in
    let done = boolean_is b.0 b.2 in
    let error = int_is c.0 c.2 in
    let h : MultiHeader = record { kind = kind.0; done = done.0; err = error.0 } in
    let e1 = a.4 in
    let e2 = b.4 in
    let e3 = c.4 in
    let e4 = c.3 in
    let e5 = kind.1 in
    let e6 = done.1 in
    let e7 = error.1 in
    (h, cc)

-- a header of the same first numbers with another err
unfoldable pub loose : ℤ → MultiHeader → MultiHeader
loose err h = record { kind = h.kind; done = h.done; err = err }

pub loose_begins : (err : ℤ) (o : List Item) (i : Item) (m : List Item) (h : MultiHeader) → o ++ (i ∷ m) ≡ marked h → (more : List Item) × (marked (loose err h) ≡ o ++ more)
unfolding loose
loose_begins err [] i m h e = (marked (loose err h), refl)
loose_begins err (x ∷ []) i m h e = let same : AnInt h.kind ≡ x = cc in (ABoolean h.done ∷ AnInt err ∷ [], ap (λ (z : Item). z ∷ ABoolean h.done ∷ AnInt err ∷ []) same)
loose_begins err (x ∷ y ∷ []) i m h e =
    let same : AnInt h.kind ≡ x = cc in
    let other : ABoolean h.done ≡ y = cc in
    (AnInt err ∷ [], ap (λ (z : Item). z ∷ ABoolean h.done ∷ AnInt err ∷ []) same ∙ ap (λ (z : Item). x ∷ z ∷ AnInt err ∷ []) other)
loose_begins err (x ∷ y ∷ z ∷ o) i m h e = absurd (omega (arith, ap length e, length-append o (i ∷ m)))

-- with err 0 it stands before no part
loose_headed : (h : MultiHeader) → HaveBytes (marked h) → AreHeaded (marked (loose (pos 0) h))
unfolding loose
loose_headed h have = last (loose (pos 0) h) (have.0, (tt, (omega (arith, ints), tt))) (λ op e. let wrong : pos 0 ≡ negsuc 0 = ap (λ (x : MultiHeader). x.err) e in absurd cc)

-- ---- the cases of the reader, over openings

ending : AreHeaded (marked end_header)
ending = last end_header end_bytes (λ op e. not_end op (sym e))

next_mark : (o m : List Item) (k : Kind) → IsValueOf multi_header.layout (o ++ m) → IsNext (IsValueOf multi_header.layout) o k → {items : List Item} → AreHeaded items → (more : List Item) → items ≡ o ++ more → NextIs more k
next_mark o m k v next (last h have not) more e = next more (subst (IsValueOf multi_header.layout) e (mark_is h have))
next_mark o m k v next (a_part_before op part others w rest) more e = next_follows multi_header.layout o m k v next (marked (part_header op)) (part ++ others) more (part_mark op) (sym e)

not_last : (h : MultiHeader) (op : PartOp) (rest : List Item) → marked h ≡ marked (part_header op) ++ rest → h ≡ part_header op
not_last h op rest e =
    let same = unfolds_only multi_header.layout (marked h) (marked (part_header op)) [] rest (multi_header.unfolds h) (multi_header.unfolds (part_header op)) (append-nil (marked h) ∙ e) in
    multi_header.tells_apart h (part_header op) same.0

mark_same : (a b : PartOp) (x y : List Item) → marked (part_header a) ++ x ≡ marked (part_header b) ++ y → (a ≡ b) × (x ≡ y)
mark_same a b x y e =
    let same = unfolds_only multi_header.layout (marked (part_header a)) (marked (part_header b)) x y (multi_header.unfolds (part_header a)) (multi_header.unfolds (part_header b)) e in
    (op_same a b (multi_header.tells_apart (part_header a) (part_header b) same.0), same.1)

next_part : (op : PartOp) (o m : List Item) (k : Kind) → IsValueOf (part_layout op) (o ++ m) → IsNext (IsValueOf (part_layout op)) o k
    → {items : List Item} → AreHeaded items → (more : List Item) → items ≡ marked (part_header op) ++ (o ++ more) → NextIs more k
next_part op o m k v next (last h have not) more e = absurd (not op (not_last h op (o ++ more) e))
next_part op o m k v next (a_part_before po part others w rest) more e =
    let same = mark_same po op (part ++ others) (o ++ more) e in
    next_follows (part_layout op) o m k v next part others more (subst (λ (x : PartOp). IsValueOf (part_layout x) part) same.0 w) (sym same.1)

next_behind : (op : PartOp) (front o : List Item) (k : Kind) → IsValueOf (part_layout op) front → IsNext AreHeaded o k
    → {items : List Item} → AreHeaded items → (more : List Item) → items ≡ marked (part_header op) ++ (front ++ (o ++ more)) → NextIs more k
next_behind op front o k v next (last h have not) more e = absurd (not op (not_last h op (front ++ (o ++ more)) e))
next_behind op front o k v next (a_part_before po part others w rest) more e =
    let same = mark_same po op (part ++ others) (front ++ (o ++ more)) e in
    let u : IsValueOf (part_layout op) part = subst (λ (x : PartOp). IsValueOf (part_layout x) part) same.0 w in
    let inside = unfolds_only (part_layout op) part front others (o ++ more) u.0 v.0 same.1 in
    next more (subst AreHeaded inside.1 rest)

-- a whole header that may not stand where it does
abbrev BadAt : List ℕ → ℕ → Reason → Type 0
BadAt bytes p r = (parts : List Item) × (h : MultiHeader) × (rest : List ℕ) × AreParts parts × HaveBytes (marked h) × (MayStand h → ⊥) × Opens bytes (parts ++ marked h) rest × (p ≡ length (bytes_of parts)) × (r ≡ BadPart)

bad_behind : (op : PartOp) (part : List Item) (bytes rest : List ℕ) (q : ℕ) (r : Reason) → IsValueOf (part_layout op) part → Opens bytes (marked (part_header op) ++ part) rest → BadAt rest q r → BadAt bytes (length (bytes_of (marked (part_header op) ++ part)) + q) r
bad_behind op part bytes rest q r v e b =
    let mark = marked (part_header op) in
    let parts = b.0 in
    let h = b.1 in
    let at = b.7 in
    let group : mark ++ (part ++ parts) ≡ (mark ++ part) ++ parts = sym (append_assoc mark part parts) in
    let split : bytes ≡ bytes_of ((mark ++ (part ++ parts)) ++ marked h) ++ b.2 =
    e ∙ ap (λ (x : List ℕ). bytes_of (mark ++ part) ++ x) b.6 ∙ sym (append_assoc (bytes_of (mark ++ part)) (bytes_of (parts ++ marked h)) b.2)
    ∙ ap (λ (x : List ℕ). x ++ b.2) (sym (bytes_both (mark ++ part) (parts ++ marked h)) ∙ ap bytes_of (sym (append_assoc (mark ++ part) parts (marked h)) ∙ ap (λ (x : List Item). x ++ marked h) (sym group))) in
    let place : length (bytes_of (mark ++ part)) + q ≡ length (bytes_of (mark ++ (part ++ parts))) = omega (arith, ap (λ (x : List Item). length (bytes_of x)) group, ap length (bytes_both (mark ++ part) parts), length-append (bytes_of (mark ++ part)) (bytes_of parts)) in
    (mark ++ (part ++ parts), h, b.2, one_more op part parts v b.3, b.4, b.5, split, place, b.8)

pub multi_opened : {bytes : List ℕ} {p : ℕ} {r : Reason} → IsMultiFault bytes p r → IsFault AreHeaded bytes p r ⊎ BadAt bytes p r
multi_opened (in_mark bytes p r f) =
    let same : 0 + p ≡ p = omega arith in
    inl (subst (λ (q : ℕ). IsFault AreHeaded bytes q r) same
    (behind_front (IsValueOf multi_header.layout) AreHeaded [] bytes bytes p r refl
    (λ o m k v next.
    let s = mark_shape (o ++ m) v in
    let n = next m v in
    let c = loose_begins (pos 0) o n.0 n.1 s.0 (ap (λ (x : List Item). o ++ x) (sym n.2) ∙ s.1) in
    ((c.0, subst AreHeaded c.1 (loose_headed s.0 (subst HaveBytes s.1 v.1))), λ more w. next_mark o m k v next w more refl))
    f))
multi_opened (bad_mark bytes rest h have e not) = inr ([], h, rest, no_part, have, not, e, refl, refl)
multi_opened (in_part bytes rest op q r e f) =
    let mark = marked (part_header op) in
    inl (behind_front (IsValueOf (part_layout op)) AreHeaded mark bytes rest q r e
    (λ o m k v next.
    let group : mark ++ ((o ++ m) ++ marked end_header) ≡ (mark ++ o) ++ (m ++ marked end_header) = ap (λ (x : List Item). mark ++ x) (append_assoc o m (marked end_header)) ∙ sym (append_assoc mark o (m ++ marked end_header)) in
    ((m ++ marked end_header, subst AreHeaded group (a_part_before op (o ++ m) (marked end_header) v ending)), λ more w. next_part op o m k v next w more (append_assoc mark o more)))
    f)
multi_opened (behind_part bytes rest op part q r v e f) =
    let mark = marked (part_header op) in
    elim (multi_opened f) [
      | inl g ↦ inl (behind_front AreHeaded AreHeaded (mark ++ part) bytes rest q r e
          (λ o m k w next.
          let group : (more : List Item) → ((mark ++ part) ++ o) ++ more ≡ mark ++ (part ++ (o ++ more)) = λ more. append_assoc (mark ++ part) o more ∙ append_assoc mark part (o ++ more) in
          ((m, subst AreHeaded (sym (group m)) (a_part_before op part (o ++ m) v w)), λ more u. next_behind op part o k v next u more (group more)))
          g)
      | inr b ↦ inr (bad_behind op part bytes rest q r v e b)
    ]

-- ---- openings, by the cases of the reader

first_kind : (more : List Item) (k : Kind) (ks : List Kind) (n : Kind) → map kind_of more ≡ k ∷ ks → k ≡ n → NextIs more n
first_kind [] k ks n e same = absurd cc
first_kind (j ∷ js) k ks n e same = let one : kind_of j ≡ k = cc in (j, js, refl, one ∙ same)

-- within a header, whatever its numbers are
pub within_mark : (h : MultiHeader) (o : List Item) (i : Item) (m : List Item) → HaveBytes (marked h) → marked h ≡ o ++ (i ∷ m) → (bytes rest : List ℕ) → Opens bytes o rest → (k : Kind) → kind_of i ≡ k → (far : ℕ) (r : Reason) → IsBad k rest r far
    → IsFault (IsValueOf multi_header.layout) bytes (length (bytes_of o) + far) r
within_mark h o i m have e bytes rest opens k kind far r bad = record {
  opening = o;
  rest = rest;
  begins = (i ∷ m, subst (IsValueOf multi_header.layout) e (mark_is h have));
  splits = opens;
  next = k;
  is_next = λ more v.
      let s = mark_shape (o ++ more) v in
      let same : map kind_of (marked s.0) ≡ map kind_of (marked h) = refl in
      let kinds : map kind_of more ≡ kind_of i ∷ map kind_of m =
      append_cancel_left (map kind_of o) (map kind_of more) (kind_of i ∷ map kind_of m)
      (sym (map-append kind_of o more) ∙ ap (map kind_of) s.1 ∙ same ∙ ap (map kind_of) e ∙ map-append kind_of o (i ∷ m)) in
      first_kind more (kind_of i) (map kind_of m) k kinds kind;
  behind = far;
  bad = bad;
  at = refl;
}

-- a fault behind items that stand in front
pub past_front : (F G : List ℕ → ℕ → Reason → Type 0) (front o : List Item) (bytes rest : List ℕ) (far : ℕ) (r : Reason) → Opens bytes (front ++ o) rest
    → ((left : List ℕ) (q : ℕ) → Opens bytes front left → F left q r → G bytes (length (bytes_of front) + q) r)
    → F (bytes_of o ++ rest) (length (bytes_of o) + far) r → G bytes (length (bytes_of (front ++ o)) + far) r
past_front F G front o bytes rest far r opens make later =
    let split : bytes ≡ bytes_of front ++ (bytes_of o ++ rest) = opens ∙ ap (λ (x : List ℕ). x ++ rest) (bytes_both front o) ∙ append_assoc (bytes_of front) (bytes_of o) rest in
    let place : length (bytes_of front) + (length (bytes_of o) + far) ≡ length (bytes_of (front ++ o)) + far = omega (arith, ap length (bytes_both front o), length-append (bytes_of front) (bytes_of o)) in
    subst (λ (p : ℕ). G bytes p r) place (make (bytes_of o ++ rest) (length (bytes_of o) + far) split later)

-- an opening within a record that stands behind a header and before the end marker, among items of a form
pub within_record : (l : Layout) (IsForm : List Item → Type 0) (mark o : List Item) (i : Item) (m : List Item) → IsValueOf l (o ++ (i ∷ m)) → (rest : List ℕ) → (k : Kind) → IsNext IsForm (mark ++ o) k
    → ((own : List Item) → IsValueOf l own → IsForm (mark ++ (own ++ marked end_header))) → (far : ℕ) (r : Reason) → IsBad k rest r far → IsFault (IsValueOf l) (bytes_of o ++ rest) (length (bytes_of o) + far) r
within_record l IsForm mark o i m v rest k next whole far r bad = record {
  opening = o;
  rest = rest;
  begins = (i ∷ m, v);
  splits = refl;
  next = k;
  is_next = λ more w.
      let group : mark ++ ((o ++ more) ++ marked end_header) ≡ (mark ++ o) ++ (more ++ marked end_header) = ap (λ (x : List Item). mark ++ x) (append_assoc o more (marked end_header)) ∙ sym (append_assoc mark o (more ++ marked end_header)) in
      goes_on l o i m more (marked end_header) k v w (next (more ++ marked end_header) (subst IsForm group (whole (o ++ more) w)));
  behind = far;
  bad = bad;
  at = refl;
}

-- an opening within a part's record, which goes on
within_part : (op : PartOp) (o : List Item) (i : Item) (m : List Item) → IsValueOf (part_layout op) (o ++ (i ∷ m)) → (bytes rest : List ℕ) → Opens bytes (marked (part_header op) ++ o) rest
    → (k : Kind) → IsNext AreHeaded (marked (part_header op) ++ o) k → (far : ℕ) (r : Reason) → IsBad k rest r far → IsMultiFault bytes (length (bytes_of (marked (part_header op) ++ o)) + far) r
within_part op o i m v bytes rest opens k next far r bad =
    past_front (IsFault (IsValueOf (part_layout op))) IsMultiFault (marked (part_header op)) o bytes rest far r opens (λ left q e. in_part bytes left op q r e)
    (within_record (part_layout op) AreHeaded (marked (part_header op)) o i m v rest k next (λ part w. a_part_before op part (marked end_header) w ending) far r bad)

-- a fault over openings is one of the cases
back : {items : List Item} → AreHeaded items → (o more : List Item) → items ≡ o ++ more → (bytes rest : List ℕ) → Opens bytes o rest → (k : Kind) → IsNext AreHeaded o k → (far : ℕ) (r : Reason) → IsBad k rest r far
    → IsMultiFault bytes (length (bytes_of o) + far) r
back (last h have not) o more e bytes rest opens k next far r bad =
    let n = next more (subst AreHeaded e (last h have not)) in
    in_mark bytes _ r (within_mark h o n.0 n.1 have (e ∙ ap (λ (x : List Item). o ++ x) n.2) bytes rest opens k n.3 far r bad)
back (a_part_before op part others v w) o more e bytes rest opens k next far r bad =
    let mark = marked (part_header op) in
    elim (cut o more mark (part ++ others) (sym e)) [
      | inl c ↦
          let n = next more (subst AreHeaded e (a_part_before op part others v w)) in
          let same = cons_is c.0 n.0 (c.1 ++ (part ++ others)) n.1 (sym c.3 ∙ n.2) in
          in_mark bytes _ r (within_mark (part_header op) o c.0 c.1 (mark_bytes op) c.2 bytes rest opens k (ap kind_of same.0 ∙ n.3) far r bad)
      | inr c ↦
          let m = c.0 in
          let opens2 : Opens bytes (mark ++ m) rest = subst (λ (x : List Item). Opens bytes x rest) c.1 opens in
          let next2 : IsNext AreHeaded (mark ++ m) k = subst (λ (x : List Item). IsNext AreHeaded x k) c.1 next in
          let result : IsMultiFault bytes (length (bytes_of (mark ++ m)) + far) r = elim (cut m more part others (sym c.2)) [
            | inl d ↦ within_part op m d.0 d.1 (subst (IsValueOf (part_layout op)) d.2 v) bytes rest opens2 k next2 far r bad
            | inr d ↦
                let o2 = d.0 in
                let group : (x : List Item) → (mark ++ m) ++ x ≡ mark ++ (part ++ (o2 ++ x)) = λ x. ap (λ (y : List Item). (mark ++ y) ++ x) d.1 ∙ append_assoc mark (part ++ o2) x ∙ ap (λ (y : List Item). mark ++ y) (append_assoc part o2 x) in
                let both : mark ++ m ≡ (mark ++ part) ++ o2 = ap (λ (y : List Item). mark ++ y) d.1 ∙ sym (append_assoc mark part o2) in
                let later = back w o2 more d.2 (bytes_of o2 ++ rest) rest refl k (λ x u. next2 x (subst AreHeaded (sym (group x)) (a_part_before op part (o2 ++ x) v u))) far r bad in
                subst (λ (y : List Item). IsMultiFault bytes (length (bytes_of y) + far) r) (sym both)
                (past_front IsMultiFault IsMultiFault (mark ++ part) o2 bytes rest far r (opens2 ∙ ap (λ (y : List Item). bytes_of y ++ rest) both) (λ left q split. behind_part bytes left op part q r v split) later)
          ] in
          subst (λ (x : List Item). IsMultiFault bytes (length (bytes_of x) + far) r) (sym c.1) result
    ]

pub multi_cased : (bytes : List ℕ) (p : ℕ) (r : Reason) → IsFault AreHeaded bytes p r → IsMultiFault bytes p r
multi_cased bytes p r f = subst (λ (q : ℕ). IsMultiFault bytes q r) (sym f.at) (back f.begins.1 f.opening f.begins.0 refl bytes f.rest f.splits f.next f.is_next f.behind r f.bad)

pub bad_cased : {parts : List Item} → AreParts parts → (h : MultiHeader) → HaveBytes (marked h) → (MayStand h → ⊥) → (bytes rest : List ℕ) → Opens bytes (parts ++ marked h) rest → IsMultiFault bytes (length (bytes_of parts)) BadPart
bad_cased no_part h have not bytes rest e = bad_mark bytes rest h have e not
bad_cased (one_more op part others v w) h have not bytes rest e =
    let mark = marked (part_header op) in
    let left = bytes_of (others ++ marked h) ++ rest in
    let group : (mark ++ (part ++ others)) ++ marked h ≡ (mark ++ part) ++ (others ++ marked h) = ap (λ (x : List Item). x ++ marked h) (sym (append_assoc mark part others)) ∙ append_assoc (mark ++ part) others (marked h) in
    let split : bytes ≡ bytes_of (mark ++ part) ++ left = e ∙ ap (λ (x : List Item). bytes_of x ++ rest) group ∙ ap (λ (x : List ℕ). x ++ rest) (bytes_both (mark ++ part) (others ++ marked h)) ∙ append_assoc (bytes_of (mark ++ part)) (bytes_of (others ++ marked h)) rest in
    let later = bad_cased w h have not left rest refl in
    let place : length (bytes_of (mark ++ part)) + length (bytes_of others) ≡ length (bytes_of (mark ++ (part ++ others))) = omega (arith, ap (λ (x : List Item). length (bytes_of x)) (sym (append_assoc mark part others)), ap length (bytes_both (mark ++ part) others), length-append (bytes_of (mark ++ part)) (bytes_of others)) in
    subst (λ (p : ℕ). IsMultiFault bytes p BadPart) place (behind_part bytes left op part (length (bytes_of others)) BadPart v split later)

-- ---- requests

-- a multi's parts are those of a multi alone
of_multi : (op : Op) → body_of op ≡ Parts → op ≡ ops.Multi
of_multi ops.Multi e = refl
of_multi _ e = absurd cc

body_opened : (b : Body) (bytes : List ℕ) (p : ℕ) (r : Reason) → IsFaultOf b bytes p r → IsFault (IsHeaded b) bytes p r ⊎ ((b ≡ Parts) × BadAt bytes p r)
body_opened (Fields l) bytes p r f = inl f
body_opened Parts bytes p r f = elim (multi_opened f) [ inl g ↦ inl g | inr g ↦ inr (refl, g) ]

body_cased : (b : Body) (bytes : List ℕ) (p : ℕ) (r : Reason) → IsFault (IsHeaded b) bytes p r → IsFaultOf b bytes p r
body_cased (Fields l) bytes p r f = f
body_cased Parts bytes p r f = multi_cased bytes p r f

request_opened : (xid : ℤ) (op : Op) (bytes rest : List ℕ) (q : ℕ) (r : Reason) → Opens bytes (header_items xid (op_number op)) rest → IsFault (IsHeaded (body_of op)) rest q r → IsFault (IsRequest xid op) bytes (8 + q) r
request_opened xid op bytes rest q r e f =
    let front = header_items xid (op_number op) in
    behind_front (IsHeaded (body_of op)) (IsRequest xid op) front bytes rest q r e
    (λ o m k v next. (
      (m, (o ++ m, v, append_assoc front o m)),
      λ more w.
          let same : w.0 ≡ o ++ more = append_cancel_left front w.0 (o ++ more) (sym w.2 ∙ append_assoc front o more) in
          next more (subst (IsHeaded (body_of op)) same w.1),
    ))
    f

part_opened : (profile : Profile) (xid : ℤ) (bytes rest : List ℕ) (q : ℕ) (r : Reason) → IsRequested profile xid ops.Multi bytes → Opens bytes (header_items xid (op_number ops.Multi)) rest → BadAt rest q r → IsOpeningFault profile bytes (8 + q) r
part_opened profile xid bytes rest q r requested e b =
    let front = header_items xid (op_number ops.Multi) in
    let parts = b.0 in
    let h = b.1 in
    let at = b.7 in
    let place : length (bytes_of (front ++ parts)) ≡ 8 + q = omega (arith, ap length (bytes_both front parts), length-append (bytes_of front) (bytes_of parts)) in
    let split : bytes ≡ bytes_of (front ++ (parts ++ marked h)) ++ b.2 = e ∙ ap (λ (x : List ℕ). bytes_of front ++ x) b.6 ∙ sym (append_assoc (bytes_of front) (bytes_of (parts ++ marked h)) b.2) ∙ ap (λ (x : List ℕ). x ++ b.2) (sym (bytes_both front (parts ++ marked h))) in
    let one = of_part b.2 xid parts h requested b.3 b.4 b.5 split in
    let two : IsOpeningFault profile bytes (8 + q) BadPart = subst (λ (p : ℕ). IsOpeningFault profile bytes p BadPart) place one in
    subst (λ (x : Reason). IsOpeningFault profile bytes (8 + q) x) (sym b.8) two

pub opened : (profile : Profile) {bytes : List ℕ} {p : ℕ} {r : Reason} → IsAskFault profile bytes p r → IsOpeningFault profile bytes p r
opened profile (in_header p r f) = of_header p r f
opened profile (unknown_op xid kind h unknown) = of_type xid kind h unknown
opened profile (bad_xid xid op h has not) = of_xid xid op h has not
opened profile {bytes} (in_body xid op q r a f) =
    let rest = a.header.rest in
    let e = a.header.splits in
    elim (body_opened (body_of op) rest q r f) [
      | inl g ↦ of_item xid op (8 + q) r a (request_opened xid op bytes rest q r e g)
      | inr g ↦
          let multi = of_multi op g.0 in
          let requested : IsRequested profile xid ops.Multi bytes = subst (λ (o : Op). IsRequested profile xid o bytes) multi a in
          part_opened profile xid bytes rest q r requested (subst (λ (o : Op). Opens bytes (header_items xid (op_number o)) rest) multi e) g.1
    ]
opened profile (behind_body p t) = of_rest p t

pub cased : (profile : Profile) {bytes : List ℕ} {p : ℕ} {r : Reason} → IsOpeningFault profile bytes p r → IsAskFault profile bytes p r
cased profile (of_header p r f) = in_header p r f
cased profile (of_type xid kind h unknown) = unknown_op xid kind h unknown
cased profile (of_xid xid op h has not) = bad_xid xid op h has not
cased profile {bytes} (of_item xid op p r a f) =
    let front = header_items xid (op_number op) in
    let q = a.header in
    let d = drop_front (IsHeaded (body_of op)) front q.have bytes q.rest p r q.splits f in
    subst (λ (x : ℕ). IsAskFault profile bytes x r) (sym d.1) (in_body xid op d.0 r a (body_cased (body_of op) q.rest d.0 r d.2))
cased profile {bytes} (of_part rest xid parts h a are have not e) =
    let q = a.header in
    let front = header_items xid (op_number ops.Multi) in
    let split : bytes_of (front ++ (parts ++ marked h)) ++ rest ≡ bytes_of front ++ (bytes_of (parts ++ marked h) ++ rest) = ap (λ (x : List ℕ). x ++ rest) (bytes_both front (parts ++ marked h)) ∙ append_assoc (bytes_of front) (bytes_of (parts ++ marked h)) rest in
    let left : q.rest ≡ bytes_of (parts ++ marked h) ++ rest = append_cancel_left (bytes_of front) q.rest (bytes_of (parts ++ marked h) ++ rest) (sym q.splits ∙ e ∙ split) in
    let inner = bad_cased are h have not q.rest rest left in
    let place : 8 + length (bytes_of parts) ≡ length (bytes_of (front ++ parts)) = omega (arith, ap length (bytes_both front parts), length-append (bytes_of front) (bytes_of parts)) in
    subst (λ (x : ℕ). IsAskFault profile bytes x BadPart) place (in_body xid ops.Multi (length (bytes_of parts)) BadPart a inner)
cased profile (of_rest p t) = behind_body p t
