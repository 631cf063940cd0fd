-- Bodies: each has the items of its operation's shape, and they tell it apart.
use Rattle.std.proofs.Common.{◌≡◌, List, [], refl, sym, ap, subst, ◌∙◌}
use Rattle.std.proofs.lemmas.List.{append-nil}
use Rattle.zk_jute.specs.{Item.Item, Item.bytes_of, Item.HaveBytes, Wired.Wired}
use Rattle.zk_jute.proofs.Layouts.{bytes_only}
use Rattle.zk_records.specs.{declared.op.Op.Op, declared.op.PartOp.PartOp}
use Rattle.zk_records.specs.declared.op.Op.TheVariants as ops
use Rattle.zk_answers.specs.{Held.Body, Held.PartDone, Results.AnswerAll, Frames.BodyFits, Faults.IsOfShape, Faults.shape_in, Faults.body_shape}
use Rattle.zk_answers.specs.declared.frame.BodyOf.TheVariants as body
use Rattle.zk_answers.specs.Rows.{Row, holds, bare, multi, row_of, by_op, Content, remake, items_in, op_of_body, body_items}
use Rattle.zk_answers.proofs.Results.{multi_only}

-- a body is its operation and its content
unfoldable pub IsMade : Op → Body → Type 0
IsMade op b = (x : Content (row_of op)) × (remake (row_of op) x ≡ b) × (items_in (row_of op) x ≡ body_items b)

-- what is made of an operation's content is a body of it, with the content's items
pub made_is : (op : Op) (x : Content (row_of op)) → (op_of_body (remake (row_of op) x) ≡ op) × (body_items (remake (row_of op) x) ≡ items_in (row_of op) x)
made_is ops.Create x = (refl, refl)
made_is _ x = (refl, refl)

row_made : (op : Op) (x : Content (row_of op)) → IsMade (op_of_body (remake (row_of op) x)) (remake (row_of op) x)
unfolding IsMade
row_made op x = subst (λ (o : Op). IsMade o (remake (row_of op) x)) (sym (made_is op x).0) (x, refl, sym (made_is op x).1)

pub is_made : (b : Body) → IsMade (op_of_body b) b
is_made b = by_op (λ c. IsMade (op_of_body c) c) row_made b

-- as many results as parts, each its part's own or an error
abbrev pub RowFits : (r : Row) → List PartOp → Content r → Type 0
RowFits (holds make w) parts x = Unit {0}
RowFits (bare b) parts x = Unit {0}
RowFits multi parts x = AnswerAll parts x

pub made_fits : (op : Op) (parts : List PartOp) (x : Content (row_of op)) → RowFits (row_of op) parts x → BodyFits parts (remake (row_of op) x)
made_fits ops.Multi parts x fits = fits
made_fits _ parts x fits = tt

row_is : (r : Row) (x : Content r) (parts : List PartOp) → BodyFits parts (remake r x) → HaveBytes (items_in r x) → IsOfShape (shape_in r parts) (items_in r x)
row_is (holds make w) x parts fits have = (w.unfolds x, have)
row_is (bare b) x parts fits have = (refl, tt)
row_is multi x parts fits have = (x, fits, have, refl)

pub body_is : (b : Body) (parts : List PartOp) → BodyFits parts b → HaveBytes (body_items b) → IsOfShape (body_shape (op_of_body b) parts) (body_items b)
unfolding IsMade
body_is b parts fits have =
    let m = is_made b in
    let r = row_of (op_of_body b) in
    subst (λ (items : List Item). IsOfShape (shape_in r parts) items) m.2 (row_is r m.0 parts (subst (BodyFits parts) (sym m.1) fits) (subst HaveBytes (sym m.2) have))

-- ---- bodies of one operation are told apart

wired_same : {X : Type 0} (w : Wired X) (x y : X) → HaveBytes (w.items x) → HaveBytes (w.items y) → bytes_of (w.items x) ≡ bytes_of (w.items y) → x ≡ y
wired_same w x y h k e =
    let same = bytes_only w.layout (w.items x) (w.items y) [] [] (w.unfolds x, h) (w.unfolds y, k) (append-nil (bytes_of (w.items x)) ∙ e ∙ sym (append-nil (bytes_of (w.items y)))) in
    w.tells_apart x y same.0

dones_same : (parts : List PartOp) (x y : List PartDone) → BodyFits parts (body.Multi x) → BodyFits parts (body.Multi y) → HaveBytes (body_items (body.Multi x)) → HaveBytes (body_items (body.Multi y)) → bytes_of (body_items (body.Multi x)) ≡ bytes_of (body_items (body.Multi y)) → x ≡ y
dones_same parts x y p q h k e = (multi_only parts x y p q h k [] [] (append-nil (bytes_of (body_items (body.Multi x))) ∙ e ∙ sym (append-nil (bytes_of (body_items (body.Multi y)))))).0

row_same : (r : Row) (parts : List PartOp) (x y : Content r) → BodyFits parts (remake r x) → BodyFits parts (remake r y) → HaveBytes (items_in r x) → HaveBytes (items_in r y) → bytes_of (items_in r x) ≡ bytes_of (items_in r y) → x ≡ y
row_same (holds make w) parts x y p q h k e = wired_same w x y h k e
row_same (bare b) parts x y p q h k e = refl
row_same multi parts x y p q h k e = dones_same parts x y p q h k e

pub body_same : (parts : List PartOp) (b c : Body) → op_of_body b ≡ op_of_body c → BodyFits parts b → BodyFits parts c → HaveBytes (body_items b) → HaveBytes (body_items c) → bytes_of (body_items b) ≡ bytes_of (body_items c) → b ≡ c
unfolding IsMade
body_same parts b c same p q h k e =
    let r = row_of (op_of_body b) in
    let x = is_made b in
    let y : IsMade (op_of_body b) c = subst (λ (op : Op). IsMade op c) (sym same) (is_made c) in
    let fits : BodyFits parts (remake r x.0) = subst (BodyFits parts) (sym x.1) p in
    let agrees : BodyFits parts (remake r y.0) = subst (BodyFits parts) (sym y.1) q in
    let bytes : bytes_of (items_in r x.0) ≡ bytes_of (items_in r y.0) = ap bytes_of x.2 ∙ e ∙ ap bytes_of (sym y.2) in
    sym x.1 ∙ ap (remake r) (row_same r parts x.0 y.0 fits agrees (subst HaveBytes (sym x.2) h) (subst HaveBytes (sym y.2) k) bytes) ∙ y.1
