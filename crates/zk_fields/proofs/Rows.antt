-- What a request's and a reply's entries are: of one shape, or each under a header of its own.
use Rattle.std.proofs.Common.{◌≡◌, List, [], ◌++◌, refl, ap, ◌∙◌}
use Rattle.std.specs.Prelude.{Some}
use Rattle.zk_jute.specs.Item.{Item}
use Rattle.zk_records.specs.declared.op.Op.{Op}
use Rattle.zk_records.specs.declared.op.Op.TheVariants as ops
use Rattle.zk_asks.specs.{Held.Part, Held.Ask, Parts.op_of_part, Parts.part_header, Parts.record_of}
use Rattle.zk_asks.specs.declared.frame.PartOf.TheVariants as part
use Rattle.zk_asks.specs.declared.frame.AskOf.TheVariants as ask
use Rattle.zk_asks.specs.Rows as asked
use Rattle.zk_answers.specs.{Held.PartDone, Held.Body, Results.mark_before, Results.result_of}
use Rattle.zk_answers.specs.declared.frame.PartDoneOf.TheVariants as done
use Rattle.zk_answers.specs.declared.frame.BodyOf.TheVariants as body
use Rattle.zk_answers.specs.Rows as answered
use Rattle.zk_fields.specs.{declared.payload_fields.Headed.Headed, Fields.Entry, Fields.items_of, Named.Shape, Named.IsOf, Named.Named, Named.items_both}
use Rattle.zk_fields.specs.Heads.{headed_part, headed_result, headed_row, headed_shape, by_part, record_entries, by_done, result_entries}
use Rattle.zk_fields.specs.Rows.{Row, fields, heads, rows, ask_entries, body_entries, ask_behind, body_behind, Content, Fields, ask_content, body_content}

-- one after the other
pub both_is : (x y : List Entry) (a b : List Item) → items_of x ≡ a → items_of y ≡ b → items_of (x ++ y) ≡ a ++ b
both_is x y a b p q = items_both x y ∙ ap (λ (z : List Item). z ++ items_of y) p ∙ ap (λ (z : List Item). a ++ z) q

-- entries of a shape, which say these items
pub record Formed (s : Shape) (es : List Entry) (items : List Item) : Type 0 where
  pub of : IsOf s es
  pub is : items_of es ≡ items

one : {X : Type 0} (k : Named X) (x : X) → Formed (k.shape 0) (k.entries 0 x) (k.items x)
one k x = record { of = k.formed 0 x; is = k.is 0 x }

-- ---- parts and results

abbrev Value : Type 0
Value = (m : Headed) × (headed_row m).Content

abbrev value : (m : Headed) → (headed_row m).Content → Value
value m x = (m, x)

value_formed : (v : Value) → Formed (headed_shape v.0) ((headed_row v.0).named.entries 0 v.1) ((headed_row v.0).named.items v.1)
value_formed v = one (headed_row v.0).named v.1

pub part_formed : (p : Part) → (m : Headed) × (headed_part (part_header (op_of_part p)) ≡ Some m) × Formed (headed_shape m) (record_entries p) (record_of p)
unfolding headed_part
part_formed (part.Create r) = (_, refl, value_formed (by_part value (part.Create r)))
part_formed p = (_, refl, value_formed (by_part value p))

pub done_formed : (d : PartDone) → (m : Headed) × (headed_result (mark_before d) ≡ Some m) × Formed (headed_shape m) (result_entries d) (result_of d)
unfolding headed_result
done_formed (done.Created p) = (_, refl, value_formed (by_done value (done.Created p)))
done_formed d = (_, refl, value_formed (by_done value d))

-- ---- requests and replies: what holds where the entries are of one shape, and of a multi's, holds of each

-- a multi's are of none
abbrev RowFormed : {X : Type 0} → Row X → X → Type 0
RowFormed (fields k) x = Formed (k.shape 0) (k.entries 0 x) (k.items x)
RowFormed (heads of_head f) x = Unit {0}

row_formed : {X : Type 0} (r : Row X) (x : X) → RowFormed r x
row_formed (fields k) x = one k x
row_formed (heads of_head f) x = tt

module _ (P : Content → List Entry → List Item → List Item → Type 0) (shaped : (s : Shape) (es : List Entry) (items : List Item) → Formed s es items → P (Fields s) es [] items) where
  abbrev pub OfAsk : Ask → Type 0
  OfAsk a = P (ask_content (asked.op_of_ask a)) (ask_entries a) (ask_behind a) (asked.body_items a)

  abbrev pub OfBody : Body → Type 0
  OfBody b = P (body_content (answered.op_of_body b)) (body_entries b) (body_behind b) (answered.body_items b)

  ask_rows : ((ps : List Part) → OfAsk (ask.Multi ps)) → (op : Op) (x : asked.Content (asked.row_of op)) → OfAsk (asked.remake (asked.row_of op) x)
  ask_rows multi ops.Multi ps = multi ps
  ask_rows multi op x = shaped _ _ _ (row_formed (rows op).0 x)

  body_rows : ((ds : List PartDone) → OfBody (body.Multi ds)) → (op : Op) (x : answered.Content (answered.row_of op)) → OfBody (answered.remake (answered.row_of op) x)
  body_rows multi ops.Multi ds = multi ds
  body_rows multi op x = shaped _ _ _ (row_formed (rows op).1 x)

  pub of_ask : ((ps : List Part) → OfAsk (ask.Multi ps)) → (a : Ask) → OfAsk a
  of_ask multi = asked.by_op OfAsk (ask_rows multi)

  pub of_body : ((ds : List PartDone) → OfBody (body.Multi ds)) → (b : Body) → OfBody b
  of_body multi = answered.by_op OfBody (body_rows multi)
