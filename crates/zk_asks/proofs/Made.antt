-- An ask is its operation and what that holds.
use Rattle.std.proofs.Common.{◌≡◌, refl}
use Rattle.zk_records.specs.declared.op.Op.{Op}
use Rattle.zk_records.specs.declared.op.Op.TheVariants as ops
use Rattle.zk_asks.specs.{Held.Ask, Rows.row_of, Rows.Content, Rows.remake, Rows.items_in, Rows.op_of_ask, Rows.body_items}
use Rattle.zk_asks.specs.declared.frame.AskOf.TheVariants as ask

-- an ask is its operation and its content
unfoldable pub IsMade : Op → Ask → Type 0
IsMade op a = (x : Content (row_of op)) × (remake (row_of op) x ≡ a) × (items_in (row_of op) x ≡ body_items a)

pub is_made : (a : Ask) → IsMade (op_of_ask a) a
unfolding IsMade
is_made (ask.Create x) = (x, refl, refl)
is_made _ = (_, refl, refl)

-- what is made of an operation's content is an ask of it, with the content's items
pub made_is : (op : Op) (x : Content (row_of op)) → (op_of_ask (remake (row_of op) x) ≡ op) × (body_items (remake (row_of op) x) ≡ items_in (row_of op) x)
made_is ops.Create x = (refl, refl)
made_is _ x = (refl, refl)
