-- What is known to be in a reply: its body.
use Rattle.std.specs.Prelude.{◌≡◌, ℕ, List}
use Rattle.zk_jute.specs.{Item.HaveBytes, Told.StandsAt}
use Rattle.zk_records.specs.declared.op.Op.{Op}
use Rattle.zk_answers.specs.{Held.Body, Rows.op_of_body, Rows.body_items}

-- the body of a reply to a request of the operation is at the place
abbrev pub ABodyStands : Op → List ℕ → ℕ → Type 0
ABodyStands op src place = (b : Body) × (end : ℕ) × (op_of_body b ≡ op) × HaveBytes (body_items b) × StandsAt (body_items b) src place end
