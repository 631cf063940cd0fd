-- What a reply has after its header.
use Rattle.std.specs.Prelude.{◌≡◌, ℕ, ℤ, List}
use Rattle.zk_records.specs.{declared.op.Op.Op, declared.op.PartOp.PartOp}
use Rattle.zk_jute.specs.{Item.HaveBytes, Told.StandsAt}
use Rattle.zk_answers.specs.{Held.Body, Held.Outcome, Rows.op_of_body, Rows.body_items, Frames.BodyFits, Frames.OutcomeFits, Frames.IsOutcome, Frames.err_of, Frames.rest_items}

-- the body of a reply to this operation and these parts is at the place, and ends there
abbrev pub IsBodyAt : Op → List PartOp → Body → List ℕ → ℕ → ℕ → Type 0
IsBodyAt op parts body src place end = (op_of_body body ≡ op) × BodyFits parts body × HaveBytes (body_items body) × StandsAt (body_items body) src place end

-- after a header with this err: a failure and no more, or the body
abbrev pub IsOutcomeAt : Op → List PartOp → ℤ → Outcome → List ℕ → ℕ → ℕ → Type 0
IsOutcomeAt op parts err outcome src place end =
    OutcomeFits op parts outcome × IsOutcome outcome × (err_of outcome ≡ err) × HaveBytes (rest_items outcome) × StandsAt (rest_items outcome) src place end
