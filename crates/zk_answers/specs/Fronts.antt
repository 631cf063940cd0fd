-- Replies and results, by where they begin and end.
use Rattle.std.specs.Prelude.{◌≡◌, ◌≢◌, ◌∷◌, ℕ, ℤ, List}
use Rattle.zk_jute.specs.{Item.HaveBytes, Layout.IsValueOf, declared.fault.ItemFault.ItemFault, declared.fault.Reason.TheVariants.NoMemory, Told.StandsAt, Told.IsToldAt}
use Rattle.zk_records.specs.{declared.op.Op.Op, declared.op.PartOp.PartOp}
use Rattle.zk_answers.specs.{Held.Reply, Held.PartDone, Frames.Fits, Frames.IsSent, Frames.payload}
use Rattle.zk_answers.specs.declared.frame.ServerFrameOf.TheVariants as frame
use Rattle.zk_answers.specs.Results.{Own, Answers, AnswerAll, IsDoneFault, result_of, result_layout, done_items, multi_items}

-- a part's own result is at the place, and ends there
abbrev pub IsResultAt : PartOp → List ℕ → ℕ → ℕ → Type 0
IsResultAt op src place end = (d : PartDone) × Own op d × IsValueOf (result_layout op) (result_of d) × StandsAt (result_of d) src place end

-- the result of a part is at the place, with its header
abbrev pub IsDoneAt : PartOp → List ℕ → ℕ → ℕ → Type 0
IsDoneAt op src place end = (d : PartDone) × Answers op d × HaveBytes (done_items d) × StandsAt (done_items d) src place end

-- results for these parts, and the end marker, are at the place, and end there
abbrev pub AreDonesAt : List PartOp → List ℕ → ℕ → ℕ → Type 0
AreDonesAt ops src place end = (ds : List PartDone) × AnswerAll ops ds × HaveBytes (multi_items ds) × StandsAt (multi_items ds) src place end

-- the fault of the result of a part of this operation, whichever parts come after it
abbrev pub IsDoneFaultAt : PartOp → List ℕ → ℕ → ItemFault → Type 0
IsDoneFaultAt op src place e = ((ops : List PartOp) → IsToldAt (IsDoneFault (op ∷ ops)) src place e) × (e.reason ≢ NoMemory)

-- the payload is that of a reply under this xid to a request of this operation and these parts
abbrev pub IsReplyUnder : ℤ → Op → List PartOp → List ℕ → Type 0
IsReplyUnder xid op parts bytes = (r : Reply) × (r.xid ≡ xid) × Fits op parts r × IsSent (frame.Answered r) × (bytes ≡ payload (frame.Answered r))
