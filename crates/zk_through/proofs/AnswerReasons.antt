-- A server's payload has no fault of its own that too much waits.
use Rattle.std.proofs.Common.{◌≢◌, ℕ, List}
use Rattle.zk_jute.specs.{declared.fault.Reason.Reason, declared.fault.Reason.TheVariants.QueueFull}
use Rattle.zk_records.specs.{declared.op.Op.Op, declared.op.PartOp.PartOp, Records.watcher_event}
use Rattle.zk_answers.specs.Results.{IsDoneFault, in_mark, bad_mark, in_result, in_error, other_error, behind_result, behind_error}
use Rattle.zk_answers.specs.Faults.{Shape, Fields, Results, IsShapeFault, IsRestFault, in_shape, past_shape, IsReplyFault, in_head, in_rest, IsEventFault, in_header, bad_err, in_event}
use Rattle.zk_through.proofs.AskReasons.{of_items}

of_done : {ops : List PartOp} {bytes : List ℕ} {place : ℕ} {r : Reason} → IsDoneFault ops bytes place r → r ≢ QueueFull
of_done (in_mark ops bytes place reason f) e = of_items f e
of_done (bad_mark ops bytes rest header have o not) e = absurd cc
of_done (in_result op ops bytes rest behind reason o f) e = of_items f e
of_done (in_error op ops x bytes rest behind reason have o f) e = of_items f e
of_done (other_error op ops x d bytes rest have o not) e = absurd cc
of_done (behind_result op ops result bytes rest behind reason v o f) e = of_done f e
of_done (behind_error op ops x bytes rest behind reason have o f) e = of_done f e

of_shape : (s : Shape) (bytes : List ℕ) (place : ℕ) (r : Reason) → IsShapeFault s bytes place r → r ≢ QueueFull
of_shape (Fields l) bytes place r f e = of_items f e
of_shape (Results parts) bytes place r f e = of_done f e

of_rest : (s : Shape) {bytes : List ℕ} {place : ℕ} {r : Reason} → IsRestFault s bytes place r → r ≢ QueueFull
of_rest s (in_shape bytes place reason f) e = of_shape s bytes place reason f e
of_rest s (past_shape bytes rest whole is o some) e = absurd cc

pub of_reply : {op : Op} {parts : List PartOp} {bytes : List ℕ} {place : ℕ} {r : Reason} → IsReplyFault op parts bytes place r → r ≢ QueueFull
of_reply (in_head bytes place reason f) e = of_items f e
of_reply (in_rest bytes rest header behind reason h f) e = of_rest _ f e

pub of_event : {bytes : List ℕ} {place : ℕ} {r : Reason} → IsEventFault bytes place r → r ≢ QueueFull
of_event (in_header bytes place reason f) e = of_items f e
of_event (bad_err bytes rest header h not) e = absurd cc
of_event (in_event bytes rest header behind reason h zero f) e = of_rest (Fields watcher_event.layout) f e
