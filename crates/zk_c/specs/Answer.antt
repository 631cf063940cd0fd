-- What calls return, in numbers.
use Rattle.std.specs.Prelude.{ℕ, ◌-◌, pos, negsuc, Bool, true, false, Option, unwrap_or, Result, Ok, Err}
use Rattle.zk_records.specs.Codes.{op_number}
use Rattle.zk_asks.specs.{Rows.op_of_ask, Held.ClientFrame}
use Rattle.zk_asks.specs.declared.frame.ClientFrameOf.TheVariants.{Connect, Ask}
use Rattle.zk_answers.specs.{Frames.op_of_reply, Frames.err_of, Held.ServerFrame}
use Rattle.zk_answers.specs.declared.frame.ServerFrameOf.TheVariants.{Connected, Answered, Event}
use Rattle.zk_talk.specs.{Held.Message, declared.message.Fault.Fault, declared.message.Ending.Ending, declared.talk.Stepped.Stepped}
use Rattle.zk_talk.specs.declared.message.MessageOf.TheVariants.{Client as FromClient, Server as FromServer}
use Rattle.zk_talk.specs.declared.message.Ending.TheVariants.{Whole, Cut, Refused}
use Rattle.zk_c.specs.{declared.answer.FaultNumbers.FaultNumbers, declared.answer.StepAnswer.StepAnswer, declared.answer.EndingAnswer.EndingAnswer, declared.answer.MessageAnswer.MessageAnswer, declared.head.Head.Head}
use Rattle.zk_c.specs.{declared.answer.LineAnswer.LineAnswer, declared.answer.WaitingAnswer.WaitingAnswer, declared.answer.HeldAnswer.HeldAnswer, Numbers.side_number, Numbers.reason_number, Numbers.expected_of, Numbers.got_of}

abbrev pub no_fault : FaultNumbers
no_fault = record { frame = 0; offset = 0; side = 0; place = 0; reason = 0; expected = pos 0; got = pos 0 }

abbrev pub fault_numbers : Fault → FaultNumbers
fault_numbers f = record {
  frame = f.frame;
  offset = f.offset;
  side = side_number f.side;
  place = f.place;
  reason = reason_number f.reason;
  expected = expected_of f.reason;
  got = got_of f.reason;
}

-- a step that wasn't made, with this status
abbrev pub no_step : ℕ → StepAnswer
no_step status = record { used = 0; status = status; whole = false; fault = no_fault }

abbrev pub step_answer : Result Stepped Fault → StepAnswer
step_answer (Ok s) = record (no_step 0) { used = s.used; whole = s.whole }
step_answer (Err f) = record (no_step (reason_number f.reason)) { fault = fault_numbers f }

-- the offer of so many bytes; 67 where they are not one frame
abbrev pub offer_answer : ℕ → Result Bool Fault → StepAnswer
offer_answer length (Ok false) = no_step 67
offer_answer length (Ok true) = record (no_step 0) { used = length; whole = true }
offer_answer length (Err f) = record (no_step (reason_number f.reason)) { fault = fault_numbers f }

abbrev pub no_ending : ℕ → EndingAnswer
no_ending status = record { status = status; kind = 0; unanswered = 0; side = 0; got = 0; frame = 0; fault = no_fault }

abbrev pub ending_answer : Ending → EndingAnswer
ending_answer (Whole unanswered) = record (no_ending 0) { kind = 1; unanswered = unanswered }
ending_answer (Cut side frame got) = record (no_ending 0) { kind = 2; side = side_number side; got = got; frame = frame }
ending_answer (Refused f) = record (no_ending 0) { kind = 3; fault = fault_numbers f }

abbrev pub no_message : ℕ → MessageAnswer
no_message status = record { status = status; kind = 0; xid = pos 0; operation = pos 0; size = 0; err = pos 0; zxid = pos 0; frame = 0; answers = 0 }

-- the head of a message without numbers of a header; the operation of a reply is its request's
abbrev pub bare_head : ℕ → Head
bare_head kind = record { kind = kind; xid = pos 0; operation = pos 0; err = pos 0; zxid = pos 0 }

abbrev pub client_head : ClientFrame → Head
client_head (Connect hello read_only) = bare_head 1
client_head (Ask xid ask) = record (bare_head 2) { xid = xid; operation = op_number (op_of_ask ask) }

abbrev pub server_head : ServerFrame → Head
server_head (Connected hello read_only) = bare_head 3
server_head (Answered reply) =
    record (bare_head 4) { xid = reply.xid; operation = op_number (op_of_reply reply); err = err_of reply.outcome; zxid = reply.zxid }
server_head (Event zxid event) = record (bare_head 5) { xid = negsuc 0; zxid = zxid }

abbrev pub message_head : Message → Head
message_head (FromClient f) = client_head f
message_head (FromServer s) = server_head s

-- a message whose frame has `size` bytes, is the last of `frames`, and answers the client's frame of this number
abbrev pub message_answer : ℕ → ℕ → Option ℕ → Message → MessageAnswer
message_answer size frames answered m = record (no_message 0) {
  kind = (message_head m).kind;
  xid = (message_head m).xid;
  operation = (message_head m).operation;
  size = size;
  err = (message_head m).err;
  zxid = (message_head m).zxid;
  frame = frames - 1;
  answers = unwrap_or answered 0;
}

abbrev pub no_line : ℕ → LineAnswer
no_line status = record { status = status; length = 0 }

abbrev pub no_waiting : ℕ → WaitingAnswer
no_waiting status = record { status = status; requests = 0; weight = 0 }

abbrev pub no_held : ℕ → HeldAnswer
no_held status = record { status = status; bytes = 0 }
