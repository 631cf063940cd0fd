-- Numbers for C.
use Rattle.std.specs.Prelude.{ℕ, zero, suc, ℤ, pos, Option, Some, None}
use Rattle.zk_jute.specs.declared.fault.Reason.{Reason}
use Rattle.zk_jute.specs.declared.fault.Reason.TheVariants as reasons
use Rattle.zk_talk.specs.declared.message.Side.{Side}
use Rattle.zk_talk.specs.declared.message.Side.TheVariants.{Client, Server}

abbrev pub side_number : Side → ℕ
side_number Client = 0
side_number Server = 1

-- the side of a number, if it is one's
abbrev pub side_of : ℕ → Option Side
side_of zero = Some Client
side_of (suc zero) = Some Server
side_of (suc (suc n)) = None

abbrev pub reason_number : Reason → ℕ
reason_number reasons.Short = 1
reason_number reasons.BadBool = 2
reason_number reasons.BadLength = 3
reason_number reasons.BadText = 4
reason_number reasons.NoMemory = 5
reason_number reasons.Trailing = 6
reason_number reasons.UnknownOp = 7
reason_number reasons.XidOp = 8
reason_number reasons.BadPart = 9
reason_number reasons.EventErr = 10
reason_number reasons.LengthRange = 11
reason_number reasons.QueueFull = 12
reason_number reasons.Unasked = 13
reason_number (reasons.XidOrder expected got) = 14
reason_number reasons.StreamEnd = 15

-- the two xids of a reason that has them
abbrev pub expected_of : Reason → ℤ
expected_of (reasons.XidOrder expected got) = expected
expected_of reason = pos 0

abbrev pub got_of : Reason → ℤ
got_of (reasons.XidOrder expected got) = got
got_of reason = pos 0
