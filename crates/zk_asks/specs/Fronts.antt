-- Requests and parts, by where they begin and end.
use Rattle.std.specs.Prelude.{◌≡◌, ℕ, ℤ, List, length, Option, Some, None}
use Rattle.zk_jute.specs.{Item.HaveBytes, Layout.IsValueOf, Told.StandsAt}
use Rattle.zk_records.specs.{declared.op.Op.Op, declared.op.PartOp.PartOp, declared.profile.Profile.Profile, Codes.HasOp}
use Rattle.zk_asks.specs.{Codes.IsAllowed, Forms.op_header, Held.Ask, Held.Part, Held.ClientFrame, declared.judge.Outline.Outline, Parts.part_layout, Parts.op_of_part, Parts.record_of, Rows.op_of_ask, Rows.body_items}
use Rattle.zk_asks.specs.declared.frame.AskOf.TheVariants as ask
use Rattle.zk_asks.specs.declared.frame.ClientFrameOf.TheVariants as frame
use Rattle.zk_asks.specs.Frames.{ops_of_ask, IsSent, payload}

-- the record of a part of this operation is at the place, and ends there
abbrev pub IsRecordAt : PartOp → List ℕ → ℕ → ℕ → Type 0
IsRecordAt op src place end = (p : Part) × (op_of_part p ≡ op) × IsValueOf (part_layout op) (record_of p) × StandsAt (record_of p) src place end

-- the record of this part is at the place, and ends there
abbrev pub IsOwnRecord : Part → List ℕ → ℕ → ℕ → Type 0
IsOwnRecord p src place end = HaveBytes (record_of p) × StandsAt (record_of p) src place end

-- the header of a request of the profile, with this operation and this xid, which it may have, is in front, and ends there
abbrev pub IsHeadAt : Profile → ℤ → Op → List ℕ → ℕ → Type 0
IsHeadAt profile xid op src end = HasOp profile op × IsAllowed xid op × HaveBytes (op_header xid op) × StandsAt (op_header xid op) src 0 end

-- the outline of the request
abbrev pub outline_of : ℤ → Ask → Outline
outline_of xid a = record { xid = xid; op = op_of_ask a; parts = length (ops_of_ask a) }

-- the body of a request of this operation, with so many parts, is at the place, and ends there
abbrev pub IsBodyWith : Op → ℕ → List ℕ → ℕ → ℕ → Type 0
IsBodyWith op parts src place end = (a : Ask) × (op_of_ask a ≡ op) × (length (ops_of_ask a) ≡ parts) × HaveBytes (body_items a) × StandsAt (body_items a) src place end

-- the payload is that of a request of the profile, of this outline
abbrev pub IsOutlined : Profile → Outline → List ℕ → Type 0
IsOutlined profile of bytes = (a : Ask) × HasOp profile (op_of_ask a) × (outline_of of.xid a ≡ of) × IsSent (frame.Ask of.xid a) × (bytes ≡ payload (frame.Ask of.xid a))

-- what the client's frame asks: none where it is a connect request
abbrev pub asking_of : ClientFrame → Option Outline
asking_of (frame.Connect hello read_only) = None
asking_of (frame.Ask xid a) = Some (outline_of xid a)

-- the payload is that of the multi of these parts under this xid
abbrev pub IsMultiOf : ℤ → List Part → List ℕ → Type 0
IsMultiOf xid ds bytes = IsSent (frame.Ask xid (ask.Multi ds)) × (bytes ≡ payload (frame.Ask xid (ask.Multi ds)))
