-- Which frames are left out: requests of operations that the profile lacks, multis with parts of later profiles, and the
-- replies to them.
use Rattle.std.specs.Prelude.{◌≡◌, ◌≢◌, ℕ, ◌+◌, ◌⊎◌, ℤ, pos, negsuc, List, [], ◌∷◌, ◌++◌, length, take, drop, filter, Bool, true, false, if◌then◌else◌, nat_le, Some, Option, None, slice_get}
use Rattle.std.specs.{List.enumerate_from, Ordering.int_eq, Int.w64, Int.cast_signed, Int.from_be_bytes}
use Rattle.zk_jute.specs.{Faults.first_int, declared.fault.Reason.TheVariants.BadPart}
use Rattle.zk_asks.specs.Faults.{IsAskFault}
use Rattle.zk_records.specs.{declared.profile.Profile.Profile, Codes.IsNoOp}
use Rattle.zk_waiting.specs.{declared.lane.Lane.Lane, Lane.lane_of, Lane.same_lane}
use Rattle.zk_waiting.specs.declared.lane.Lane.TheVariants.{Ping, Auth, Watches, Plain}
use Rattle.zk_talk.specs.declared.message.Side.{Side}
use Rattle.zk_talk.specs.declared.message.Side.TheVariants.{Client, Server}
use Rattle.zk_through.specs.Came.{Came, payloads}

-- the first int of a header, and a request's second
abbrev pub xid_of : List ℕ → ℤ
xid_of p = first_int p

abbrev pub number_of : List ℕ → ℤ
number_of p = first_int (drop 4 p)

-- and a reply's second and third number
abbrev pub zxid_of : List ℕ → ℤ
zxid_of q = cast_signed w64 (from_be_bytes w64 (take 8 (drop 4 q)))

abbrev pub err_of : List ℕ → ℤ
err_of q = first_int (drop 12 q)

-- the lanes of which requests may be left out
abbrev pub may_be_out : Lane → Bool
may_be_out Ping = false
may_be_out Auth = false
may_be_out Watches = true
may_be_out Plain = true

-- the xid isn't an event's
unfoldable pub is_turn_xid : ℤ → Bool
is_turn_xid xid = if int_eq xid (negsuc 0) then false else true

-- a header of this many bytes is whole, and its xid is such a one
unfoldable pub has_turn : ℕ → List ℕ → Bool
has_turn size p = if nat_le size (length p) then is_turn_xid (xid_of p) else false

-- the lane of a header's xid
abbrev pub lane_in : List ℕ → Lane
lane_in p = lane_of (xid_of p)

-- and it is of this lane
unfoldable pub is_on : Lane → ℕ → List ℕ → Bool
is_on lane size p = if has_turn size p then same_lane lane (lane_in p) else false

-- the lane's requests, in order, each with the number of its frame
abbrev pub asked : Lane → Came → List (ℕ × List ℕ)
asked lane came = filter (λ (x : ℕ × List ℕ). is_on lane 8 x.1) (drop 1 (enumerate_from 0 (payloads Client came)))

-- how many replies of the lane came
abbrev pub replied : Lane → Came → ℕ
replied lane came = length (filter (is_on lane 16) (drop 1 (payloads Server came)))

-- a request under this xid is of such a lane, and its operation has this number, which is none of the profile's
abbrev pub IsLackedUnder : Profile → ℤ → ℤ → Type 0
IsLackedUnder profile xid number = (may_be_out (lane_of xid) ≡ true) × IsNoOp profile number

-- create2, createContainer and createTTL, which are parts in later profiles
unfoldable pub is_newer_part : ℤ → Bool
is_newer_part number = if int_eq number (pos 15) then true else if int_eq number (pos 19) then true else int_eq number (pos 21)

-- The header of such a part is at the place: its number, the boolean 0, and the error -1. The last five of its nine bytes are
-- 00 ff ff ff ff.
unfoldable pub is_newer_at : List ℕ → ℕ → Bool
is_newer_at p place =
    if nat_le (place + 9) (length p) then
    if is_newer_part (first_int (drop place p)) then
    if int_eq (first_int (drop (place + 4) p)) (pos 16777215) then int_eq (first_int (drop (place + 5) p)) (negsuc 0) else false
    else false else false

-- and it is what first can't be there: the parts before it are those of the profile
abbrev pub HasNewerPart : Profile → List ℕ → Type 0
HasNewerPart profile p = (place : ℕ) × IsAskFault profile p place BadPart × (is_newer_at p place ≡ true)

-- the request is of such an operation, or a multi with such a part
abbrev pub IsForeign : Profile → List ℕ → Type 0
IsForeign profile p = IsLackedUnder profile (xid_of p) (number_of p) ⊎ ((number_of p ≡ pos 14) × HasNewerPart profile p)

-- the reply is to answer this request, if it has the request's xid
abbrev pub IsTurnOf : Came → List ℕ → ℕ × List ℕ → Type 0
IsTurnOf before q x = slice_get (asked (lane_in q) before) (replied (lane_in q) before) ≡ Some x

-- the frame, after these, is left out: such a request, or the reply whose turn in its lane it is to answer one
abbrev pub IsLeftOut : Profile → Came → Side × List ℕ → Type 0
IsLeftOut profile before (Client, p) = (payloads Client before ≢ []) × (has_turn 8 p ≡ true) × IsForeign profile p
IsLeftOut profile before (Server, q) = (payloads Server before ≢ []) × (has_turn 16 q ≡ true) ×
    (x : ℕ × List ℕ) × IsTurnOf before q x × IsForeign profile x.1 × (xid_of q ≡ xid_of x.1)

-- `kept` are those of `came`, after `before`, that aren't left out
abbrev pub KeptAfter : Profile → Came → Came → Came → Type 0
KeptAfter profile before [] kept = kept ≡ []
KeptAfter profile before (x ∷ came) kept =
    (IsLeftOut profile before x × KeptAfter profile (before ++ x ∷ []) came kept) ⊎
    ((IsLeftOut profile before x → ⊥) × (rest : Came) × (kept ≡ x ∷ rest) × KeptAfter profile (before ++ x ∷ []) came rest)

abbrev pub Kept : Profile → Came → Came → Type 0
Kept profile came kept = KeptAfter profile [] came kept

-- no frame of these is left out
abbrev pub HasNoneOut : Profile → Came → Type 0
HasNoneOut profile came = (before : Came) (x : Side × List ℕ) (after : Came) → came ≡ before ++ x ∷ after → IsLeftOut profile before x → ⊥

-- The number of the client's frame that the server's frame, after these, answers. The first answers the connect request, and
-- a reply the request whose turn it is; an event answers none.
abbrev pub AnswersAfter : Came → List ℕ → Option ℕ → Type 0
AnswersAfter before q None = (payloads Server before ≢ []) × (has_turn 16 q ≡ false)
AnswersAfter before q (Some n) =
    ((payloads Server before ≡ []) × (n ≡ 0)) ⊎
    ((payloads Server before ≢ []) × (has_turn 16 q ≡ true) × (x : ℕ × List ℕ) × IsTurnOf before q x × (n ≡ x.0))

-- that of the newest of the server's frames; none if none came
pub record NewestAnswers (came : Came) (n : Option ℕ) : Type 0 where
  pub none : payloads Server came ≡ [] → n ≡ None
  pub some : (before : Came) (q : List ℕ) (after : Came) → came ≡ before ++ (Server, q) ∷ after → payloads Server after ≡ [] →
      AnswersAfter before q n
