-- The requests that wait for their replies, by lanes.
use Rattle.std.specs.Prelude.{◌≡◌, ◌≢◌, ℕ, suc, ◌+◌, ◌-◌, ◌≤◌, ◌⊎◌, ℤ, List, [], ◌∷◌, ◌++◌, length, drop, slice_get, Bool, true, false, MatchBool, Option, Some, None, Result, Ok, Err}
use Rattle.std.specs.{List.list_any, Ordering.int_eq}
use Rattle.circular_buffer.specs.Buffer.{keep_last}
use Rattle.zk_jute.specs.declared.fault.Reason.{Reason}
use Rattle.zk_jute.specs.declared.fault.Reason.TheVariants.{Unasked, XidOrder}
use Rattle.zk_records.specs.declared.profile.Profile.{Profile}
use Rattle.zk_waiting.specs.{declared.lane.Lane.Lane, Lane.lane_of}
use Rattle.zk_waiting.specs.declared.lane.Lane.TheVariants.{Ping, Auth, Watches, Plain}
use Rattle.zk_through.specs.{declared.turn.Turn.Turn, declared.turns.Due.Due, Came.Came}
use Rattle.zk_through.specs.declared.turns.Due.TheVariants as dues
use Rattle.zk_through.specs.LeftOut.{xid_of, number_of, asked, replied, IsForeign}

-- the requests of each lane that wait, the oldest first; how many of all are left out; for how many a lane has room
pub record TurnsState : Type 0 where
  pub ping : List Turn
  pub auth : List Turn
  pub watches : List Turn
  pub plain : List Turn
  pub left : ℕ
  pub room : ℕ

-- a request, by its header and the number of its frame, and whether it is left out
abbrev pub turn_of : Bool → ℕ × List ℕ → Turn
turn_of out x = record { xid = xid_of x.1; number = number_of x.1; frame = x.0; out = out }

-- the request is this one, and is left out exactly if it is foreign
pub record IsRequest (profile : Profile) (turn : Turn) (x : ℕ × List ℕ) : Type 0 where
  pub is : turn ≡ turn_of turn.out x
  pub out : MatchBool turn.out (IsForeign profile x.1) (IsForeign profile x.1 → ⊥)

-- one by one they are these requests
abbrev pub AreRequests : Profile → List Turn → List (ℕ × List ℕ) → Type 0
AreRequests profile [] [] = Unit {0}
AreRequests profile [] (x ∷ xs) = ⊥
AreRequests profile (turn ∷ turns) [] = ⊥
AreRequests profile (turn ∷ turns) (x ∷ xs) = IsRequest profile turn x × AreRequests profile turns xs

abbrev pub waits_on : Lane → TurnsState → List Turn
waits_on Ping t = t.ping
waits_on Auth t = t.auth
waits_on Watches t = t.watches
waits_on Plain t = t.plain

-- the lanes, with what waits in this one changed so
abbrev pub with_waits : Lane → (List Turn → List Turn) → TurnsState → TurnsState
with_waits Ping f t = record t { ping = f t.ping }
with_waits Auth f t = record t { auth = f t.auth }
with_waits Watches f t = record t { watches = f t.watches }
with_waits Plain f t = record t { plain = f t.plain }

-- the number of the requests that wait
abbrev pub number_of_turns : TurnsState → ℕ
number_of_turns t = length t.ping + length t.auth + length t.watches + length t.plain

-- what waits in the lane after these frames: its requests without the first ones, as many as its replies
pub record IsLane (profile : Profile) (lane : Lane) (came : Came) (waits : List Turn) : Type 0 where
  pub paired : replied lane came ≤ length (asked lane came)
  pub are : AreRequests profile waits (drop (replied lane came) (asked lane came))

-- the request is left out
abbrev pub IsLacked : Turn → Type 0
IsLacked turn = turn.out ≡ true

-- so many of these requests are left out
abbrev pub AreLacked : List Turn → ℕ → Type 0
AreLacked [] n = n ≡ 0
AreLacked (turn ∷ turns) n =
    (IsLacked turn × (m : ℕ) × (n ≡ suc m) × AreLacked turns m) ⊎ ((IsLacked turn → ⊥) × AreLacked turns n)

-- how many are left out, by lanes
pub record AreLeft (t : TurnsState) : Type 0 where
  pub ping : ℕ
  pub auth : ℕ
  pub watches : ℕ
  pub plain : ℕ
  pub pings : AreLacked t.ping ping
  pub auths : AreLacked t.auth auth
  pub of_watches : AreLacked t.watches watches
  pub of_plain : AreLacked t.plain plain
  pub all : t.left ≡ ping + auth + watches + plain

-- what is known of the lanes after these frames
pub record AreLanes (profile : Profile) (came : Came) (t : TurnsState) : Type 0 where
  pub lane : (lane : Lane) → IsLane profile lane came (waits_on lane t)
  pub left : AreLeft t

-- no requests, and this room
abbrev pub no_turns : ℕ → TurnsState
no_turns room = record { ping = []; auth = []; watches = []; plain = []; left = 0; room = room }

-- a request more, where there is room
abbrev pub and_turn : ℕ → Turn → List Turn → List Turn
and_turn room turn turns = keep_last room (turns ++ turn ∷ [])

abbrev pub with_turn : Turn → TurnsState → TurnsState
with_turn turn t = with_waits (lane_of turn.xid) (and_turn t.room turn) t

-- how many requests that are left out wait
abbrev pub left_out : TurnsState → ℕ
left_out t = t.left

-- a lane has this room, and no more are left out
abbrev pub HaveRoom : ℕ → TurnsState → Type 0
HaveRoom n t = (t.room ≡ n) × (t.left ≤ n)

-- the talk gets the request, if it is one of a lane
abbrev pub after_request : Option Turn → TurnsState → TurnsState
after_request None t = t
after_request (Some turn) t = with_turn turn t

-- it is left out
abbrev pub after_left : Turn → TurnsState → TurnsState
after_left turn t = record (with_turn turn t) { left = t.left + 1 }

-- the talk gets the reply with this xid, if it is one of a lane
abbrev pub after_reply : Option ℤ → TurnsState → TurnsState
after_reply None t = t
after_reply (Some xid) t = with_waits (lane_of xid) (drop 1) t

-- it is left out
abbrev pub after_answer : ℤ → TurnsState → TurnsState
after_answer xid t = record (with_waits (lane_of xid) (drop 1) t) { left = t.left - 1 }

-- the reply with this xid is to answer this request
abbrev pub IsDue : TurnsState → ℤ → Turn → Type 0
IsDue t xid turn = slice_get (waits_on (lane_of xid) t) 0 ≡ Some turn

-- why the reply with this xid is refused: nothing of its lane waits, or it is the turn of a request that is left out
abbrev pub IsBadTurn : TurnsState → ℤ → Reason → Type 0
IsBadTurn t xid reason =
    ((slice_get (waits_on (lane_of xid) t) 0 ≡ None) × (reason ≡ Unasked)) ⊎
    ((turn : Turn) × IsDue t xid turn × IsLacked turn × (turn.xid ≢ xid) × (reason ≡ XidOrder turn.xid xid))

-- whom the frame answers: a request that the talk got, or one that is left out; or why it is refused
abbrev pub Judges : TurnsState → Option ℤ → Result Due Reason → Type 0
Judges t xid (Ok dues.Nothing) = xid ≡ None
Judges t xid (Ok (dues.Told turn)) = (x : ℤ) × (xid ≡ Some x) × IsDue t x turn × (IsLacked turn → ⊥)
Judges t xid (Ok (dues.LeftOut turn)) = (xid ≡ Some turn.xid) × IsDue t turn.xid turn × IsLacked turn
Judges t xid (Err reason) = (x : ℤ) × (xid ≡ Some x) × IsBadTurn t x reason

-- the number of the client's frame that the server's frame answers, after so many others
abbrev pub TellsFrame : Due → ℕ → Option ℕ → Type 0
TellsFrame dues.Nothing frames n = (frames ≡ 0 → n ≡ Some 0) × (frames ≢ 0 → n ≡ None)
TellsFrame (dues.Told turn) frames n = n ≡ Some turn.frame
TellsFrame (dues.LeftOut turn) frames n = n ≡ Some turn.frame

-- The reply with this xid, if it is one of a lane, is to a request from before those that wait, in a connection that is seen
-- late; `matched` says whether a reply of the plain lane came.
abbrev pub IsEarlierOn : Lane → Bool → TurnsState → ℤ → Type 0
IsEarlierOn Plain matched t xid = (matched ≡ false) × (list_any (λ (turn : Turn). int_eq turn.xid xid) t.plain ≡ false)
IsEarlierOn lane matched t xid = slice_get (waits_on lane t) 0 ≡ None

abbrev pub IsEarlier : Bool → TurnsState → Option ℤ → Type 0
IsEarlier matched t None = ⊥
IsEarlier matched t (Some xid) = IsEarlierOn (lane_of xid) matched t xid

-- whether a reply of the plain lane came, with one more of this xid
abbrev pub matched_on : Lane → Bool → Bool
matched_on Plain was = true
matched_on lane was = was

abbrev pub matched_after : Option ℤ → Bool → Bool
matched_after None was = was
matched_after (Some xid) was = matched_on (lane_of xid) was
