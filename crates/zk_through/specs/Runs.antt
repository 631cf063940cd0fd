-- What a connection comes to: the conversation that the talk is told, and the requests and replies that are left out.
use Rattle.std.specs.Prelude.{◌≡◌, ◌≢◌, ℕ, Bool, ◌+◌, ◌≤◌, ◌<◌, ◌^◌, ◌⊎◌, List, [], ◌∷◌, ◌++◌, length, take, Option, Some, None, true}
use Rattle.zk_jute.specs.declared.fault.Reason.{Reason}
use Rattle.zk_jute.specs.declared.fault.Reason.TheVariants.{StreamEnd, LengthRange, QueueFull, Unasked, XidOrder}
use Rattle.zk_records.specs.declared.profile.Profile.{Profile}
use Rattle.zk_asks.specs.{Held.ClientFrame, Frames.IsLater, Frames.IsSent, Frames.IsOfProfile}
use Rattle.zk_frames.specs.Framing.{frame, IsBadLength}
use Rattle.zk_talk.specs.{declared.message.Side.Side, declared.message.Fault.Fault, declared.message.Ending.Ending, declared.limits.Limits.Limits, Held.Message, Payloads.client_payload, History.History, History.side_bytes, History.on}
use Rattle.zk_talk.specs.declared.message.Side.TheVariants.{Client, Server}
use Rattle.zk_talk.specs.declared.message.Ending.TheVariants.{Whole, Cut, Refused}
use Rattle.zk_talk.specs.{Conversation.Conversation, Conversation.load, Conversation.weight, Good.Good, Fault.IsFaultOf, Fault.side_limit, Fault.fault_of, Ending.IsEnding, Stands.TalkState, Stands.Stands, Stands.Refuses, Stands.kept_on}
use Rattle.zk_talk.specs.{Streams.StreamState, Taking.dropped as unshown, Viewed.Shows, Viewed.Leaves}
use Rattle.zk_waiting.specs.Waiting.{count_of}
use Rattle.zk_through.specs.{declared.through.StepOutcome.StepOutcome, Came.Came, Came.payloads, Came.AreFrames, Came.told, Unseen.IsUnseen, Unseen.Seen, Unseen.IsSeen, Unseen.TellsMatched}
use Rattle.zk_through.specs.declared.through.StepOutcome.TheVariants as outcome
use Rattle.zk_through.specs.LeftOut.{xid_of, zxid_of, err_of, has_turn, lane_in, asked, replied, IsForeign, IsTurnOf, Kept, NewestAnswers}
use Rattle.zk_through.specs.Turns.{TurnsState, AreLanes, IsDue, turn_of, left_out, number_of_turns}

-- the talk; each side's frame, with how many came; the requests that wait; whether the connection is seen late, and then
-- whether a reply of the plain lane came; and the number of the client's frame that the server's newest frame answers
pub record ThroughState : Type 0 where
  pub talk : TalkState
  pub client : StreamState
  pub server : StreamState
  pub turns : TurnsState
  pub late : Bool
  pub matched : Bool
  pub answered : Option ℕ
  pub fault : Option Fault

-- the side's own of the client's and the server's
abbrev pub of_side : {X : Type 0} → Side → X → X → X
of_side Client client server = client
of_side Server client server = server

-- what is held and kept of the side's frames
abbrev pub stream_on : Side → ThroughState → StreamState
stream_on side t = of_side side t.client t.server

-- the history's bytes are these frames, as the sides count them, and then what they hold
pub record AreStreams (limits : Limits) (client server : StreamState) (h : History) (all : Came) : Type 0 where
  pub frames : AreFrames limits h all (λ side. (of_side side client server).held)
  pub counts : (side : Side) → (of_side side client server).count ≡ length (payloads side all)
  pub sizes : (side : Side) → (of_side side client server).size ≡ length (side_bytes side h)

-- of the frames that were seen the talk was given `given`, of which the messages are; and these requests wait
pub record IsGiven (talk : TalkState) (turns : TurnsState) (newest : Option ℕ) (came given : Came) (messages : List Message) : Type 0 where
  pub kept : Kept talk.limits.profile came given
  pub stands : Stands talk (told given) messages
  pub alone : (talk.client_held ≡ []) × (talk.server_held ≡ [])
  pub lanes : AreLanes talk.limits.profile came turns
  pub few : number_of_turns turns ≤ count_of talk.waiting + left_out turns
  pub answered : NewestAnswers came newest
  pub room : (v : Conversation) → Good talk.limits (told given) v [] [] → load v.client v.server + left_out turns ≤ talk.limits.waiting

-- Of the history's frames `came` were seen: all, but for replies to requests that weren't, where it is seen late. The talk was
-- given `given` of them, of which the messages are.
pub record Runs (t : ThroughState) (h : History) (came given : Came) (messages : List Message) : Type 0 where
  pub all : Came
  pub streams : AreStreams t.talk.limits t.client t.server h all
  pub open streams use *
  pub seen : Seen t.late all came
  pub matched : t.late ≡ true → TellsMatched t.matched came
  pub gives : IsGiven t.talk t.turns t.answered came given messages
  pub open gives use *
  pub no_fault : t.fault ≡ None

-- this holds of the conversation that the talk was given
abbrev pub WhereItRuns : ThroughState → (Conversation → Type 0) → Type 0
WhereItRuns t Says = (h : History) (c k : Came) (M : List Message) → Runs t h c k M →
    (v : Conversation) → Good t.talk.limits (told k) v [] [] → Says v

-- the bytes went on with the history, and made these frames whole, of which the talk was told some, and of which these
-- messages are
abbrev pub GoesOn : ThroughState → Side → List ℕ → Came → Came → List Message → ThroughState → Type 0
GoesOn old side used came kept messages new =
    (h : History) (c k : Came) (M : List Message) → Runs old h c k M →
    Runs new (h ++ on side used) (c ++ came) (k ++ kept) (M ++ messages)

-- the bytes made this frame whole; the talk was told it, and shows its message, the newest
abbrev pub GoesOnTold : ThroughState → Side → List ℕ → List ℕ → ThroughState → Type 0
GoesOnTold old side used p new =
    (h : History) (c k : Came) (M : List Message) → Runs old h c k M →
    (m : Message) × Shows new.talk side m × Runs new (h ++ on side used) (c ++ (side, p) ∷ []) (k ++ (side, p) ∷ []) (M ++ m ∷ [])

-- the bytes made this frame whole: a reply to a request that wasn't seen, which is passed over
abbrev pub PassesOver : ThroughState → List ℕ → List ℕ → ThroughState → Type 0
PassesOver old used q new = (old.late ≡ true) ×
    ((h : History) (c k : Came) (M : List Message) (r : Runs old h c k M) → IsUnseen c (Server, q) ×
    (s : Runs new (h ++ on Server used) c k M) × (s.all ≡ r.all ++ (Server, q) ∷ []))

-- the frame that was left out or passed over last on the side, until the side's next call
abbrev pub left_on : Side → ThroughState → List ℕ
left_on side t = (stream_on side t).kept

-- the payload is a request's of the profile, of this weight
abbrev pub IsRequestOf : Profile → List ℕ → ℕ → Type 0
IsRequestOf profile p w = (f : ClientFrame) × IsLater f × IsSent f × IsOfProfile profile f × (client_payload f ≡ p) × (w ≡ weight f)

-- a request that is left out weighs 1, and one that the talk gets as there
abbrev pub Weighs : Profile → List ℕ → ℕ → Type 0
Weighs profile p w = ((has_turn 8 p ≡ true) × IsForeign profile p × (w ≡ 1)) ⊎ IsRequestOf profile p w

-- with the client's frame, which some of the piece makes whole, more would wait than may
pub record IsFull (old : ThroughState) (piece : List ℕ) : Type 0 where
  pub part : ℕ
  pub payload : List ℕ
  pub weight : ℕ
  pub whole : old.client.held ++ take part piece ≡ frame payload
  pub later : 0 < old.client.count
  pub weighs : Weighs old.talk.limits.profile payload weight
  pub full : WhereItRuns old (λ v. old.talk.limits.waiting < load v.client v.server + left_out old.turns + weight)

-- what the side shows stays as it is
abbrev pub KeepsShown : Side → ThroughState → ThroughState → Type 0
KeepsShown side old new = Leaves side old.talk new.talk

-- what became of the bytes that were used; without a message the side shows what it showed
abbrev pub HasOutcome : ThroughState → Side → List ℕ → ℕ → StepOutcome → ThroughState → Type 0
HasOutcome old side piece used outcome.Within new =
    (used ≡ length piece) × (left_on side new ≡ []) × GoesOn old side piece [] [] [] new × KeepsShown side old new
HasOutcome old side piece used outcome.Message new =
    (used ≤ length piece) × (left_on side new ≡ []) × (p : List ℕ) × GoesOnTold old side (take used piece) p new
HasOutcome old side piece used (outcome.Asked turn) new =
    (used ≤ length piece) × (side ≡ Client) × (p : List ℕ) × (left_on side new ≡ frame p) × (turn ≡ turn_of true (old.client.count, p)) ×
    GoesOn old side (take used piece) ((side, p) ∷ []) [] [] new × KeepsShown side old new
HasOutcome old side piece used (outcome.Answered turn) new =
    (used ≤ length piece) × (side ≡ Server) × (q : List ℕ) × (left_on side new ≡ frame q) × (xid_of q ≡ turn.xid) ×
    IsDue old.turns turn.xid turn × GoesOn old side (take used piece) ((side, q) ∷ []) [] [] new × KeepsShown side old new
HasOutcome old side piece used (outcome.Unseen xid zxid err) new =
    (used ≤ length piece) × (side ≡ Server) × (q : List ℕ) × (left_on side new ≡ frame q) ×
    (xid ≡ xid_of q) × (zxid ≡ zxid_of q) × (err ≡ err_of q) × PassesOver old (take used piece) q new × KeepsShown side old new
HasOutcome old side piece used outcome.Full new =
    (used ≡ 0) × (side ≡ Client) × (left_on side new ≡ []) × IsFull old piece × GoesOn old side [] [] [] [] new × KeepsShown side old new

-- The frame, after these, is no later frame of the client's that is a request of the profile. So no frame is refused because
-- too much waits.
abbrev pub IsNoRequest : Profile → Came → Side → List ℕ → Type 0
IsNoRequest profile came Client p = (payloads Client came ≢ []) → (w : ℕ) → IsRequestOf profile p w → ⊥
IsNoRequest profile came Server p = Unit {0}

-- Why the side's frame is refused, after these frames of which the talk was told `kept`. None is refused that is passed over
-- where the connection is seen late.
pub data IsWhy (limits : Limits) (late : Bool) (came kept : Came) (side : Side) (size : ℕ) (bytes : List ℕ) (place : ℕ) (reason : Reason) : Type 0 where
  stream_end : size ≡ 2 ^ 62 → place ≡ 0 → reason ≡ StreamEnd → IsWhy limits late came kept side size bytes place reason
  length_range : IsBadLength (side_limit limits side) bytes → place ≡ 0 → reason ≡ LengthRange → IsWhy limits late came kept side size bytes place reason
  unasked : side ≡ Server → (q : List ℕ) → bytes ≡ frame q → IsSeen late came (Server, q) → has_turn 16 q ≡ true →
      length (asked (lane_in q) came) ≤ replied (lane_in q) came →
      place ≡ 0 → reason ≡ Unasked → IsWhy limits late came kept side size bytes place reason
  other_turn : side ≡ Server → (q : List ℕ) → bytes ≡ frame q → IsSeen late came (Server, q) → has_turn 16 q ≡ true →
      (x : ℕ × List ℕ) → IsTurnOf came q x → IsForeign limits.profile x.1 → xid_of x.1 ≢ xid_of q →
      place ≡ 0 → reason ≡ XidOrder (xid_of x.1) (xid_of q) → IsWhy limits late came kept side size bytes place reason
  told_so : (q : List ℕ) → bytes ≡ frame q → IsSeen late came (side, q) → length q ≤ side_limit limits side → (f : Fault) →
      IsFaultOf limits (told kept ++ on side (frame q)) f → IsNoRequest limits.profile came side q → place ≡ f.place → reason ≡ f.reason → IsWhy limits late came kept side size bytes place reason

-- The last of these bytes of the piece is refused, at the side's own frame and offset.
pub record IsStopped (old : ThroughState) (side : Side) (piece : List ℕ) (fault : Fault) (h : History) (all came kept : Came) : Type 0 where
  pub used : ℕ
  pub part : used ≤ length piece
  pub told : fault ≡ fault_of side (length (payloads side all)) (length (side_bytes side h) + used) fault.place fault.reason
  pub why : IsWhy old.talk.limits old.late came kept side (length (side_bytes side h) + used) ((stream_on side old).held ++ take used piece) fault.place fault.reason

abbrev pub IsRefused : ThroughState → Side → List ℕ → Fault → ThroughState → Type 0
IsRefused old side piece fault new = (new.fault ≡ Some fault) ×
    ((h : History) (c k : Came) (M : List Message) (r : Runs old h c k M) → IsStopped old side piece fault h r.all c k)

-- the refusal isn't that too much waits
abbrev pub IsNeverFull : ThroughState → Fault → Type 0
IsNeverFull old fault = (h : History) (c k : Came) (M : List Message) → Runs old h c k M → fault.reason ≢ QueueFull

-- the talk was told this frame, whatever it had been told, and it is a message's
abbrev pub IsTold : TalkState → Side → List ℕ → TalkState → Type 0
IsTold old side p new = (h : History) (M : List Message) → Stands old h M → (old.client_held ≡ []) → (old.server_held ≡ []) →
    (m : Message) × Shows new side m × Stands new (h ++ on side (frame p)) (M ++ m ∷ []) × (new.client_held ≡ []) × (new.server_held ≡ [])

-- or refuses it, for this reason at this place
abbrev pub IsNotTold : TalkState → Side → List ℕ → Fault → Type 0
IsNotTold old side p fault = (f : Fault) × (fault.place ≡ f.place) × (fault.reason ≡ f.reason) ×
    ((h : History) (M : List Message) → Stands old h M → IsFaultOf old.limits (h ++ on side (frame p)) f)

-- the talk is as it was after these messages, or it has refused what came then
abbrev pub WaitsAfter : TalkState → History → List Message → Type 0
WaitsAfter t h messages = Stands t h messages ⊎ ((bad : History) × (f : Fault) × Refuses t (h ++ bad) messages f)

abbrev pub KeepsTalk : TalkState → TalkState → Type 0
KeepsTalk old new = (h : History) (M : List Message) → Stands old h M → WaitsAfter new h M

-- as much waits as before, those left out too
abbrev pub KeepsWaiting : ThroughState → ThroughState → Type 0
KeepsWaiting old new = (left_out new.turns ≡ left_out old.turns) × KeepsTalk old.talk new.talk

-- no side shows a message, and none was left out or passed over last
abbrev pub KeepsNothing : ThroughState → Type 0
KeepsNothing t = ((side : Side) → left_on side t ≡ []) × ((side : Side) → kept_on side t.talk ≡ [])

-- The refused side shows no message and keeps no frame. Its refused frame isn't counted, nor are bytes of the piece, and it
-- is no newest one.
pub record KeepsNone (side : Side) (old new : ThroughState) : Type 0 where
  pub left : left_on side new ≡ []
  pub shown : kept_on side new.talk ≡ []
  pub frames : (stream_on side new).count ≡ (stream_on side old).count
  pub sizes : (stream_on side new).size ≡ (stream_on side old).size
  pub answered : new.answered ≡ old.answered

-- the frame that was left out last on the side is dropped
abbrev pub dropped : Side → ThroughState → ThroughState
dropped Client t = record t { client = record t.client { kept = [] } }
dropped Server t = record t { server = record t.server { kept = [] } }

-- so is the frame of the message that the side shows
abbrev pub silenced : Side → ThroughState → ThroughState
silenced side t = record t { talk = unshown side t.talk }

-- what the side shows, and what was left out on it, stays
abbrev pub LeavesSide : Side → ThroughState → ThroughState → Type 0
LeavesSide side old new = Leaves side old.talk new.talk × (stream_on side new ≡ stream_on side old)

-- the fault stays, at the side's own frame and offset, and the side is as it was
abbrev pub IsKeptAt : Side → StreamState → ℕ → Fault → Option Fault → Type 0
IsKeptAt side s used e kept = (e ≡ fault_of side s.count (s.size + used) e.place e.reason) × (kept ≡ Some e)

-- How such a connection ends, after these frames, of which the talk was given `given`: where both sides end with a whole
-- frame the requests that are left out and wait are unanswered too.
abbrev pub IsEndOf : ThroughState → Came → Came → Ending → Type 0
IsEndOf t all given (Whole n) = (t.client.held ≡ []) × (t.server.held ≡ []) ×
    (m : ℕ) × IsEnding t.talk.limits (told given) (Whole m) × (n ≡ m + left_out t.turns)
IsEndOf t all given (Cut Client frame got) = (t.client.held ≢ []) × (frame ≡ length (payloads Client all)) × (got ≡ length t.client.held)
IsEndOf t all given (Cut Server frame got) =
    (t.client.held ≡ []) × (t.server.held ≢ []) × (frame ≡ length (payloads Server all)) × (got ≡ length t.server.held)
IsEndOf t all given (Refused f) = ⊥
