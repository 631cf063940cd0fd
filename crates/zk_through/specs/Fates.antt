-- What is known of a whole frame by its number and its payload, and what becomes of it.
use Rattle.std.specs.Prelude.{◌≡◌, ℕ, ℤ, Bool, ◌+◌, ◌≤◌, ◌<◌, List, Option, Some, None, Ok, true, false}
use Rattle.zk_records.specs.declared.profile.Profile.{Profile}
use Rattle.zk_talk.specs.{Conversation.load, Stands.TalkState, Stands.WhereItStands}
use Rattle.zk_through.specs.{declared.turn.Turn.Turn, declared.turns.Due.Due, declared.fate.ClientFate.ClientFate, declared.fate.ServerFate.ServerFate}
use Rattle.zk_through.specs.declared.turns.Due.TheVariants as dues
use Rattle.zk_through.specs.declared.fate.ClientFate.TheVariants as asks
use Rattle.zk_through.specs.declared.fate.ServerFate.TheVariants as answers
use Rattle.zk_through.specs.LeftOut.{xid_of, zxid_of, err_of, has_turn, IsForeign}
use Rattle.zk_through.specs.Turns.{TurnsState, IsDue, IsLacked, IsBadTurn, IsEarlier, Judges, TellsFrame, turn_of, left_out, matched_after}
use Rattle.zk_through.specs.Runs.{IsRequestOf, Weighs}

-- ---- Its header
-- the frame of this number and payload is a later one, with a header of this many bytes under such an xid
abbrev pub IsAhead : ℕ → ℕ → List ℕ → Type 0
IsAhead size number p = (0 < number) × (has_turn size p ≡ true)

-- it is no such frame
abbrev pub IsNotAhead : ℕ → ℕ → List ℕ → Type 0
IsNotAhead size number p = 0 < number → has_turn size p ≡ false

-- the client's frame of this number and payload, if it is such a one, isn't left out
abbrev pub HasNoForeign : Profile → ℕ → List ℕ → Type 0
HasNoForeign profile number p = IsAhead 8 number p → IsForeign profile p → ⊥

-- the request that it is, if it is such a one
abbrev pub TellsRequest : ℕ → List ℕ → Option Turn → Type 0
TellsRequest number p (Some turn) = IsAhead 8 number p × (turn ≡ turn_of false (number, p))
TellsRequest number p None = IsNotAhead 8 number p

-- this request of the client's, if that is left out
abbrev pub TellsLacking : Profile → List ℕ → Option Turn → Option Turn → Type 0
TellsLacking profile p None out = out ≡ None
TellsLacking profile p (Some turn) (Some out) = (out ≡ record turn { out = true }) × IsForeign profile p
TellsLacking profile p (Some turn) None = IsForeign profile p → ⊥

-- the xid of the server's frame of this number and payload, if it is such a one
abbrev pub TellsReply : ℕ → List ℕ → Option ℤ → Type 0
TellsReply number q (Some xid) = IsAhead 16 number q × (xid ≡ xid_of q)
TellsReply number q None = IsNotAhead 16 number q

-- ---- Its weight
-- what the client's frame of this number and payload weighs: none if it is the first, or no request of the profile
pub record IsWeightOf (profile : Profile) (number : ℕ) (p : List ℕ) (weight : ℕ) : Type 0 where
  pub found : 0 < weight → (0 < number) × IsRequestOf profile p weight
  pub only : 0 < number → (w : ℕ) → IsRequestOf profile p w → w ≡ weight

-- or no more than this, if it is a request of the profile
abbrev pub WeighsAtMost : Profile → ℕ → List ℕ → ℕ → Type 0
WeighsAtMost profile number p most = 0 < number → (w : ℕ) → IsRequestOf profile p w → w ≤ most

-- no more than this, and exactly this if it is more than the room
abbrev pub IsWeighed : Profile → ℕ → List ℕ → ℕ → ℕ → Type 0
IsWeighed profile number p room weight = WeighsAtMost profile number p weight × (room < weight → IsWeightOf profile number p weight)

-- with so much more no more would wait than may, or more
abbrev pub HasRoom : TalkState → TurnsState → ℕ → Type 0
HasRoom talk turns size = WhereItStands talk (λ v client_rest server_rest. load v.client v.server + left_out turns + size ≤ talk.limits.waiting)

abbrev pub HasNoRoom : TalkState → TurnsState → ℕ → Type 0
HasNoRoom talk turns size = WhereItStands talk (λ v client_rest server_rest. talk.limits.waiting < load v.client v.server + left_out turns + size)

-- ---- What becomes of it
-- the client's frame of this number and payload
abbrev pub HasClientFate : TalkState → TurnsState → ℕ → List ℕ → ClientFate → Type 0
HasClientFate talk turns number p asks.Full = (0 < number) × (size : ℕ) × Weighs talk.limits.profile p size × HasNoRoom talk turns size
HasClientFate talk turns number p (asks.LeftOut turn) = IsAhead 8 number p × (turn ≡ turn_of true (number, p)) × IsForeign talk.limits.profile p ×
    HasRoom talk turns 1 × (left_out turns + 1 ≤ talk.limits.waiting)
HasClientFate talk turns number p (asks.Told turn) = TellsRequest number p turn × HasNoForeign talk.limits.profile number p ×
    (size : ℕ) × WeighsAtMost talk.limits.profile number p size × (0 < size → HasRoom talk turns size)

-- the reply with this xid isn't passed over
abbrev pub IsNotOver : Bool → Bool → TurnsState → Option ℤ → Type 0
IsNotOver late matched turns xid = late ≡ true → IsEarlier matched turns xid → ⊥

-- the server's; `after` says whether a reply of the plain lane came then, where the connection is seen late
abbrev pub HasServerFate : Bool → Bool → TurnsState → ℕ → List ℕ → ServerFate → Bool → Type 0
HasServerFate late matched turns number q (answers.Unseen xid zxid err) after = (ahead : Option ℤ) × TellsReply number q ahead ×
    (late ≡ true) × IsEarlier matched turns ahead × (xid ≡ xid_of q) × (zxid ≡ zxid_of q) × (err ≡ err_of q) × (after ≡ matched)
HasServerFate late matched turns number q (answers.Refused reason) after = (xid : ℤ) × TellsReply number q (Some xid) ×
    IsNotOver late matched turns (Some xid) × IsBadTurn turns xid reason
HasServerFate late matched turns number q (answers.LeftOut turn) after = TellsReply number q (Some turn.xid) ×
    IsNotOver late matched turns (Some turn.xid) × IsDue turns turn.xid turn × IsLacked turn × (late ≡ true → after ≡ matched_after (Some turn.xid) matched)
HasServerFate late matched turns number q (answers.Told xid frame) after = TellsReply number q xid × IsNotOver late matched turns xid ×
    (due : Due) × ((turn : Turn) → due ≡ dues.LeftOut turn → ⊥) × Judges turns xid (Ok due) × TellsFrame due number frame ×
    (late ≡ true → after ≡ matched_after xid matched)
