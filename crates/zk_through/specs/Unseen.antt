-- Which replies are to requests that weren't seen, of a connection that is seen late.
use Rattle.std.specs.Prelude.{◌≡◌, ◌≢◌, ◌≤◌, ◌⊎◌, ℕ, List, [], ◌∷◌, ◌++◌, length, replicate, Bool, true, false}
use Rattle.std.specs.{List.list_any, Ordering.int_eq}
use Rattle.zk_waiting.specs.{declared.lane.Lane.Lane, declared.lane.Lane.TheVariants.Plain}
use Rattle.zk_talk.specs.declared.message.Side.{Side}
use Rattle.zk_talk.specs.declared.message.Side.TheVariants.{Client, Server}
use Rattle.zk_through.specs.Came.{Came, payloads}
use Rattle.zk_through.specs.LeftOut.{xid_of, has_turn, lane_in, asked, replied}

-- The reply of this lane, after these frames, is to a request before them. Pings have one xid, auths another, and setWatches
-- a third, so of these it is where none waits. In the plain lane it is where none was answered yet, and none has its xid.
abbrev pub IsToEarlier : Lane → Came → List ℕ → Type 0
IsToEarlier Plain before q = (replied Plain before ≡ 0) × (list_any (λ (x : ℕ × List ℕ). int_eq (xid_of x.1) (xid_of q)) (asked Plain before) ≡ false)
IsToEarlier lane before q = length (asked lane before) ≤ replied lane before

-- the frame, after these, is such a reply
abbrev pub IsUnseen : Came → Side × List ℕ → Type 0
IsUnseen before (Client, p) = ⊥
IsUnseen before (Server, q) = (payloads Server before ≢ []) × (has_turn 16 q ≡ true) × IsToEarlier (lane_in q) before q

-- `came` are those of `all`, after `before`, that aren't such replies
abbrev pub SeenAfter : Came → Came → Came → Type 0
SeenAfter before [] came = came ≡ []
SeenAfter before (x ∷ all) came =
    (IsUnseen before x × SeenAfter before all came) ⊎
    ((IsUnseen before x → ⊥) × (rest : Came) × (came ≡ x ∷ rest) × SeenAfter (before ++ x ∷ []) all rest)

-- of a connection that is seen late such replies are passed over, and of another none is
abbrev pub Seen : Bool → Came → Came → Type 0
Seen false all came = came ≡ all
Seen true all came = SeenAfter [] all came

-- the frame, after these, isn't passed over
abbrev pub IsSeen : Bool → Came → Side × List ℕ → Type 0
IsSeen late before x = late ≡ true → IsUnseen before x → ⊥

-- whether a reply of the plain lane came
abbrev pub TellsMatched : Bool → Came → Type 0
TellsMatched true came = replied Plain came ≢ 0
TellsMatched false came = replied Plain came ≡ 0

-- The connect request and the answer to it that such a connection begins with, which nobody sent: each number is -1, and the
-- passwords are null.
abbrev pub made_up : Came
made_up = (Client, replicate 28 255) ∷ (Server, replicate 20 255) ∷ []
