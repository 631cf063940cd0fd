-- A connection that is seen late, from its beginning on, or from the end of a refused frame on.
use Rattle.std.specs.Prelude.{◌≡◌, ℕ, ◌≤◌, ◌⊎◌, List, [], ◌∷◌, ◌++◌, length, take, true}
use Rattle.zk_jute.specs.declared.fault.Reason.TheVariants.{StreamEnd, LengthRange}
use Rattle.zk_frames.specs.Framing.{frame}
use Rattle.zk_talk.specs.{declared.message.Side.Side, declared.message.Fault.Fault, History.History, History.on, Held.Message, Good.IsGood, Fault.side_limit}
use Rattle.zk_talk.specs.{Stands.TalkState, Stands.Stands, Stands.kept_on}
use Rattle.zk_through.specs.{Came.Came, Came.told, Unseen.made_up}
use Rattle.zk_through.specs.Runs.{ThroughState, Runs, IsRefused, KeepsNone, KeepsNothing, stream_on}

-- ---- Seen late
-- the talk was told this frame, where both sides were at the end of one, and it may come next
abbrev pub Hears : TalkState → Side → List ℕ → TalkState → Type 0
Hears old side p new = (h : History) (M : List Message) → Stands old h M → (old.client_held ≡ []) × (old.server_held ≡ []) →
    length p ≤ side_limit old.limits side → IsGood old.limits (h ++ on side (frame p)) →
    (m : Message) × Stands new (h ++ on side (frame p)) (M ++ m ∷ []) × (new.client_held ≡ []) × (new.server_held ≡ [])

-- the talk was told the connect pair that nobody sent, and keeps neither frame
pub record IsWelcomed (t : TalkState) : Type 0 where
  pub messages : List Message
  pub stands : Stands t (told made_up) messages
  pub held : (t.client_held ≡ []) × (t.server_held ≡ [])
  pub none : (side : Side) → kept_on side t ≡ []

-- Only the connect pair has come that nobody sent, and replies to what wasn't seen are passed over from then on. No side shows
-- or keeps anything.
pub record IsLate (t : ThroughState) : Type 0 where
  pub late : t.late ≡ true
  pub runs : (M : List Message) × Runs t (told made_up) made_up made_up M
  pub none : KeepsNothing t

-- ---- After a refused frame
-- no frame ends there: the length is out of range, or the side may send no more
abbrev pub HasNoEnd : Fault → Type 0
HasNoEnd f = (f.reason ≡ LengthRange) ⊎ (f.reason ≡ StreamEnd)

-- the first `n` bytes of the piece that was refused end the refused frame
abbrev pub EndsFrame : ℕ → ThroughState → Type 0
EndsFrame n refused = (old : ThroughState) (side : Side) (piece : List ℕ) (f : Fault) → IsRefused old side piece f refused → KeepsNone side old refused →
    (h : History) (c k : Came) (M : List Message) → Runs old h c k M →
    (n ≤ length piece) × (q : List ℕ) × ((stream_on side old).held ++ take n piece ≡ frame q)
