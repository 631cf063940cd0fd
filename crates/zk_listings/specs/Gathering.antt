-- A recording whose last content, the beginning of a frame, isn't given to the talk yet.
use Rattle.std.specs.Prelude.{Vec, ◌≡◌, ◌≢◌, ℕ, ◌^◌, ◌+◌, ◌<◌, ◌≤◌, ◌⊎◌, List, [], ◌++◌, length, take, Option, None, Some}
use Rattle.std.specs.Io.KnownBytes.{Consumes}
use Rattle.zk_frames.specs.Framing.{IsBeginning}
use Rattle.zk_talk.specs.{declared.limits.Limits.Limits, declared.message.Fault.Fault, Fault.side_limit, Held.Message, History.History, History.on, Stands.TalkState, Stands.held_on}
use Rattle.zk_recordings.specs.{Recording.Recording, Recording.history_of, Recording.limits_of, Recording.place_of, Reading.IsAt, Reading.IsInContent}
use Rattle.zk_listings.specs.{declared.read_long_frames.NextRead.NextRead, declared.listing.Listing.Listing, declared.progress.Progress.Progress, declared.summary.Summary.Summary, Lines.text_of, Outcome.IsBroken}
use Rattle.zk_listings.specs.declared.read_long_frames.NextRead.TheVariants.{Block, Content}
use Rattle.zk_listings.specs.declared.listing.Listing.TheVariants.{All, Last}
use Rattle.zk_listings.specs.{Following.Decides, Following.Has, Following.HasRefused, Following.IsHeadedBy, Gathered.SideBytes}

-- the talk has come through the history before these bytes
abbrev pub HasAllBut : SideBytes → Limits → Option TalkState → History → List Message → Type 0
HasAllBut g limits talk h messages = (before : History) × (h ≡ before ++ on g.side g.bytes) × Has limits talk before messages

-- the bytes begin a frame of a side of which the talk holds none
abbrev pub Begins : Limits → TalkState → SideBytes → Type 0
Begins limits talk g = (held_on g.side talk ≡ []) × IsBeginning (side_limit limits g.side) g.bytes

-- there are none, or they are the beginning of a frame
abbrev pub IsGathered : Limits → Option TalkState → SideBytes → Type 0
IsGathered limits None g = g.bytes ≡ []
IsGathered limits (Some talk) g = (g.bytes ≡ []) ⊎ Begins limits talk g

-- the bytes x were read, and all but these are given to the talk
pub record FollowsBut (g : SideBytes) (limits : Limits) (x : List ℕ) (messages : List Message) (p : Progress) : Type 0 where
  pub options : p.limits ≡ limits
  pub recording : Recording
  pub at : IsAt p.reader x recording
  pub unbroken : IsBroken x recording → ⊥
  pub headed : IsHeadedBy p.talk (place_of recording)
  pub has : HasAllBut g (limits_of limits recording) p.talk (history_of recording) messages
  pub gathered : IsGathered (limits_of limits recording) p.talk g

-- ---- what some bytes of a side do to a talk and to the bytes before them

-- the bytes were given to the talk but for the beginning of a frame, or the talk has refused them
abbrev pub HasAllButOr : SideBytes → Limits → Option TalkState → Option Fault → History → List Message → Type 0
HasAllButOr g limits talk None h messages = HasAllBut g limits talk h messages × IsGathered limits talk g
HasAllButOr g limits talk (Some fault) h messages = HasRefused limits talk h messages fault

-- the same, whatever the last ones are
abbrev pub HasAllButUnless : SideBytes → Limits → Option TalkState → Option Fault → History → List Message → Type 0
HasAllButUnless g limits talk None h messages = HasAllBut g limits talk h messages
HasAllButUnless g limits talk (Some fault) h messages = HasRefused limits talk h messages fault

-- the talk has taken the bytes or refused them, but for those that wait after them
abbrev pub Gathers : Limits → TalkState → SideBytes → History → Option Fault → TalkState → SideBytes → Type 0
Gathers limits old g bytes refused new now = (h : History) (messages : List Message) → HasAllBut g limits (Some old) h messages →
    (more : List Message) × HasAllButOr now limits (Some new) refused (h ++ bytes) (messages ++ more)

-- the same of bytes that are given to the talk, if any are
abbrev pub Turns : Limits → TalkState → SideBytes → Option Fault → TalkState → SideBytes → Type 0
Turns limits old g refused new now = (h : History) (messages : List Message) → HasAllBut g limits (Some old) h messages →
    (more : List Message) × HasAllButUnless now limits (Some new) refused h (messages ++ more)

-- the same of content, or of bytes that are none, after the beginning of a frame
abbrev pub GathersIn : Limits → Option TalkState → SideBytes → History → Option Fault → Option TalkState → SideBytes → Type 0
GathersIn limits old g bytes refused new now = (h : History) (messages : List Message) → HasAllBut g limits old h messages → IsGathered limits old g →
    (more : List Message) × HasAllButOr now limits new refused (h ++ bytes) (messages ++ more)

-- ---- what a block does to a recording that is read

-- the recording goes on, but for the bytes that wait, or its summary is decided
abbrev pub ReachesBut : SideBytes → Limits → List ℕ → List Message → Progress → Option Summary → Type 0
ReachesBut g limits x messages p None = FollowsBut g limits x messages p
ReachesBut g limits x messages p (Some summary) = Decides limits x messages p.talk summary

-- with less than 2^62 bytes in all, the block was read: the recording goes on, or its summary is decided
abbrev pub AdvancesBut : SideBytes → Listing → Progress → List ℕ → List ℕ → Option Summary → SideBytes → Progress → List ℕ → Type 0
AdvancesBut g listing p lines block found g_now now lines_now =
    (limits : Limits) (x : List ℕ) (messages : List Message) → FollowsBut g limits x messages p → length x + length block < 2 ^ 62 →
    (more : List Message) × ReachesBut g_now limits (x ++ block) (messages ++ more) now found × (lines_now ≡ lines ++ text_of listing more)

-- no more is read, and the bytes that waited were given to the talk; nothing waits where lines are listed
abbrev pub Flushes : SideBytes → Progress → Option Summary → SideBytes → Progress → Type 0
Flushes g p found g_now now = (listing : Listing) (lines : List ℕ) → (listing ≡ All → g.bytes ≡ []) → AdvancesBut g listing p lines [] found g_now now lines

-- this number of first bytes of a block was taken, or the recording's summary was found in the block
abbrev pub StepsBut : SideBytes → Listing → Progress → List ℕ → List ℕ → ℕ → Option Summary → SideBytes → Progress → List ℕ → Type 0
StepsBut g listing p lines block used None g_now now lines_now = AdvancesBut g listing p lines (take used block) None g_now now lines_now
StepsBut g listing p lines block used (Some summary) g_now now lines_now = AdvancesBut g listing p lines block (Some summary) g_now now lines_now

-- some bytes were read and taken, as many as it says, and the lines of their messages were appended
abbrev pub HasTaken : {R Z : Type 0} → Listing → (R → Option (List ℕ)) → R → R → SideBytes → Progress → Vec ℕ Z → ℕ × Option Summary → SideBytes → Progress → Vec ℕ Z → Type 0
HasTaken listing remaining reader reader_now g p lines t g_now now lines_now = (bytes : List ℕ) × (length bytes ≡ t.0) ×
    Consumes (remaining reader) (remaining reader_now) bytes × AdvancesBut g listing p lines.items bytes t.1 g_now now lines_now.items

-- this number of the bytes was read after others, which waited, and taken; no lines are listed
abbrev pub TakesRead : Progress → SideBytes → ℕ → Option Summary → Progress → SideBytes → Type 0
TakesRead p g count found now g_now = (before : SideBytes) (bytes lines : List ℕ) → length bytes ≡ count →
    g ≡ record before { bytes = before.bytes ++ bytes } → AdvancesBut before Last p lines bytes found g_now now lines

-- ---- the next read

-- a block, or content of the side of these bytes, and not more than is to come
abbrev pub IsNextRead : Progress → SideBytes → NextRead → Type 0
IsNextRead p g (Block most) = (0 < most) × (most ≤ 65536)
IsNextRead p g (Content most) = (0 < most) × (most ≤ 65536) × ((left : ℕ) × IsInContent p.reader g.side left × (most ≤ left)) × (p.talk ≢ None) × (g.bytes ≢ [])
