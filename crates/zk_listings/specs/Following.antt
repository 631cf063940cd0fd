-- How far a recording was read, with the conversation in it, and which lines were appended.
use Rattle.std.specs.Prelude.{◌≡◌, ℕ, List, [], ◌++◌, take, Option, None, Some}
use Rattle.zk_talk.specs.{declared.limits.Limits.Limits, Held.Message, declared.message.Ending.TheVariants.Refused, declared.message.Fault.Fault, History.History, Stands.TalkState, Stands.Stands, Stands.Refuses}
use Rattle.zk_listings.specs.{declared.listing.Listing.Listing, declared.progress.Progress.Progress, declared.summary.Summary.Summary, Lines.text_of, Outcome.IsGoodWith, Outcome.IsOutcome, Outcome.IsBroken, Outcome.IsDecided}
use Rattle.zk_listings.specs.declared.summary.Summary.TheVariants.{Ended, Broken}
use Rattle.zk_recordings.specs.Recording.{Place, Recording, Spells, place_of, history_of, limits_of}
use Rattle.zk_recordings.specs.{Reader.ReaderState, Reading.IsAt, Reading.IsDamagedBy, Reading.IsHeaded, Reading.IsUndamaged}

-- the history of a talk: none, if no content has come
abbrev pub Has : Limits → Option TalkState → History → List Message → Type 0
Has limits None h messages = (h ≡ []) × (messages ≡ [])
Has limits (Some talk) h messages = Stands talk h messages × (talk.limits ≡ limits)

-- a talk begins after a whole head
abbrev pub IsHeadedBy : Option TalkState → Place → Type 0
IsHeadedBy None place = Unit {0}
IsHeadedBy (Some talk) place = IsHeaded place

pub record Talks (limits : Limits) (r : Recording) (messages : List Message) (talk : Option TalkState) : Type 0 where
  pub headed : IsHeadedBy talk (place_of r)
  pub has : Has (limits_of limits r) talk (history_of r) messages

-- the bytes x were read, the messages in them are these, and there is no fault in them, nor a damage whatever follows
pub record Follows (limits : Limits) (x : List ℕ) (messages : List Message) (p : Progress) : Type 0 where
  pub options : p.limits ≡ limits
  pub recording : Recording
  pub at : IsAt p.reader x recording
  pub unbroken : IsBroken x recording → ⊥
  pub talks : Talks limits recording messages p.talk

-- the fault of a talk that refused a history stays
abbrev pub HasRefused : Limits → Option TalkState → History → List Message → Fault → Type 0
HasRefused limits None h messages fault = ⊥
HasRefused limits (Some talk) h messages fault = Refuses talk h messages fault × (talk.limits ≡ limits)

-- if a history ends by a fault, the talk has refused it
abbrev pub IsKept : Limits → Option TalkState → History → List Message → Summary → Type 0
IsKept limits talk h messages (Ended (Refused fault)) = HasRefused limits talk h messages fault
IsKept limits talk h messages _ = Unit {0}

-- these bytes are a recording with this summary
pub record Finishes (limits : Limits) (x : List ℕ) (messages : List Message) (talk : Option TalkState) (summary : Summary) : Type 0 where
  pub recording : Recording
  pub spells : Spells x recording
  pub is : IsOutcome limits recording messages summary
  pub kept : IsKept (limits_of limits recording) talk (history_of recording) messages summary

-- these bytes are a recording with this summary, which stays whatever follows
pub record Decides (limits : Limits) (x : List ℕ) (messages : List Message) (talk : Option TalkState) (summary : Summary) : Type 0 where
  pub finishes : Finishes limits x messages talk summary
  pub decided : IsDecided limits x finishes.recording

-- these bytes are a recording that begins with these messages
pub record Opens (limits : Limits) (x : List ℕ) (messages : List Message) : Type 0 where
  pub recording : Recording
  pub spells : Spells x recording
  pub front : History
  pub rest : History
  pub splits : history_of recording ≡ front ++ rest
  pub good : IsGoodWith (limits_of limits recording) front messages

-- ---- what some bytes do to a talk, and to the lines before them

-- the talk has taken the bytes, or refused them
abbrev pub Judges : TalkState → History → List Message → Option Fault → Type 0
Judges talk h messages None = Stands talk h messages
Judges talk h messages (Some fault) = Refuses talk h messages fault

-- the talk has taken the bytes, or refused them, and the lines of their messages were appended
abbrev pub Takes : Listing → TalkState → List ℕ → History → Option Fault → TalkState → List ℕ → Type 0
Takes listing old lines bytes refused new lines_now = (h : History) (messages : List Message) → Stands old h messages →
    (more : List Message) × Judges new (h ++ bytes) (messages ++ more) refused × (lines_now ≡ lines ++ text_of listing more)

-- how a conversation that is refused ends a recording
abbrev pub ended_by : Option Fault → Option Summary
ended_by None = None
ended_by (Some fault) = Some (Ended (Refused fault))

-- the talk has taken the bytes, or refused them, which is the summary that was found
abbrev pub TakesTo : Listing → TalkState → List ℕ → History → Option Summary → TalkState → List ℕ → Type 0
TakesTo listing old lines bytes found new lines_now =
    (refused : Option Fault) × (found ≡ ended_by refused) × Takes listing old lines bytes refused new lines_now

-- the bytes were given to the talk, which begins with its first content
abbrev pub HasOr : Limits → Option TalkState → Option Fault → History → List Message → Type 0
HasOr limits talk None h messages = Has limits talk h messages
HasOr limits talk (Some fault) h messages = HasRefused limits talk h messages fault

abbrev pub TakesContent : Limits → Listing → Option TalkState → List ℕ → History → Option Fault → Option TalkState → List ℕ → Type 0
TakesContent limits listing old lines bytes refused new lines_now = (h : History) (messages : List Message) → Has limits old h messages →
    (more : List Message) × HasOr limits new refused (h ++ bytes) (messages ++ more) × (lines_now ≡ lines ++ text_of listing more)

-- ---- what a block does to a recording that is read

-- the summary that stays, whatever follows: by the fault for which the talk refused, or else by the damage of what was read; or
-- there is none yet
abbrev pub IsLastingSummary : ReaderState → Option Fault → Option Summary → Type 0
IsLastingSummary reader (Some fault) found = found ≡ ended_by (Some fault)
IsLastingSummary reader None None = IsUndamaged reader
IsLastingSummary reader None (Some (Broken damage)) = IsDamagedBy reader damage
IsLastingSummary reader None (Some (Ended ending)) = ⊥

-- the recording goes on, or its summary is decided
abbrev pub Reaches : Limits → List ℕ → List Message → Progress → Option Summary → Type 0
Reaches limits x messages p None = Follows limits x messages p
Reaches limits x messages p (Some summary) = Decides limits x messages p.talk summary

-- the block was read: the recording goes on, or its summary is decided, and the lines of its messages were appended
abbrev pub Advances : Listing → Progress → List ℕ → List ℕ → Option Summary → Progress → List ℕ → Type 0
Advances listing p lines block found now lines_now =
    (limits : Limits) (x : List ℕ) (messages : List Message) → Follows limits x messages p →
    (more : List Message) × Reaches limits (x ++ block) (messages ++ more) now found × (lines_now ≡ lines ++ text_of listing more)

-- this number of first bytes of a block was taken, or the recording's summary was found in the block
abbrev pub Steps : Listing → Progress → List ℕ → List ℕ → ℕ → Option Summary → Progress → List ℕ → Type 0
Steps listing p lines block used None now lines_now = Advances listing p lines (take used block) None now lines_now
Steps listing p lines block used (Some summary) now lines_now = Advances listing p lines block (Some summary) now lines_now
