-- The recording that is built of a listing, and what two results of the same lines have in common.
use Rattle.std.specs.Prelude.{◌≡◌, ◌≢◌, ℕ, List, [], ◌++◌, map, Option, Some}
use Rattle.std.specs.Io.KnownBytes.{Appends}
use Rattle.zk_talk.specs.{declared.limits.Limits.Limits, Held.Message, declared.message.Ending.TheVariants.Whole as whole, History.History, Conversation.Conversation, Good.Good, Good.IsOrder, Ending.IsEnding}
use Rattle.zk_lines.specs.Lines.{line, Fits}
use Rattle.zk_runs.specs.declared.build_result.Built.{Built}
use Rattle.zk_runs.specs.declared.build_result.Built.TheVariants.{Whole, LineRefused, SayRefused}
use Rattle.zk_listings.specs.{declared.listing.Listing.Listing, declared.listing.Listing.TheVariants.All, declared.summary.Status.Status, declared.summary.Status.TheVariants.Good as good_end, declared.summary.Summary.TheVariants.Ended}
use Rattle.zk_recordings.specs.Recording.{First, InPieces, Recording, Breaks, nothing}
use Rattle.zk_listings.specs.{Lines.text_of, Lines.last_line, Outcome.HasGrownIn, Running.HasListed}
use Rattle.zk_runs.specs.Building.{AreLines, IsBuilt, HasBuilt, HasBegunBuilding, recording_of, piece_of, IsNextLine, IsDotted}

-- the listing of a conversation that ends whole, with `unanswered` requests without a reply
abbrev pub whole_listing : List Message → ℕ → List ℕ
whole_listing messages unanswered = text_of All messages ++ last_line (Ended (whole unanswered))

-- a piece for each message, and nothing after them
abbrev pub one_a_piece : List Message → Recording
one_a_piece messages = Breaks (InPieces First (map piece_of messages)) nothing

-- both refuse no line, or both refuse one line: for what it holds, or for one reason to say
abbrev pub AreAlike : Built → Built → Type 0
AreAlike Whole Whole = Unit {0}
AreAlike (LineRefused at fault) (LineRefused other cause) = at ≡ other
AreAlike (SayRefused at fault) (SayRefused other cause) = (at ≡ other) × (fault ≡ cause)
AreAlike _ _ = ⊥

-- the line after those that are accepted begins with no dot, and is that of no message
abbrev pub IsForeign : Limits → List (List ℕ) → List Message → Type 0
IsForeign limits lines messages =
    (next : List ℕ) × IsNextLine limits lines messages next × (IsDotted next → ⊥) × ((m : Message) → Fits m → next ≢ line m)

-- a conversation that ends whole, however it came: its messages in their order, and the number of requests without a reply
pub record WholeConversation : Type 0 where
  pub limits : Limits
  pub history : History
  pub conversation : Conversation
  pub messages : List Message
  pub unanswered : ℕ
  pub good : Good limits history conversation [] []
  pub order : IsOrder limits history conversation messages
  pub ending : IsEnding limits history (whole unanswered)

-- the listing of a conversation that ends whole
abbrev pub listing_of : WholeConversation → List ℕ
listing_of w = whole_listing w.messages w.unanswered

-- the listing of a conversation that ends whole, or its last line alone
abbrev pub listed_by : Listing → WholeConversation → List ℕ
listed_by listing w = text_of listing w.messages ++ last_line (Ended (whole w.unanswered))

-- the bytes are lines of which this is built
pub record AreBuilt (limits : Limits) (x : List ℕ) (messages : List Message) (built : Built) : Type 0 where
  pub lines : List (List ℕ)
  pub are : AreLines x lines
  pub is : IsBuilt limits lines messages built

-- a run over these bytes that returns no fault returns this, and has written the recording of these messages
abbrev pub BuildsJust : Limits → List ℕ → List Message → Built → Type 0
BuildsJust limits x messages built = (unread contents contents_now : Option (List ℕ)) (answered : Built) →
    HasBuilt limits (Some x) unread contents contents_now answered → (answered ≡ built) × Appends contents contents_now (recording_of messages)

-- a run over these bytes that returns no fault has written the recording of these messages, and returns this, but for what a
-- refused line that is no message's holds
abbrev pub BuildsAlike : Limits → List ℕ → List Message → Built → Type 0
BuildsAlike limits x messages built = (unread contents contents_now : Option (List ℕ)) (answered : Built) →
    HasBuilt limits (Some x) unread contents contents_now answered → AreAlike built answered × Appends contents contents_now (recording_of messages)

-- a run over these bytes that stops has written a front of the recording of these messages
abbrev pub BuildsWithin : Limits → List ℕ → List Message → Type 0
BuildsWithin limits x messages = (unread contents contents_now : Option (List ℕ)) →
    HasBegunBuilding limits (Some x) unread contents contents_now → HasGrownIn contents contents_now (recording_of messages)

-- a run over these bytes that returns no fault has written this text, and its status is good
abbrev pub ListsJust : Limits → Listing → List ℕ → List ℕ → Type 0
ListsJust limits listing x text = (unread contents contents_now : Option (List ℕ)) (status : Status) →
    HasListed limits listing (Some x) unread contents contents_now status → Appends contents contents_now text × (status ≡ good_end)

-- two things that are built of the same lines
pub record BuiltTwice : Type 0 where
  pub limits : Limits
  pub lines : List (List ℕ)
  pub messages : List Message
  pub others : List Message
  pub built : Built
  pub other : Built
  pub one : IsBuilt limits lines messages built
  pub two : IsBuilt limits lines others other

-- a run that stopped, and what is built of the bytes that it read
pub record Stopped : Type 0 where
  pub limits : Limits
  pub unread : Option (List ℕ)
  pub unread_now : Option (List ℕ)
  pub contents : Option (List ℕ)
  pub contents_now : Option (List ℕ)
  pub begun : HasBegunBuilding limits unread unread_now contents contents_now
  pub messages : List Message
  pub built : Built
  pub are : AreBuilt limits begun.bytes messages built
