-- What is returned for a list of pieces.
use Rattle.std.specs.Prelude.{◌≡◌, ℕ, List, [], ◌++◌, Option, Some, None}
use Rattle.std.specs.{List.flat_map, Borrow.Bor}
use Rattle.zk_talk.specs.{declared.message.Side.Side, Held.Message, declared.limits.Limits.Limits, declared.message.Fault.Fault, declared.message.Ending.Ending, History.History, History.on, Conversation.Conversation}
use Rattle.zk_talk.specs.declared.message.Ending.TheVariants.{Whole, Cut, Refused}
use Rattle.zk_talk.specs.{Good.Good, Good.IsOrder, Fault.IsFaultOf, Ending.IsEnding, Ending.unanswered, Stands.TalkState, Stands.Stands, Stands.Refuses}

abbrev pub history_of : List (Side × Bor (List ℕ)) → History
history_of pieces = flat_map (λ (p : Side × Bor (List ℕ)). on p.0 p.1.now) pieces

-- the messages of the history up to its fault, if it has one
abbrev pub AreMessages : Limits → History → List Message → Ending → Type 0
AreMessages limits h messages (Refused fault) = (is : IsFaultOf limits h fault) × IsOrder limits is.before is.conversation messages
AreMessages limits h messages (Cut side frame got) = (v : Conversation) × (client_rest : List ℕ) ×
    (server_rest : List ℕ) × Good limits h v client_rest server_rest × IsOrder limits h v messages
AreMessages limits h messages (Whole n) = (v : Conversation) × (client_rest : List ℕ) × (server_rest : List ℕ) ×
    Good limits h v client_rest server_rest × IsOrder limits h v messages

-- a history that spells a conversation ends whole, with its messages in the order of their last bytes
abbrev pub EndsWhole : Limits → History → List Message → Ending → Type 0
EndsWhole limits h messages ending = (v : Conversation) → Good limits h v [] [] → IsOrder limits h v messages × (ending ≡ Whole (unanswered v))

-- no other order than this is that of the messages of such a history
abbrev pub IsOnlyOrder : Limits → History → List Message → Type 0
IsOnlyOrder limits h messages = (v : Conversation) (M : List Message) → Good limits h v [] [] → IsOrder limits h v M → messages ≡ M

-- those begin with these
abbrev pub IsFront : List Message → List Message → Type 0
IsFront these those = (more : List Message) × (those ≡ these ++ more)

-- whatever messages are returned for the history, and however it ends, they begin with these
abbrev pub StandFirst : List Message → Limits → History → Type 0
StandFirst these limits h = (all : List Message) (ending : Ending) → AreMessages limits h all ending → IsFront these all

-- nothing but these messages and this ending is returned for the history
abbrev pub IsReadAs : Limits → History → List Message → Ending → Type 0
IsReadAs limits h messages ending = (answered : List Message) (end : Ending) → AreMessages limits h answered end →
    IsEnding limits h end → (answered ≡ messages) × (end ≡ ending)

-- a talk after all of a piece, with the messages so far, or with the history's fault
abbrev pub TakesAll : TalkState → List Message → Side → List ℕ → Option Fault → TalkState → List Message → Type 0
TakesAll old before side bytes None new after = (h : History) → Stands old h before → Stands new (h ++ on side bytes) after
TakesAll old before side bytes (Some fault) new after = (h : History) → Stands old h before → Refuses new (h ++ on side bytes) after fault
