-- The summary of a recording: the fault of its history if there is one, else its damage, else its history's ending.
use Rattle.std.specs.Prelude.{◌≡◌, ℕ, ◌⊎◌, List, take, Option, None, Some}
use Rattle.std.specs.Io.KnownBytes.{Consumes, IsAtEnd, Appends}
use Rattle.zk_talk.specs.{declared.limits.Limits.Limits, Held.Message, declared.message.Fault.Fault, declared.message.Ending.TheVariants.Refused, History.History, Conversation.Conversation, Good.Good, Good.IsOrder, Fault.IsFaultOf}
use Rattle.zk_talk.specs.{Ending.IsEnding, Answer.AreMessages}
use Rattle.zk_recordings.specs.{declared.parts.DamageAt.DamageAt, Reading.IsDecidedBy}
use Rattle.zk_listings.specs.declared.summary.Summary.{Summary}
use Rattle.zk_listings.specs.declared.summary.Summary.TheVariants.{Ended, Broken}
use Rattle.zk_recordings.specs.Recording.{Recording, Spells, history_of, limits_of, damage_of}

abbrev pub HasNoFault : Limits → History → Type 0
HasNoFault limits h = (fault : Fault) → IsFaultOf limits h fault → ⊥

-- a history, in a recording with this damage or with none, has this summary
abbrev pub ComesTo : Limits → History → Option DamageAt → Summary → Type 0
ComesTo limits h damage (Ended (Refused fault)) = IsFaultOf limits h fault
ComesTo limits h damage (Broken d) = HasNoFault limits h × (damage ≡ Some d)
ComesTo limits h damage (Ended ending) = (damage ≡ None) × IsEnding limits h ending

-- a good history has these messages, by the places of their last bytes
pub record IsGoodWith (limits : Limits) (h : History) (messages : List Message) : Type 0 where
  pub conversation : Conversation
  pub client_rest : List ℕ
  pub server_rest : List ℕ
  pub good : Good limits h conversation client_rest server_rest
  pub order : IsOrder limits h conversation messages

-- the messages of a history up to its fault, if there is one
abbrev pub HasMessages : Limits → History → List Message → Summary → Type 0
HasMessages limits h messages (Ended ending) = AreMessages limits h messages ending
HasMessages limits h messages (Broken d) = IsGoodWith limits h messages

-- under the limits that it has, or else those that are given
pub record IsOutcome (limits : Limits) (r : Recording) (messages : List Message) (summary : Summary) : Type 0 where
  pub comes_to : ComesTo (limits_of limits r) (history_of r) (damage_of r) summary
  pub messages_are : HasMessages (limits_of limits r) (history_of r) messages summary

-- a damage that stays, whatever follows
abbrev pub IsBroken : List ℕ → Recording → Type 0
IsBroken x r = (damage : DamageAt) × IsDecidedBy damage x r

-- whatever follows, the recording's fault or damage stays
abbrev pub IsDecided : Limits → List ℕ → Recording → Type 0
IsDecided limits x r = ((fault : Fault) × IsFaultOf (limits_of limits r) (history_of r) fault) ⊎ IsBroken x r

-- these bytes are just one recording
pub record IsJust (x : List ℕ) (r : Recording) : Type 0 where
  pub spells : Spells x r
  pub only : (s : Recording) → Spells x s → s ≡ r

-- what was read of a source with these bytes left before and after
pub record Reads (before after : Option (List ℕ)) (x : List ℕ) (r : Recording) : Type 0 where
  pub consumed : Consumes before after x
  pub just : IsJust x r

-- what was read has this summary and no other, and it is all up to the end, or it decides
pub record IsFound (limits : Limits) (before after : Option (List ℕ)) (messages : List Message) (summary : Summary) : Type 0 where
  pub bytes : List ℕ
  pub recording : Recording
  pub reads : Reads before after bytes recording
  pub is : IsOutcome limits recording messages summary
  pub only : (others : List Message) (other : Summary) → IsOutcome limits recording others other → (others ≡ messages) × (other ≡ summary)
  pub enough : IsAtEnd after ⊎ IsDecided limits bytes recording

-- what was read has these messages and no others, no fault, and no damage that stays whatever follows
pub record IsRunning (limits : Limits) (before after : Option (List ℕ)) (messages : List Message) : Type 0 where
  pub bytes : List ℕ
  pub recording : Recording
  pub reads : Reads before after bytes recording
  pub unbroken : IsBroken bytes recording → ⊥
  pub good : IsGoodWith (limits_of limits recording) (history_of recording) messages
  pub only : (others : List Message) (summary : Summary) → IsOutcome limits recording others summary → others ≡ messages

-- a writer's contents have grown by a front of the text
abbrev pub HasGrownIn : Option (List ℕ) → Option (List ℕ) → List ℕ → Type 0
HasGrownIn old new text = (k : ℕ) × Appends old new (take k text)

-- the recording has one list of messages and one summary at most
abbrev pub HasOneOutcome : Limits → Recording → Type 0
HasOneOutcome limits r = (messages others : List Message) (summary other : Summary) →
    IsOutcome limits r messages summary → IsOutcome limits r others other → (others ≡ messages) × (other ≡ summary)

-- what holds of the one recording's messages and summary holds of the other's
abbrev pub KeepsOutcome : Limits → Recording → Recording → Type 0
KeepsOutcome limits r s = (messages : List Message) (summary : Summary) → IsOutcome limits r messages summary → IsOutcome limits s messages summary

-- the recording comes to something
abbrev pub ComesToSome : Limits → Recording → Type 0
ComesToSome limits r = (messages : List Message) × (summary : Summary) × IsOutcome limits r messages summary
