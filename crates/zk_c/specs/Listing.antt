-- The listing of a conversation that is there whole.
use Rattle.std.specs.Prelude.{◌≡◌, ℕ, ◌⊎◌, List, [], ◌∷◌, ◌++◌}
use Rattle.std.specs.List.{flat_map}
use Rattle.zk_talk.specs.{Held.Message, History.History, Answer.AreMessages, Ending.IsEnding, declared.message.Ending.Ending, declared.limits.Limits.Limits, Ranges.AreLimits}
use Rattle.zk_records.specs.{declared.profile.Profile.Profile, Codes.profile_number}
use Rattle.zk_lines.specs.{Lines.line, Endings.ending_text}
use Rattle.zk_c.specs.{declared.answer.LineAnswer.LineAnswer, declared.pieces.Piece.Piece, Answer.no_line, Cut.AreCut, Handle.AreNumbers, Handle.TellsText}

-- a message's line with its line feed
abbrev pub message_line : Message → List ℕ
message_line message = line message ++ 10 ∷ []

-- the lines of the messages, and of the ending
abbrev pub listing : List Message → Ending → List ℕ
listing messages ending = flat_map message_line messages ++ (ending_text ending ++ 10 ∷ [])

-- the text is the listing of the history's messages and ending
pub record IsListing (limits : Limits) (h : History) (text : List ℕ) : Type 0 where
  pub messages : List Message
  pub ending : Ending
  pub are : AreMessages limits h messages ending
  pub ends : IsEnding limits h ending
  pub is : text ≡ listing messages ending

-- the pieces are a history, and the text is its listing
pub record IsListed (limits : Limits) (pieces : List Piece) (bytes text : List ℕ) : Type 0 where
  pub history : History
  pub cut : AreCut pieces bytes history
  pub is : (h : History) → AreCut pieces bytes h → IsListing limits h text

-- the answer is the listing under limits of these numbers, or that memory was refused
pub data TellsListing (client server waiting profile : ℕ) (h : History) (before after : List ℕ) (answer : LineAnswer) : Type 0 where
  told : (limits : Limits) (text : List ℕ) → AreNumbers client server waiting profile limits → IsListing limits h text →
      TellsText text before after answer → TellsListing client server waiting profile h before after answer
  lacks : answer ≡ no_line 5 → after ≡ before → TellsListing client server waiting profile h before after answer

-- if the numbers are those of limits, the answer is the listing under them, or that memory was refused
abbrev pub ListsUnder : ℕ → ℕ → ℕ → ℕ → History → List ℕ → List ℕ → LineAnswer → Type 0
ListsUnder client server waiting profile h before after answer =
    (p : Profile) → profile ≡ profile_number p → AreLimits client server waiting → TellsListing client server waiting profile h before after answer

-- nothing is listed: numbers are out of their ranges, or memory was refused
pub record ListsNothing (before after : List ℕ) (answer : LineAnswer) : Type 0 where
  pub told : (answer ≡ no_line 67) ⊎ (answer ≡ no_line 5)
  pub same : after ≡ before
