-- A listing: a line for each message, and the last line.
use Rattle.std.specs.Prelude.{ℕ, List, [], ◌∷◌, ◌++◌, codes}
use Rattle.std.specs.{Fmt.decimal, List.flat_map}
use Rattle.zk_talk.specs.{Held.Message, declared.message.Ending.TheVariants.Whole}
use Rattle.zk_lines.specs.{Lines.line, Endings.ending_text}
use Rattle.zk_listings.specs.{declared.listing.Listing.Listing, declared.summary.Summary.Summary, declared.summary.Status.Status}
use Rattle.zk_listings.specs.declared.listing.Listing.TheVariants.{All, Last}
use Rattle.zk_recordings.specs.{declared.parts.DamageAt.DamageAt, declared.parts.Damage.Damage}
use Rattle.zk_recordings.specs.declared.parts.Damage.TheVariants.{BadHead, BadLimits, BadSide, BadTime, BadSize, Short}
use Rattle.zk_listings.specs.declared.summary.Summary.TheVariants.{Ended, Broken}
use Rattle.zk_listings.specs.declared.summary.Status.TheVariants.{Good, Bad}

abbrev pub damage_word : Damage → List ℕ
damage_word BadHead = codes "BadHead"
damage_word BadLimits = codes "BadLimits"
damage_word BadSide = codes "BadSide"
damage_word BadTime = codes "BadTime"
damage_word BadSize = codes "BadSize"
damage_word Short = codes "Short"

abbrev pub damage_text : DamageAt → List ℕ
damage_text d = codes ". recording offset=" ++ (decimal d.offset ++ (codes " reason=" ++ damage_word d.reason))

abbrev pub summary_text : Summary → List ℕ
summary_text (Ended ending) = ending_text ending
summary_text (Broken damage) = damage_text damage

-- a message's line with its line feed
abbrev pub message_line : Message → List ℕ
message_line message = line message ++ 10 ∷ []

-- what a listing writes of messages
abbrev pub text_of : Listing → List Message → List ℕ
text_of All messages = flat_map message_line messages
text_of Last messages = []

-- the last line with its line feed
abbrev pub last_line : Summary → List ℕ
last_line summary = summary_text summary ++ 10 ∷ []

-- good is the ending of a whole conversation alone
abbrev pub status_of : Summary → Status
status_of (Ended (Whole unanswered)) = Good
status_of _ = Bad
