-- What a run has read and written when it returns.
use Rattle.std.specs.Prelude.{◌≡◌, ℕ, ◌+◌, ◌^◌, ◌<◌, ◌≤◌, ◌⊎◌, List, ◌++◌, Bool, true, false, Option, Result, IfOk, IsErrOf}
use Rattle.std.specs.Io.KnownBytes.{IsAtEnd, Appends}
use Rattle.zk_talk.specs.{declared.limits.Limits.Limits, Held.Message, History.History, Stands.TalkState}
use Rattle.zk_listings.specs.{declared.listing.Listing.Listing, declared.listing.RunFault.RunFault, declared.progress.Progress.Progress, declared.summary.Summary.Summary, declared.summary.Status.Status}
use Rattle.zk_listings.specs.declared.listing.RunFault.TheVariants.{Read, Write, Memory}
use Rattle.zk_listings.specs.{Lines.text_of, Lines.last_line, Lines.status_of, Following.IsKept, Following.Opens}
use Rattle.zk_recordings.specs.Recording.{Recording, history_of, limits_of}
use Rattle.zk_listings.specs.Outcome.{Reads, IsGoodWith, IsOutcome, IsDecided, IsFound, IsRunning, HasGrownIn}

-- the reader failed, or was read as often as a run may
abbrev pub IsSpent : Bool → ℕ → ℕ → Type 0
IsSpent failed reads reads_now = (failed ≡ true) ⊎ (reads + 4294967296 ≤ reads_now)

-- a reader that was read this often, and a writer, neither of which has failed
pub record AreReady (reads : ℕ) (reader_failed writer_failed : Bool) : Type 0 where
  pub reader : reader_failed ≡ false
  pub few : reads < 2 ^ 62
  pub writer : writer_failed ≡ false

-- what a run with this result has done to its reader, which was read this often before and after, and to its writer
pub record LeavesDevices {X : Type 0} (result : Result X RunFault) (reads reads_now : ℕ) (reader_failed writer_failed : Bool) : Type 0 where
  pub spent : IsErrOf result Read → IsSpent reader_failed reads reads_now
  -- a failed write, or one that takes nothing, is reported as that
  pub write : IsErrOf result Write → writer_failed ≡ true
  pub intact : IfOk result (λ _. writer_failed ≡ false)
  pub spared : IsErrOf result Memory → writer_failed ≡ false
  -- a failed read is never passed over, and no run reads more often than that
  pub alive : IfOk result (λ _. reader_failed ≡ false)
  pub memory : IsErrOf result Memory → reader_failed ≡ false
  pub bound : reads_now ≤ reads + 4294967296

-- after a failed read, or if a run would have to read once more than it may
abbrev pub OnRead : {X : Type 0} → Result X RunFault → Type 0 → Type 0
OnRead result P = IsErrOf result Read → P

-- the lines of all messages in what was read were written, it has this summary, and if it is refused, the talk has refused it
pub record HasFoundBy (limits : Limits) (listing : Listing) (unread unread_now contents contents_now : Option (List ℕ))
    (talk : Option TalkState) (summary : Summary) : Type 0 where
  pub messages : List Message
  pub found : IsFound limits unread unread_now messages summary
  pub written : Appends contents contents_now (text_of listing messages)
  pub kept : IsKept (limits_of limits found.recording) talk (history_of found.recording) messages summary

-- the same, of the summary and the progress that a run returns
abbrev pub HasFoundWith : Limits → Listing → Option (List ℕ) → Option (List ℕ) → Option (List ℕ) → Option (List ℕ) → Summary × Progress → Type 0
HasFoundWith limits listing unread unread_now contents contents_now found =
    HasFoundBy limits listing unread unread_now contents contents_now found.1.talk found.0

-- the listing of what was read was written
pub record HasListed (limits : Limits) (listing : Listing) (unread unread_now contents contents_now : Option (List ℕ)) (status : Status) : Type 0 where
  pub messages : List Message
  pub summary : Summary
  pub found : IsFound limits unread unread_now messages summary
  pub written : Appends contents contents_now (text_of listing messages ++ last_line summary)
  pub status_is : status ≡ status_of summary

-- the lines of all messages in what was read were written, and no more
pub record HasReached (limits : Limits) (listing : Listing) (unread unread_now contents contents_now : Option (List ℕ)) : Type 0 where
  pub messages : List Message
  pub running : IsRunning limits unread unread_now messages
  pub written : Appends contents contents_now (text_of listing messages)

-- what was read begins with some messages, and a front of their lines was written
pub record HasBegunLines (limits : Limits) (listing : Listing) (unread unread_now contents contents_now : Option (List ℕ)) : Type 0 where
  pub messages : List Message
  pub bytes : List ℕ
  pub opens : Opens limits bytes messages
  pub reads : Reads unread unread_now bytes opens.recording
  pub written : HasGrownIn contents contents_now (text_of listing messages)

-- a front was written of the lines of the first messages of a recording, or of its whole listing
pub data HasWrittenIn (limits : Limits) (listing : Listing) (bytes : List ℕ) (recording : Recording)
    (unread_now contents contents_now : Option (List ℕ)) : Type 0 where
  in_messages : (messages : List Message) (front rest : History) → history_of recording ≡ front ++ rest →
      IsGoodWith (limits_of limits recording) front messages →
      HasGrownIn contents contents_now (text_of listing messages) → HasWrittenIn limits listing bytes recording unread_now contents contents_now
  in_last_line : (messages : List Message) (summary : Summary) → IsOutcome limits recording messages summary →
      IsAtEnd unread_now ⊎ IsDecided limits bytes recording →
      HasGrownIn contents contents_now (text_of listing messages ++ last_line summary) →
      HasWrittenIn limits listing bytes recording unread_now contents contents_now

-- whatever summary the bytes that were read have, a front of that listing was written
pub record HasStopped (limits : Limits) (listing : Listing) (unread unread_now contents contents_now : Option (List ℕ)) : Type 0 where
  pub bytes : List ℕ
  pub recording : Recording
  pub reads : Reads unread unread_now bytes recording
  pub fronts : (messages : List Message) (summary : Summary) → IsOutcome limits recording messages summary →
      HasGrownIn contents contents_now (text_of listing messages ++ last_line summary)
  pub written : HasWrittenIn limits listing bytes recording unread_now contents contents_now
