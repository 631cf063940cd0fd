-- The line of the first impossible byte of the body in which a recording's fault is found.
use Rattle.std.specs.Prelude.{◌≡◌, ℕ, ◌+◌, List, [], ◌∷◌, ◌++◌, Option, None, Some, MatchOption, codes}
use Rattle.std.specs.{Borrow.Bor, Fmt.decimal, Io.KnownBytes.Appends}
use Rattle.zk_answers.specs.declared.layout.Layout.{Layout}
use Rattle.zk_earliest.specs.Earliest.{IsEarliestOf}
use Rattle.zk_talk.specs.{declared.limits.Limits.Limits, declared.message.Ending.TheVariants.Refused, declared.message.Fault.Fault, Held.Message, declared.message.Side.Side, Fault.IsFaultOf, History.History}
use Rattle.zk_talk.specs.Refused.{header_size, IsRefusedBody}
use Rattle.zk_listings.specs.{declared.listing.Listing.TheVariants.Last, declared.summary.Status.Status, declared.summary.Summary.Summary, declared.summary.Summary.TheVariants.Ended, Lines.last_line, Lines.status_of}
use Rattle.zk_listings.specs.{Outcome.IsFound, Outcome.HasGrownIn, Running.HasStopped}
use Rattle.zk_recordings.specs.Recording.{history_of, limits_of}

-- the byte's place in the payload; a dash, if no body has that length
abbrev pub answer_text : Side → Option ℕ → List ℕ
answer_text side None = codes "-"
answer_text side (Some count) = decimal (header_size side + count)

abbrev pub answer_line : Side → Option ℕ → List ℕ
answer_line side answer = codes ". earliest=" ++ (answer_text side answer ++ 10 ∷ [])

-- what comes after the last line of a fault: the line of its body, or nothing if it is in none
pub data IsTailOf (limits : Limits) (h : History) (fault : Fault) (is : IsFaultOf limits h fault) : List ℕ → Type 0 where
  in_body : (layout : Layout) (body : List ℕ) → IsRefusedBody limits h fault is layout body → (answer : Option ℕ) → IsEarliestOf layout body answer →
      IsTailOf limits h fault is (answer_line fault.side answer)
  in_none : ((layout : Layout) (body : List ℕ) → IsRefusedBody limits h fault is layout body → ⊥) → IsTailOf limits h fault is []

-- what comes after any last line of a listing
abbrev pub IsTail : Limits → History → Summary → List ℕ → Type 0
IsTail limits h (Ended (Refused fault)) tail = (is : IsFaultOf limits h fault) × IsTailOf limits h fault is tail
IsTail limits h _ tail = tail ≡ []

-- what was read has this summary, and this comes after its last line
pub record IsFoundWith (limits : Limits) (unread unread_now : Option (List ℕ)) (summary : Summary) (tail : List ℕ) : Type 0 where
  pub messages : List Message
  pub found : IsFound limits unread unread_now messages summary
  pub is : IsTail (limits_of limits found.recording) (history_of found.recording) summary tail

-- the last line of the listing of what was read was written, and then the line of the first impossible byte
pub record HasToldEarliest (limits : Limits) (unread unread_now contents contents_now : Option (List ℕ)) (status : Status) : Type 0 where
  pub summary : Summary
  pub tail : List ℕ
  pub found : IsFoundWith limits unread unread_now summary tail
  pub written : Appends contents contents_now (last_line summary ++ tail)
  pub status_is : status ≡ status_of summary

-- a run that stopped early: as a check without that line, or a front of both lines was written
pub data HasStoppedEarliest (limits : Limits) (unread unread_now contents contents_now : Option (List ℕ)) : Type 0 where
  before_lines : HasStopped limits Last unread unread_now contents contents_now → HasStoppedEarliest limits unread unread_now contents contents_now
  in_lines : (summary : Summary) (tail : List ℕ) → IsFoundWith limits unread unread_now summary tail →
      HasGrownIn contents contents_now (last_line summary ++ tail) →
      HasStoppedEarliest limits unread unread_now contents contents_now

-- ---- what the talk returns

-- the body in which the fault of a history is found, if it is in one
abbrev pub TellsBody : Limits → History → Fault → Option (Layout × Bor (List ℕ)) → Type 0
TellsBody limits h fault body = (is : IsFaultOf limits h fault)
    × MatchOption body ((layout : Layout) (bytes : List ℕ) → IsRefusedBody limits h fault is layout bytes → ⊥)
    (λ b. IsRefusedBody limits h fault is b.0 b.1.now)

-- what is written after a last line, if the talk returns this body
abbrev pub IsToldOf : Summary → Option (Layout × Bor (List ℕ)) → List ℕ → Type 0
IsToldOf summary None tail = tail ≡ []
IsToldOf (Ended (Refused fault)) (Some body) tail = (answer : Option ℕ) × IsEarliestOf body.0 body.1.now answer × (tail ≡ answer_line fault.side answer)
IsToldOf _ (Some body) tail = tail ≡ []
