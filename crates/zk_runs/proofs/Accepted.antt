-- One line more.
use Rattle.std.proofs.Common.{◌≡◌, ◌≢◌, ℕ, ◌+◌, ◌<◌, List, [], ◌∷◌, ◌++◌, length, map, Option, ◌⊎◌, inl, inr, refl, sym, ap, ◌∙◌, subst, append_assoc, append-nil, arith, length-append, true, false, Bool}
use Rattle.std.specs.{Io.KnownBytes.Appends, Io.KnownBytes.append_known, List.flat_map, Int.w32, Int.to_be_bytes}
use Rattle.std.proofs.lemmas.List.{map-append, length-map}
use Rattle.zk_talk.specs.{declared.limits.Limits.Limits, Held.Message, declared.message.Ending.TheVariants.Whole as whole, declared.say.SayFault.SayFault, declared.say.SayFault.TheVariants.NoMemory as no_memory, Ending.unanswered}
use Rattle.zk_talk.specs.Said.{SpeakerState, Says, AreSaid, MaySay, IsSayFault, conversation_of, payload_of, side_of}
use Rattle.zk_items.specs.{declared.fault.LineFault.LineFault, declared.fault.LineReason.LineReason, declared.fault.LineReason.TheVariants.NoMemory}
use Rattle.zk_lines.specs.{Lines.line, Lines.Fits, Endings.ending_text}
use Rattle.zk_talk.specs.{declared.message.Side.Side, Payloads.client_payload, Payloads.server_payload}
use Rattle.zk_talk.specs.declared.message.MessageOf.TheVariants.{Client, Server}
use Rattle.zk_frames.specs.Framing.{frame}
use Rattle.zk_frames.proofs.Cuts.{AllByRecursion-push, length-frame}
use Rattle.zk_runs.specs.declared.build_result.Built.TheVariants.{Whole, LineRefused, SayRefused}
use Rattle.zk_runs.specs.Building.{head, built_bytes, IsDotted, AreAccepted, AreEnded, IsNextLine, IsBuilt, without_ending, with_ending, behind_ending, other_ending, no_message, not_said, ending_fault, due_ending, piece_of, recording_of}
use Rattle.zk_recordings.specs.Recording.{no_time}
use Rattle.zk_runs.specs.Accepting.{AreGood, Took, Refuses, StopsAfter, HaltsAt, line_halt, line_halt_by, say_halt}
use Rattle.zk_listings.proofs.Bytes.{Appends-then}
use Rattle.zk_recordings.proofs.Lists.{flat_map-snoc}
use Rattle.zk_runs.proofs.Known.{known-whole}

pub recording-more : (messages : List Message) (m : Message) → recording_of (messages ++ m ∷ []) ≡ recording_of messages ++ built_bytes (piece_of m)
recording-more messages m =
    ap (λ ps. head ++ flat_map built_bytes ps) (map-append piece_of messages (m ∷ []))
    ∙ ap (λ l. head ++ l) (flat_map-snoc built_bytes (map piece_of messages) (piece_of m))
    ∙ sym (append_assoc head (flat_map built_bytes (map piece_of messages)) (built_bytes (piece_of m)))

accepted-more : (limits : Limits) (lines : List (List ℕ)) (messages : List Message) (m : Message) →
    AreAccepted limits lines messages → Fits m → AreSaid limits (messages ++ m ∷ []) → AreAccepted limits (lines ++ line m ∷ []) (messages ++ m ∷ [])
accepted-more limits lines messages m a fits are_said = record {
  are = ap (λ l. l ++ line m ∷ []) a.are ∙ sym (map-append line messages (m ∷ []));
  fit = AllByRecursion-push Fits messages m a.fit fits;
  said = are_said;
}

pub next-line : (limits : Limits) (lines : List (List ℕ)) (messages : List Message) (next : List ℕ) →
    AreAccepted limits lines messages → IsNextLine limits (lines ++ next ∷ []) messages next
next-line limits lines messages next a = record { before = lines; after = []; stands = refl; accepted = a }

-- a frame's length fits into its piece's number
pub short-frame : (limits : Limits) (before : List Message) (m : Message) → MaySay limits before m → length (frame (payload_of m)) < 4294967296
short-frame limits before (Client f) may = omega (arith, length-frame (client_payload f), may.1, limits.in_range.1)
short-frame limits before (Server s) may = omega (arith, length-frame (server_payload s), may.1, limits.in_range.3)

-- before the first message
pub nothing-accepted : (limits : Limits) → AreAccepted limits [] []
nothing-accepted limits = record { are = refl; fit = tt; said = λ before x after e. absurd (none before x after e) } where
  none : (before : List Message) (x : Message) (after : List Message) → [] ≡ before ++ x ∷ after → ⊥
  none [] x after e = cc
  none (b ∷ before) x after e = cc

-- how many lines of messages there are
counted : (limits : Limits) (lines : List (List ℕ)) (messages : List Message) → AreAccepted limits lines messages → length lines ≡ length messages
counted limits lines messages a = ap length a.are ∙ length-map messages line

pub took-nothing : (limits : Limits) (before now : Option (List ℕ)) (speaker : SpeakerState) → Says speaker [] → speaker.limits ≡ limits → Appends before now head →
    Took limits [] before now 0 false speaker
took-nothing limits before now speaker says limits_are written = record {
  messages = [];
  knows = record { good = nothing-accepted limits; says = says; limits_are = limits_are; count_is = refl };
  written = subst (Appends before now) (sym (append-nil head)) written;
}

-- what was taken is built whole
pub built-good : (limits : Limits) (lines : List (List ℕ)) (messages : List Message) (ended : Bool) → AreGood ended limits lines messages → IsBuilt limits lines messages Whole
built-good limits lines messages false good = without_ending good refl
built-good limits lines messages true good = with_ending good refl

module _ (limits : Limits) (lines : List (List ℕ)) (before now : Option (List ℕ)) (count : ℕ) (speaker : SpeakerState) (t : Took limits lines before now count false speaker) where
  -- nothing was written of the next line
  pub stops-here : StopsAfter limits lines before now
  stops-here = record { messages = t.messages; accepted = t.knows.good; written = t.written }

  module _ (m : Message) (fits : Fits m) (new : SpeakerState) (limits_are : new.limits ≡ speaker.limits)
      (says : (all : List Message) → Says speaker all → MaySay speaker.limits all m × Says new (all ++ m ∷ [])) where
    said-more : AreSaid limits (t.messages ++ m ∷ [])
    said-more = subst (λ l. AreSaid l (t.messages ++ m ∷ [])) (limits_are ∙ t.knows.limits_are) ((says t.messages t.knows.says).1).said

    -- the message was said, and its piece written
    pub took-message : (after : Option (List ℕ)) → Appends now after (built_bytes (piece_of m)) → Took limits (lines ++ line m ∷ []) before after (count + 1) false new
    took-message after written = record {
      messages = t.messages ++ m ∷ [];
      knows = record {
        good = accepted-more limits lines t.messages m t.knows.good fits said-more;
        says = (says t.messages t.knows.says).1;
        limits_are = limits_are ∙ t.knows.limits_are;
        count_is = omega (arith, t.knows.count_is, length-append lines (line m ∷ []));
      };
      written = subst (Appends before after) (sym (recording-more t.messages m)) (Appends-then before now after _ _ t.written written);
    }

  -- the message can't be said
  module _ (m : Message) (fits : Fits m) where
    unsaid : (fault : SayFault) → IsSayFault speaker.limits t.messages m fault → Refuses limits (lines ++ line m ∷ []) before now (SayRefused (count + 1) fault)
    unsaid fault is = record {
      messages = t.messages;
      refused = tt;
      is = not_said m fits (next-line limits lines t.messages (line m) t.knows.good) fault (subst (λ l. IsSayFault l t.messages m fault) t.knows.limits_are is)
          (ap (λ n. SayRefused n fault) (omega (arith, t.knows.count_is, counted limits lines t.messages t.knows.good)));
      written = t.written;
    }

    unsaid-by : (fault : SayFault) → fault ≢ no_memory → (fault ≡ no_memory) ⊎ ((all : List Message) → Says speaker all → IsSayFault speaker.limits all m fault) →
        Refuses limits (lines ++ line m ∷ []) before now (SayRefused (count + 1) fault)
    unsaid-by fault not (inl e) = absurd (not e)
    unsaid-by fault not (inr is) = unsaid fault (is t.messages t.knows.says)

    pub halts-unsaid : (fault : SayFault) → (fault ≡ no_memory) ⊎ ((all : List Message) → Says speaker all → IsSayFault speaker.limits all m fault) →
        HaltsAt limits lines (line m) before (say_halt (count + 1) fault) now
    halts-unsaid no_memory w = stops-here
    halts-unsaid fault w = unsaid-by fault (λ e. cc) w

  module _ (next : List ℕ) (n : ℕ) (left : (all : List Message) → Says speaker all → n ≡ unanswered (conversation_of all)) where
    due : ending_text (whole n) ≡ due_ending t.messages
    due = ap (λ k. ending_text (whole k)) (left t.messages t.knows.says)

    -- the ending line
    pub took-ending : next ≡ ending_text (whole n) → Took limits (lines ++ next ∷ []) before now (count + 1) true speaker
    took-ending e = record {
      messages = t.messages;
      knows = record {
        good = record { before = lines; ends = ap (λ l. lines ++ l ∷ []) (e ∙ due); accepted = t.knows.good };
        says = t.knows.says;
        limits_are = t.knows.limits_are;
        count_is = omega (arith, t.knows.count_is, length-append lines (next ∷ []));
      };
      written = t.written;
    }

    -- another one
    pub halts-not_due : IsDotted next → next ≢ ending_text (whole n) → HaltsAt limits lines next before (line_halt (count + 1) ending_fault) now
    halts-not_due dotted other = record {
      messages = t.messages;
      refused = tt;
      is = other_ending next (next-line limits lines t.messages next t.knows.good) dotted (λ e. other (e ∙ sym due))
          (ap (λ k. LineRefused k ending_fault) (omega (arith, t.knows.count_is, counted limits lines t.messages t.knows.good)));
      written = t.written;
    }

  -- a line of no message
  module _ (next : List ℕ) (fault : LineFault) (plain : IsDotted next → ⊥) (none : (m : Message) → Fits m → next ≡ line m → fault.reason ≡ NoMemory) where
    unread : fault.reason ≢ NoMemory → Refuses limits (lines ++ next ∷ []) before now (LineRefused (count + 1) fault)
    unread known = record {
      messages = t.messages;
      refused = tt;
      is = no_message next (next-line limits lines t.messages next t.knows.good) plain (λ m fits e. known (none m fits e)) fault known
          (ap (λ k. LineRefused k fault) (omega (arith, t.knows.count_is, counted limits lines t.messages t.knows.good)));
      written = t.written;
    }

    unread-by : (r : LineReason) → fault.reason ≡ r → HaltsAt limits lines next before (line_halt_by r (count + 1) fault) now
    unread-by NoMemory e = stops-here
    unread-by _ e = unread (λ k. cc)

    pub halts-unread : HaltsAt limits lines next before (line_halt (count + 1) fault) now
    halts-unread = unread-by fault.reason refl

-- a line behind the ending line
pub halts-behind : (limits : Limits) (lines : List (List ℕ)) (before now : Option (List ℕ)) (count : ℕ) (speaker : SpeakerState) (next : List ℕ) →
    Took limits lines before now count true speaker → HaltsAt limits lines next before (line_halt (count + 1) ending_fault) now
halts-behind limits lines before now count speaker next t =
    let ended : AreEnded limits lines t.messages = t.knows.good in
    let long = ap length ended.ends ∙ length-append ended.before (due_ending t.messages ∷ []) in
    record {
      messages = t.messages;
      refused = tt;
      is = behind_ending next (record { before = lines; after = []; stands = refl; ended = ended })
          (ap (λ k. LineRefused k ending_fault) (omega (arith, t.knows.count_is, long, counted limits ended.before t.messages ended.accepted)));
      written = t.written;
    }

-- what is due was written
pub took-written : (limits : Limits) (lines : List (List ℕ)) (before now after : Option (List ℕ)) (due : List ℕ) (count : ℕ) (ended : Bool) (speaker : SpeakerState) →
    Took limits lines before (append_known now due) count ended speaker → Appends now after due → Took limits lines before after count ended speaker
took-written limits lines before now after due count ended speaker t w =
    record { messages = t.messages; knows = t.knows; written = known-whole before now after due (recording_of t.messages) t.written w }
