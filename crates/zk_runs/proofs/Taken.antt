-- Lines in the bytes that were read.
use Rattle.std.proofs.Common.{◌≡◌, ◌≢◌, ℕ, ◌+◌, ◌<◌, List, [], ◌∷◌, ◌++◌, length, take, drop, get_or, Option, refl, sym, ap, ◌∙◌, subst, append_assoc, append-nil, true, false, Bool, IfOk, OnErr}
use Rattle.std.specs.{List.All, List.AllByRecursion, Io.KnownBytes.append_known}
use Rattle.std.proofs.{lemmas.List.take_more, lemmas.List.take-append-drop, lemmas.List.same_from_push, lemmas.List.Concat.flat_map-append, Math.Seq.take-add, lemmas.List.Elements.recursion_from_All}
use Rattle.zk_talk.specs.{declared.limits.Limits.Limits, Held.Message, Said.SpeakerState}
use Rattle.zk_lines.specs.Lines.{line}
use Rattle.zk_runs.specs.{declared.build_result.Built.Built, declared.build_result.Built.TheVariants.Whole, declared.builder.Halt.Halt}
use Rattle.zk_runs.specs.declared.builder.Halt.TheVariants.{Refused, Fails}
use Rattle.zk_listings.specs.{declared.listing.RunFault.TheVariants.Memory, Outcome.HasGrownIn}
use Rattle.zk_runs.specs.Building.{IsLine, with_feed, fed, AreLines, last_unfed, AreAccepted, AreEnded, due_ending, recording_of, IsBuilt, without_ending, with_ending, behind_ending, other_ending, no_message, not_said}
use Rattle.zk_runs.specs.Accepting.{Took, HasTaken, StopsAfter, HaltsAt, BeginsIn, StopsIn, HaltsIn, BuildsAll, BeginsAll, some, all, answer_of}
use Rattle.zk_listings.proofs.{Feeding.grown-whole, Comings.all-append}
use Rattle.zk_runs.proofs.{Known.known-part, Accepted.built-good}
use Rattle.zk_frames.proofs.Cuts.{AllByRecursion-left, AllByRecursion-push}
use Rattle.zk_recordings.proofs.Lists.{flat_map-snoc}

fed-more : (lines : List (List ℕ)) (next : List ℕ) → fed (lines ++ next ∷ []) ≡ fed lines ++ with_feed next
fed-more lines next = flat_map-snoc with_feed lines next

-- some of the first lines, which are accepted
record Accepts (limits : Limits) (lines : List (List ℕ)) (messages : List Message) : Type 0 where
  pub front : List (List ℕ)
  pub rest : List (List ℕ)
  pub splits : lines ≡ front ++ rest
  pub accepted : AreAccepted limits front messages

accepts : (limits : Limits) (lines : List (List ℕ)) (messages : List Message) (built : Built) → IsBuilt limits lines messages built → Accepts limits lines messages
accepts limits lines messages built (without_ending a e) = record { front = lines; rest = []; splits = sym (append-nil lines); accepted = a }
accepts limits lines messages built (with_ending a e) = record { front = a.before; rest = due_ending messages ∷ []; splits = a.ends; accepted = a.accepted }
accepts limits lines messages built (behind_ending next b e) = record {
  front = b.ended.before;
  rest = due_ending messages ∷ next ∷ b.after;
  splits = b.stands ∙ ap (λ l. l ++ next ∷ b.after) b.ended.ends ∙ append_assoc b.ended.before (due_ending messages ∷ []) (next ∷ b.after);
  accepted = b.ended.accepted;
}
accepts limits lines messages built (other_ending next b dotted other e) = record { front = b.before; rest = next ∷ b.after; splits = b.stands; accepted = b.accepted }
accepts limits lines messages built (no_message next b plain none fault known e) = record { front = b.before; rest = next ∷ b.after; splits = b.stands; accepted = b.accepted }
accepts limits lines messages built (not_said m fits b fault is e) = record { front = b.before; rest = line m ∷ b.after; splits = b.stands; accepted = b.accepted }

-- a front was written of what is built of these lines
pub begins-of : (limits : Limits) (x : List ℕ) (before now : Option (List ℕ)) (lines : List (List ℕ)) (rest : List ℕ) (messages : List Message) (built : Built) →
    AllByRecursion IsLine lines → x ≡ fed lines ++ rest → IsBuilt limits lines messages built → HasGrownIn before now (recording_of messages) → BeginsIn limits x before now
begins-of limits x before now lines rest messages built each read is written =
    let a = accepts limits lines messages built is in
    record {
      lines = a.front;
      rest = fed a.rest ++ rest;
      each = AllByRecursion-left IsLine a.front a.rest (subst (AllByRecursion IsLine) a.splits each);
      read = read ∙ ap (λ l. fed l ++ rest) a.splits ∙ ap (λ l. l ++ rest) (flat_map-append with_feed a.front a.rest) ∙ append_assoc (fed a.front) (fed a.rest) rest;
      begins = record { messages = messages; accepted = a.accepted; written = written };
    }

module _ (limits : Limits) (x : List ℕ) (before now : Option (List ℕ)) (begun : List ℕ) (count : ℕ) (ended : Bool) (speaker : SpeakerState)
    (t : HasTaken limits x before now begun count ended speaker) where
  -- bytes with no line feed
  pub taken-more : (more : List ℕ) → IsLine more → HasTaken limits (x ++ more) before now (begun ++ more) count ended speaker
  taken-more more is = record {
    lines = t.lines;
    each = t.each;
    begun_is = all-append (λ b. b ≢ 10) begun more t.begun_is is;
    read = ap (λ l. l ++ more) t.read ∙ append_assoc (fed t.lines) begun more;
    took = t.took;
  }

  pub begins-here : BeginsIn limits x before now
  begins-here = begins-of limits x before now t.lines begun t.took.messages Whole t.each t.read
      (built-good limits t.lines t.took.messages ended t.took.knows.good) (grown-whole before now (recording_of t.took.messages) t.took.written)

  -- a growth is refused
  pub stops-more : (more : List ℕ) → StopsIn limits (x ++ more) before now count
  stops-more more = record {
    lines = t.lines;
    rest = begun ++ more;
    messages = t.took.messages;
    ended = ended;
    each = t.each;
    read = ap (λ l. l ++ more) t.read ∙ append_assoc (fed t.lines) begun more;
    good = t.took.knows.good;
    count_is = t.took.knows.count_is;
    written = t.took.written;
  }

  read-line : (x ++ 10 ∷ []) ≡ fed (t.lines ++ begun ∷ [])
  read-line = ap (λ l. l ++ 10 ∷ []) t.read ∙ append_assoc (fed t.lines) begun (10 ∷ []) ∙ sym (fed-more t.lines begun)

  -- the line feed came, and the line was taken
  pub taken-line : (after : Option (List ℕ)) (more : ℕ) (closed : Bool) (new : SpeakerState) → Took limits (t.lines ++ begun ∷ []) before after more closed new →
      HasTaken limits (x ++ 10 ∷ []) before after [] more closed new
  taken-line after more closed new took = record {
    lines = t.lines ++ begun ∷ [];
    each = AllByRecursion-push IsLine t.lines begun t.each t.begun_is;
    begun_is = tt;
    read = read-line ∙ sym (append-nil (fed (t.lines ++ begun ∷ [])));
    took = took;
  }

  -- the line feed came, and the line was refused
  pub halts-line : (rest : List ℕ) (halt : Halt) → HaltsAt limits t.lines begun before halt now → HaltsIn limits (x ++ 10 ∷ rest) before halt count now
  halts-line rest halt halts =
      let each = AllByRecursion-push IsLine t.lines begun t.each t.begun_is in
      let read : x ++ 10 ∷ rest ≡ fed (t.lines ++ begun ∷ []) ++ rest = sym (append_assoc x (10 ∷ []) rest) ∙ ap (λ l. l ++ rest) read-line in
      by halt halts each read where
        stop : StopsAfter limits t.lines before now → StopsIn limits (x ++ 10 ∷ rest) before now count
        stop s = record {
          lines = t.lines;
          rest = begun ++ 10 ∷ rest;
          messages = s.messages;
          ended = false;
          each = t.each;
          read = ap (λ l. l ++ 10 ∷ rest) t.read ∙ append_assoc (fed t.lines) begun (10 ∷ rest);
          good = s.accepted;
          count_is = t.took.knows.count_is;
          written = s.written;
        }

        begin : StopsAfter limits t.lines before now → BeginsIn limits (x ++ 10 ∷ rest) before now
        begin s = record {
          lines = t.lines;
          rest = begun ++ 10 ∷ rest;
          each = t.each;
          read = ap (λ l. l ++ 10 ∷ rest) t.read ∙ append_assoc (fed t.lines) begun (10 ∷ rest);
          begins = record { messages = s.messages; accepted = s.accepted; written = grown-whole before now (recording_of s.messages) s.written };
        }

        by : (halt : Halt) → HaltsAt limits t.lines begun before halt now → AllByRecursion IsLine (t.lines ++ begun ∷ []) → x ++ 10 ∷ rest ≡ fed (t.lines ++ begun ∷ []) ++ rest →
            HaltsIn limits (x ++ 10 ∷ rest) before halt count now
        by (Refused built) refuses each read = record { lines = t.lines ++ begun ∷ []; rest = rest; each = each; read = read; refuses = refuses }
        by (Fails Memory) s each read = stop s
        by (Fails _) s each read = begin s

  module _ (begun_some : begun ≢ []) (after : Option (List ℕ)) where
    all-lines : AreLines x (t.lines ++ begun ∷ [])
    all-lines = last_unfed t.lines begun t.each t.begun_is begun_some refl t.read

    -- the last line was taken
    pub builds-last : (more : ℕ) (closed : Bool) (new : SpeakerState) → Took limits (t.lines ++ begun ∷ []) before after more closed new → BuildsAll limits x before after Whole
    builds-last more closed new took = record {
      lines = t.lines ++ begun ∷ [];
      messages = took.messages;
      all = all-lines;
      is = built-good limits (t.lines ++ begun ∷ []) took.messages closed took.knows.good;
      written = took.written;
    }

  -- the last line was taken, and a front of its piece written
  module _ (begun_some : begun ≢ []) (due : List ℕ) (after : Option (List ℕ)) (new : SpeakerState) (more : ℕ) (written : HasGrownIn now after due) where
    pub begins-part : (closed : Bool) → Took limits (t.lines ++ begun ∷ []) before (append_known now due) more closed new → BeginsAll limits x before after
    begins-part false took = record {
      lines = t.lines ++ begun ∷ [];
      stand = all (last_unfed t.lines begun t.each t.begun_is begun_some refl t.read);
      begins = record {
        messages = took.messages;
        accepted = took.knows.good;
        written = known-part before now after due (recording_of t.took.messages) (recording_of took.messages) t.took.written took.written written;
      };
    }
    begins-part true took =
        let ends : AreEnded limits (t.lines ++ begun ∷ []) took.messages = took.knows.good in
        let same : t.lines ≡ ends.before = (same_from_push t.lines ends.before begun (due_ending took.messages) ends.ends).0 in
        record {
          lines = ends.before;
          stand = some begun (subst (AllByRecursion IsLine) same t.each) (t.read ∙ ap (λ l. fed l ++ begun) same);
          begins = record {
            messages = took.messages;
            accepted = ends.accepted;
            written = known-part before now after due (recording_of t.took.messages) (recording_of took.messages) t.took.written took.written written;
          };
        }

-- the last line was refused, or not taken
module _ (now : Option (List ℕ)) (begun : List ℕ) (count : ℕ) (ended : Bool) (speaker : SpeakerState) (begun_some : begun ≢ []) where
  pub answers-last : (halt : Halt) → ((limits : Limits) (lines : List (List ℕ)) (before : Option (List ℕ)) → Took limits lines before now count ended speaker → HaltsAt limits lines begun before halt now) →
      IfOk (answer_of halt) (λ built. (limits : Limits) (x : List ℕ) (before : Option (List ℕ)) → HasTaken limits x before now begun count ended speaker → BuildsAll limits x before now built)
  answers-last (Refused built) halts = λ limits x before t.
      let r = halts limits t.lines before t.took in
      record {
        lines = t.lines ++ begun ∷ [];
        messages = r.messages;
        all = all-lines limits x before now begun count ended speaker t begun_some now;
        is = r.is;
        written = r.written;
      }
  answers-last (Fails fault) halts = tt

  begins-by : (limits : Limits) (x : List ℕ) (before : Option (List ℕ)) (t : HasTaken limits x before now begun count ended speaker) →
      StopsAfter limits t.lines before now → BeginsAll limits x before now
  begins-by limits x before t s = record {
    lines = t.lines;
    stand = some begun t.each t.read;
    begins = record { messages = s.messages; accepted = s.accepted; written = grown-whole before now (recording_of s.messages) s.written };
  }

  pub begins-last : (halt : Halt) → ((limits : Limits) (lines : List (List ℕ)) (before : Option (List ℕ)) → Took limits lines before now count ended speaker → HaltsAt limits lines begun before halt now) →
      OnErr (answer_of halt) ((limits : Limits) (x : List ℕ) (before : Option (List ℕ)) → HasTaken limits x before now begun count ended speaker → BeginsAll limits x before now)
  begins-last (Refused built) halts = tt
  begins-last (Fails fault) halts = λ limits x before t. begins-by limits x before t (halts limits t.lines before t.took)

pub taken-nothing : (limits : Limits) (before now : Option (List ℕ)) (begun : List ℕ) (speaker : SpeakerState) → begun ≡ [] → Took limits [] before now 0 false speaker →
    HasTaken limits [] before now begun 0 false speaker
taken-nothing limits before now begun speaker none took = rw none (record { lines = []; each = tt; begun_is = tt; read = refl; took = took })

-- what stands up to a line feed, and what stands behind it
pub at-feed : (block : List ℕ) (used : ℕ) → used < length block → get_or block used 0 ≡ 10 → take (used + 1) block ≡ take used block ++ 10 ∷ []
at-feed block used within found = take_more block used 0 within ∙ ap (λ b. take used block ++ b ∷ []) found

pub behind-feed : (block : List ℕ) (used : ℕ) → used < length block → get_or block used 0 ≡ 10 → block ≡ take used block ++ 10 ∷ drop (used + 1) block
behind-feed block used within found =
    sym (take-append-drop (used + 1) block) ∙ ap (λ l. l ++ drop (used + 1) block) (at-feed block used within found) ∙ append_assoc (take used block) (10 ∷ []) (drop (used + 1) block)

-- a block as far as its first line feed
module _ (limits : Limits) (x : List ℕ) (before now : Option (List ℕ)) (begun : List ℕ) (count : ℕ) (ended : Bool) (speaker : SpeakerState)
    (t : HasTaken limits x before now begun count ended speaker) (block : List ℕ) (used : ℕ) (grown : List ℕ) (is : grown ≡ begun ++ take used block) (plain : All (λ b. b ≢ 10) (take used block)) where
  pub taken-front : HasTaken limits (x ++ take used block) before now grown count ended speaker
  taken-front = subst (λ b. HasTaken limits (x ++ take used block) before now b count ended speaker) (sym is)
      (taken-more limits x before now begun count ended speaker t (take used block) (recursion_from_All (λ b. b ≢ 10) (take used block) plain))

  module _ (within : used < length block) (found : get_or block used 0 ≡ 10) where
    pub halts-block : (halt : Halt) → HaltsAt limits taken-front.lines grown before halt now → HaltsIn limits (x ++ block) before halt count now
    halts-block halt halts =
        let whole : (x ++ take used block) ++ 10 ∷ drop (used + 1) block ≡ x ++ block =
        append_assoc x (take used block) (10 ∷ drop (used + 1) block) ∙ ap (λ b. x ++ b) (sym (behind-feed block used within found)) in
        subst (λ y. HaltsIn limits y before halt count now) whole
        (halts-line limits (x ++ take used block) before now grown count ended speaker taken-front (drop (used + 1) block) halt halts)

    pub taken-block : (after : Option (List ℕ)) (more : ℕ) (closed : Bool) (new : SpeakerState) → Took limits (taken-front.lines ++ grown ∷ []) before after more closed new →
        HasTaken limits (x ++ take (used + 1) block) before after [] more closed new
    taken-block after more closed new took =
        let whole : (x ++ take used block) ++ 10 ∷ [] ≡ x ++ take (used + 1) block =
        append_assoc x (take used block) (10 ∷ []) ∙ ap (λ b. x ++ b) (sym (at-feed block used within found)) in
        subst (λ y. HasTaken limits y before after [] more closed new) whole
        (taken-line limits (x ++ take used block) before now grown count ended speaker taken-front after more closed new took)

-- a block in parts
pub taken-further : (limits : Limits) (x block : List ℕ) (n m : ℕ) (before now : Option (List ℕ)) (begun : List ℕ) (count : ℕ) (ended : Bool) (speaker : SpeakerState) →
    HasTaken limits ((x ++ take n block) ++ take m (drop n block)) before now begun count ended speaker → HasTaken limits (x ++ take (n + m) block) before now begun count ended speaker
taken-further limits x block n m before now begun count ended speaker t =
    subst (λ y. HasTaken limits y before now begun count ended speaker)
    (append_assoc x (take n block) (take m (drop n block)) ∙ ap (λ b. x ++ b) (sym (take-add n m block))) t

pub halts-further : (limits : Limits) (x block : List ℕ) (n : ℕ) (before now : Option (List ℕ)) (halt : Halt) (count : ℕ) →
    HaltsIn limits ((x ++ take n block) ++ drop n block) before halt count now → HaltsIn limits (x ++ block) before halt count now
halts-further limits x block n before now halt count i =
    subst (λ y. HaltsIn limits y before halt count now) (append_assoc x (take n block) (drop n block) ∙ ap (λ b. x ++ b) (take-append-drop n block)) i

-- nothing was put, and no line was taken
pub halts-same : (limits : Limits) (x : List ℕ) (before written : Option (List ℕ)) (due due_now : List ℕ) (halt : Halt) (count count_now : ℕ) → due_now ≡ due → count_now ≡ count →
    HaltsIn limits x before halt count (append_known written due) → HaltsIn limits x before halt count_now (append_known written due_now)
halts-same limits x before written due due_now halt count count_now same kept h =
    subst (λ d. HaltsIn limits x before halt count_now (append_known written d)) (sym same) (subst (λ n. HaltsIn limits x before halt n (append_known written due)) (sym kept) h)
