-- What is written of a block whose pieces were gathered: all, or a front if the write fails.
use Rattle.std.proofs.Common.{◌≡◌, ℕ, List, [], ◌++◌, Option, subst, Result, Ok, Err, OnOk, IfErr, Bool}
use Rattle.std.specs.Io.KnownBytes.{Appends, append_known}
use Rattle.zk_talk.specs.{declared.limits.Limits.Limits, Said.SpeakerState}
use Rattle.zk_runs.specs.{declared.build_result.Built.TheVariants.Whole, declared.builder.Builder.Builder, declared.builder.Halt.Halt, Building.recording_of, Stepping.GathersIn, Stepping.StopsGathering, Stepping.TakesIn, Stepping.HaltsWithin}
use Rattle.zk_runs.specs.declared.builder.Halt.TheVariants.{Refused, Fails}
use Rattle.zk_listings.specs.{declared.listing.RunFault.TheVariants.Memory, Outcome.HasGrownIn}
use Rattle.zk_runs.specs.Accepting.{Took, HasTaken, BeginsIn, HaltsIn}
use Rattle.zk_runs.proofs.{Known.known-none, Known.known-whole, Known.known-part, Known.known-front, Accepted.built-good, Accepted.took-written, Taken.begins-of}

-- nothing is due
pub taken-unput : (limits : Limits) (x : List ℕ) (before was : Option (List ℕ)) (due : List ℕ) → due ≡ [] → (begun : List ℕ) (count : ℕ) (ended : Bool) (speaker : SpeakerState) →
    HasTaken limits x before was begun count ended speaker → HasTaken limits x before (append_known was due) begun count ended speaker
taken-unput limits x before was due none begun count ended speaker t =
    subst (λ now. HasTaken limits x before now begun count ended speaker) (known-none was due none) t

pub took-unput : (limits : Limits) (lines : List (List ℕ)) (before was : Option (List ℕ)) (due : List ℕ) → due ≡ [] → (count : ℕ) (ended : Bool) (speaker : SpeakerState) →
    Took limits lines before was count ended speaker → Took limits lines before (append_known was due) count ended speaker
took-unput limits lines before was due none count ended speaker t = subst (λ now. Took limits lines before now count ended speaker) (known-none was due none) t

module _ (limits : Limits) (x : List ℕ) (before was now : Option (List ℕ)) (due : List ℕ) where
  begins-as : (b : BeginsIn limits x before (append_known was due)) → HasGrownIn before now (recording_of b.begins.messages) → BeginsIn limits x before now
  begins-as b written = record { lines = b.lines; rest = b.rest; each = b.each; read = b.read; begins = record { messages = b.begins.messages; accepted = b.begins.accepted; written = written } }

  -- all of it
  module _ (w : Appends was now due) where
    pub taken-written : (begun : List ℕ) (count : ℕ) (ended : Bool) (speaker : SpeakerState) → HasTaken limits x before (append_known was due) begun count ended speaker →
        HasTaken limits x before now begun count ended speaker
    taken-written begun count ended speaker t = record {
      lines = t.lines;
      each = t.each;
      begun_is = t.begun_is;
      read = t.read;
      took = took-written limits t.lines before was now due count ended speaker t.took w;
    }

    begins-written : BeginsIn limits x before (append_known was due) → BeginsIn limits x before now
    begins-written b = let g = b.begins.written in begins-as b (g.0, known-whole before was now due _ g.1 w)

    pub halts-written : (halt : Halt) (count : ℕ) → HaltsIn limits x before halt count (append_known was due) → HaltsIn limits x before halt count now
    halts-written (Refused built) count r = record {
      lines = r.lines;
      rest = r.rest;
      each = r.each;
      read = r.read;
      refuses = record {
        messages = r.refuses.messages;
        refused = r.refuses.refused;
        is = r.refuses.is;
        written = known-whole before was now due (recording_of r.refuses.messages) r.refuses.written w;
      };
    }
    halts-written (Fails Memory) count s = record {
      lines = s.lines;
      rest = s.rest;
      messages = s.messages;
      ended = s.ended;
      each = s.each;
      read = s.read;
      good = s.good;
      count_is = s.count_is;
      written = known-whole before was now due (recording_of s.messages) s.written w;
    }
    halts-written (Fails _) count b = begins-written b

  -- a front of it
  module _ (sent : List ℕ) (s : Appends before was sent) (w : HasGrownIn was now due) where
    taken-part : (begun : List ℕ) (count : ℕ) (ended : Bool) (speaker : SpeakerState) → HasTaken limits x before (append_known was due) begun count ended speaker → BeginsIn limits x before now
    taken-part begun count ended speaker t =
        let all = recording_of t.took.messages in
        begins-of limits x before now t.lines begun t.took.messages Whole t.each t.read
        (built-good limits t.lines t.took.messages ended t.took.knows.good) (known-part before was now due sent all s t.took.written w)

    begins-part : BeginsIn limits x before (append_known was due) → BeginsIn limits x before now
    begins-part b = begins-as b (known-front before was now due sent (recording_of b.begins.messages) s b.begins.written w)

    halts-part : (halt : Halt) (count : ℕ) → HaltsIn limits x before halt count (append_known was due) → BeginsIn limits x before now
    halts-part (Refused built) count r =
        let messages = r.refuses.messages in
        begins-of limits x before now r.lines r.rest messages built r.each r.read r.refuses.is
        (known-part before was now due sent (recording_of messages) s r.refuses.written w)
    halts-part (Fails Memory) count h =
        begins-of limits x before now h.lines h.rest h.messages Whole h.each h.read (built-good limits h.lines h.messages h.ended h.good)
        (known-part before was now due sent (recording_of h.messages) s h.written w)
    halts-part (Fails _) count b = begins-part b

    pub gathered-part : {T : Type 0} (r : Result T Halt) (begun : List ℕ) (count : ℕ) (ended : Bool) (speaker : SpeakerState) →
        OnOk r (HasTaken limits x before (append_known was due) begun count ended speaker) → IfErr r (λ halt. HaltsIn limits x before halt count (append_known was due)) → BeginsIn limits x before now
    gathered-part (Ok u) begun count ended speaker ok err = taken-part begun count ended speaker ok
    gathered-part (Err halt) begun count ended speaker ok err = halts-part halt count err

-- a block was gathered, before which nothing was due, and what is due then was written
module _ (old new : Builder) (block : List ℕ) (was now : Option (List ℕ)) (due due_now text : List ℕ) (none : due ≡ []) (is : text ≡ due_now) (w : Appends was now text) where
  pub takes-gathered : GathersIn old new block due due_now → TakesIn old new block was now
  takes-gathered goes limits x before t =
      taken-written limits (x ++ block) before was now due_now (subst (Appends was now) is w) _ _ _ _ (goes limits x before was (taken-unput limits x before was due none _ _ _ _ t))

  pub halts-gathered : (halt : Halt) → StopsGathering old new block due due_now halt → HaltsWithin old new block was now halt
  halts-gathered halt halts limits x before t =
      halts-written limits (x ++ block) before was now due_now (subst (Appends was now) is w) halt _ (halts limits x before was (taken-unput limits x before was due none _ _ _ _ t))
