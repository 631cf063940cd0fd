-- What a run that builds has read and written when it answers.
use Rattle.std.proofs.Common.{ℕ, List, [], ◌++◌, Option, IfOk, OnErr, refl, sym, subst, append-nil, Bool}
use Rattle.std.specs.Io.KnownBytes.{Consumes, IsAtEnd}
use Rattle.zk_talk.specs.{declared.limits.Limits.Limits, Said.SpeakerState}
use Rattle.zk_runs.specs.{declared.build_result.Built.Built, declared.build_result.Built.TheVariants.Whole, declared.builder.Halt.Halt}
use Rattle.zk_runs.specs.declared.builder.Halt.TheVariants.{Refused, Fails}
use Rattle.zk_listings.specs.{declared.listing.RunFault.TheVariants.Memory, Outcome.HasGrownIn}
use Rattle.zk_runs.specs.Building.{head, AreLines, StandFirst, fed_in, all_of, Covers, HasBuilt, HasBuiltSoFar, HasBegunBuilding, recording_of}
use Rattle.zk_runs.specs.Accepting.{HasTaken, IsRefused, HaltsIn, BeginsIn, BuildsAll, BeginsAll, StandIn, some, all, answer_of}
use Rattle.zk_listings.proofs.{Bytes.Consumes-none, Bytes.Consumes-then, Feeding.grown-whole}
use Rattle.zk_runs.proofs.{Accepted.built-good, Accepted.nothing-accepted, Taken.begins-here, Taken.begins-of}

covers-first : (built : Built) (x : List ℕ) (unread : Option (List ℕ)) (lines : List (List ℕ)) → IsRefused built → StandFirst x unread lines → Covers built x unread lines
covers-first Whole x unread lines is stand = absurd is
covers-first _ x unread lines is stand = stand

covers-all : (built : Built) (x : List ℕ) (unread : Option (List ℕ)) (lines : List (List ℕ)) → IsAtEnd unread → AreLines x lines → Covers built x unread lines
covers-all Whole x unread lines end are = (end, are)
covers-all _ x unread lines end are = all_of end are

stand-first : (x : List ℕ) (unread : Option (List ℕ)) (lines : List (List ℕ)) → IsAtEnd unread → StandIn x lines → StandFirst x unread lines
stand-first x unread lines end (some rest each read) = fed_in rest each read
stand-first x unread lines end (all are) = all_of end are

module _ (limits : Limits) (unread mid : Option (List ℕ)) (x : List ℕ) (before now : Option (List ℕ)) (p : Consumes unread mid x) where
  -- what was read so far
  pub built-so_far : (begun : List ℕ) (count : ℕ) (ended : Bool) (speaker : SpeakerState) → HasTaken limits x before now begun count ended speaker → HasBuiltSoFar limits unread mid before now
  built-so_far begun count ended speaker t = record {
    bytes = x;
    lines = t.lines;
    messages = t.took.messages;
    consumed = p;
    stand = record { rest = begun; splits = t.read; each = t.each; begun = t.begun_is };
    are = built-good limits t.lines t.took.messages ended t.took.knows.good;
    written = t.took.written;
  }

  from-begins : (after : Option (List ℕ)) (y : List ℕ) → Consumes unread after y → BeginsIn limits y before now → HasBegunBuilding limits unread after before now
  from-begins after y q b = record {
    bytes = y;
    lines = b.lines;
    messages = b.begins.messages;
    consumed = q;
    stand = fed_in b.rest b.each b.read;
    are = b.begins.accepted;
    written = b.begins.written;
  }

  pub begun-so_far : (begun : List ℕ) (count : ℕ) (ended : Bool) (speaker : SpeakerState) → HasTaken limits x before now begun count ended speaker → HasBegunBuilding limits unread mid before now
  begun-so_far begun count ended speaker t = from-begins mid x p (begins-here limits x before now begun count ended speaker t)

  -- all there is
  module _ (end : IsAtEnd mid) where
    pub built-at_end : (built : Built) → BuildsAll limits x before now built → HasBuilt limits unread mid before now built
    built-at_end built b = record {
      bytes = x;
      lines = b.lines;
      messages = b.messages;
      consumed = p;
      stand = covers-all built x mid b.lines end b.all;
      are = b.is;
      written = b.written;
    }

    pub begun-at_end : BeginsAll limits x before now → HasBegunBuilding limits unread mid before now
    begun-at_end b = record {
      bytes = x;
      lines = b.lines;
      messages = b.begins.messages;
      consumed = p;
      stand = stand-first x mid b.lines end b.stand;
      are = b.begins.accepted;
      written = b.begins.written;
    }

  -- within a block
  module _ (after : Option (List ℕ)) (block : List ℕ) (q : Consumes mid after block) where
    pub built-answer : (halt : Halt) (count : ℕ) → HaltsIn limits (x ++ block) before halt count now → IfOk (answer_of halt) (λ built. HasBuilt limits unread after before now built)
    built-answer (Fails fault) count b = tt
    built-answer (Refused built) count r = record {
      bytes = x ++ block;
      lines = r.lines;
      messages = r.refuses.messages;
      consumed = Consumes-then unread mid after x block p q;
      stand = covers-first built (x ++ block) after r.lines r.refuses.refused (fed_in r.rest r.each r.read);
      are = r.refuses.is;
      written = r.refuses.written;
    }

    pub begun-answer : (halt : Halt) (count : ℕ) → HaltsIn limits (x ++ block) before halt count now → OnErr (answer_of halt) (HasBegunBuilding limits unread after before now)
    begun-answer (Refused built) count r = tt
    begun-answer (Fails Memory) count s =
        from-begins after (x ++ block) (Consumes-then unread mid after x block p q)
        (begins-of limits (x ++ block) before now s.lines s.rest s.messages Whole s.each s.read (built-good limits s.lines s.messages s.ended s.good)
        (grown-whole before now (recording_of s.messages) s.written))
    begun-answer (Fails _) count b = from-begins after (x ++ block) (Consumes-then unread mid after x block p q) b

-- the head was not written whole
pub begun-head : (limits : Limits) (unread before now : Option (List ℕ)) → HasGrownIn before now head → HasBegunBuilding limits unread unread before now
begun-head limits unread before now grown = record {
  bytes = [];
  lines = [];
  messages = [];
  consumed = Consumes-none unread;
  stand = fed_in [] tt refl;
  are = nothing-accepted limits;
  written = subst (HasGrownIn before now) (sym (append-nil head)) grown;
}
