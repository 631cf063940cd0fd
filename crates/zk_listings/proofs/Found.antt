-- What a run of reads comes to.
use Rattle.std.proofs.Common.{ℕ, ◌⊎◌, List, ◌++◌, ◌+◌, length, Option, inl, inr, sym, subst}
use Rattle.std.specs.Io.KnownBytes.{Consumes, IsAtEnd, Appends}
use Rattle.zk_talk.specs.{declared.limits.Limits.Limits, Held.Message, Stands.TalkState}
use Rattle.zk_listings.specs.{declared.listing.Listing.Listing, declared.summary.Summary.Summary, Lines.text_of, Running.HasFoundBy, Following.Finishes, Following.Decides}
use Rattle.zk_recordings.specs.Recording.{Recording, Spells, history_of, limits_of}
use Rattle.zk_listings.specs.Outcome.{IsBroken, IsDecided, IsGoodWith, Reads, IsRunning, HasGrownIn}
use Rattle.std.proofs.Math.Seq.{take-append-add, take-append_seam}
use Rattle.zk_listings.proofs.{Bytes.Appends-then, Outcomes.outcome-once, Outcomes.outcome-good}
use Rattle.zk_recordings.proofs.Once.{spells-once}

pub reads : (before after : Option (List ℕ)) (x : List ℕ) (r : Recording) → Consumes before after x → Spells x r → Reads before after x r
reads before after x r p i = record { consumed = p; just = record { spells = i; only = λ s j. spells-once x r s i j } }

-- a summary was found, and the lines of all messages written
module _ (limits : Limits) (listing : Listing) (before after contents contents_now : Option (List ℕ)) (x : List ℕ) (messages : List Message) (talk : Option TalkState) (summary : Summary)
    (consumed : Consumes before after x) (written : Appends contents contents_now (text_of listing messages)) where
  found-by : (f : Finishes limits x messages talk summary) → IsAtEnd after ⊎ IsDecided limits x f.recording → HasFoundBy limits listing before after contents contents_now talk summary
  found-by f enough = record {
    messages = messages;
    found = record {
      bytes = x;
      recording = f.recording;
      reads = reads before after x f.recording consumed f.spells;
      is = f.is;
      only = λ others other o. outcome-once limits f.recording messages others summary other f.is o;
      enough = enough;
    };
    written = written;
    kept = f.kept;
  }

  pub found-at_end : IsAtEnd after → Finishes limits x messages talk summary → HasFoundBy limits listing before after contents contents_now talk summary
  found-at_end end f = found-by f (inl end)

  -- what stands whatever follows
  pub found-decided : Decides limits x messages talk summary → HasFoundBy limits listing before after contents contents_now talk summary
  found-decided d = found-by d.finishes (inr d.decided)

-- what was read has these messages and no fault
pub running : (limits : Limits) (before after : Option (List ℕ)) (x : List ℕ) (messages : List Message) (r : Recording) → Consumes before after x → Spells x r →
    (IsBroken x r → ⊥) → IsGoodWith (limits_of limits r) (history_of r) messages → IsRunning limits before after messages
running limits before after x messages r p i unbroken good = record {
  bytes = x;
  recording = r;
  reads = reads before after x r p i;
  unbroken = unbroken;
  good = good;
  only = λ others summary o. outcome-good limits r messages others summary good o;
}

-- nothing, or a front, of what follows a text was written
pub grown-front : (old new : Option (List ℕ)) (text more : List ℕ) → Appends old new text → HasGrownIn old new (text ++ more)
grown-front old new text more p = (length text, subst (Appends old new) (sym (take-append_seam text more)) p)

pub grown-further : (old mid new : Option (List ℕ)) (text more : List ℕ) → Appends old mid text → HasGrownIn mid new more → HasGrownIn old new (text ++ more)
grown-further old mid new text more p q = (length text + q.0, subst (Appends old new) (sym (take-append-add text more q.0)) (Appends-then old mid new _ _ p q.1))
