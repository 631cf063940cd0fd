-- What was read is a recording that begins with the messages so far.
use Rattle.std.proofs.Common.{ℕ, List, [], ◌∷◌, ◌++◌, Option, None, Some, refl, sym, subst, append-nil}
use Rattle.zk_talk.specs.{declared.limits.Limits.Limits, Held.Message, declared.message.Ending.TheVariants.Refused, History.History, Stands.TalkState}
use Rattle.zk_listings.specs.{declared.summary.Summary.Summary, Outcome.IsGoodWith, Following.Has, Following.IsHeadedBy, Following.Finishes, Following.Opens}
use Rattle.zk_listings.specs.declared.summary.Summary.TheVariants.{Ended, Broken}
use Rattle.zk_recordings.specs.Recording.{Recording, Spells, history_of, limits_of, place_of}
use Rattle.zk_recordings.proofs.Any.{longer}
use Rattle.zk_listings.proofs.{Outcomes.good-all, Outcomes.good-before, Talking.has-good}

-- all of a recording
pub opens-whole : (limits : Limits) (x : List ℕ) (messages : List Message) (r : Recording) → Spells x r → IsGoodWith (limits_of limits r) (history_of r) messages → Opens limits x messages
opens-whole limits x messages r i good = record { recording = r; spells = i; front = history_of r; rest = []; splits = sym (append-nil (history_of r)); good = good }

-- what comes to something begins with its messages
pub opens-finished : (limits : Limits) (x : List ℕ) (messages : List Message) (talk : Option TalkState) (summary : Summary) → Finishes limits x messages talk summary → Opens limits x messages
opens-finished limits x messages talk (Ended (Refused fault)) f =
    let m = f.is.messages_are in
    record {
      recording = f.recording;
      spells = f.spells;
      front = m.0.before;
      rest = (fault.side, m.0.byte) ∷ m.0.after;
      splits = m.0.stands;
      good = good-before (limits_of limits f.recording) (history_of f.recording) messages fault m;
    }
opens-finished limits x messages talk (Broken damage) f = opens-whole limits x messages f.recording f.spells f.is.messages_are
opens-finished limits x messages talk _ f = opens-whole limits x messages f.recording f.spells (good-all (limits_of limits f.recording) (history_of f.recording) messages f.is.messages_are)

-- and whatever follows: nothing has come, or the recording has its head
pub opens-later : (limits : Limits) (x more : List ℕ) (messages : List Message) (r : Recording) (talk : Option TalkState) (h : History) → Spells x r → IsHeadedBy talk (place_of r) →
    Has (limits_of limits r) talk h messages → IsGoodWith (limits_of limits r) (history_of r) messages → Opens limits (x ++ more) messages
opens-later limits x more messages r None h i headed has good =
    let l = longer r x more i in
    record {
      recording = l.new;
      spells = l.spells;
      front = [];
      rest = history_of l.new;
      splits = refl;
      good = has-good (limits_of limits l.new) None [] messages (refl, has.1);
    }
opens-later limits x more messages r (Some t) h i headed has good =
    let l = longer r x more i in
    record {
      recording = l.new;
      spells = l.spells;
      front = history_of r;
      rest = l.after;
      splits = l.history;
      good = subst (λ z. IsGoodWith z (history_of r) messages) (sym (l.limits_are headed limits)) good;
    }
