-- What a frame shows that was judged and is kept.
use Rattle.std.proofs.Common.{◌≡◌, ℕ, ◌+◌, List, [], length, refl, sym, ap, subst, ◌∙◌, arith}
use Rattle.std.specs.Prelude.{Option}
use Rattle.zk_frames.specs.Framing.{frame}
use Rattle.zk_records.specs.{declared.op.Op.Op, declared.profile.Profile.Profile}
use Rattle.zk_asks.specs.Held.{ClientFrame}
use Rattle.zk_asks.specs.Frames as asks
use Rattle.zk_answers.specs.Held.{ServerFrame, Outcome}
use Rattle.zk_answers.specs.declared.frame.OutcomeOf.TheVariants as outcome
use Rattle.zk_answers.specs.declared.frame.ServerFrameOf.TheVariants.{Connected, Answered, Event}
use Rattle.zk_answers.specs.Frames as answers
use Rattle.zk_waiting.specs.Waiting.{Lanes}
use Rattle.zk_talk.specs.{Payloads.client_payload, Payloads.server_payload, declared.replied.Replied.Replied, Judged.IsInTurn, Judged.IsDue, Judged.TellsReplied, declared.message.Side.Side, Held.Message, Stands.TalkState, Stands.kept_on}
use Rattle.zk_frames.proofs.Cuts.{length-frame}
use Rattle.zk_talk.specs.declared.message.Side.TheVariants.{Client, Server}
use Rattle.zk_talk.specs.declared.message.MessageOf.TheVariants.{Client as FromClient, Server as FromServer}
use Rattle.zk_talk.specs.Settled.{IsTurnAfter}
use Rattle.zk_talk.specs.Viewed.{Shows, ShowsClient, ShowsServer, IsShownAs}
use Rattle.zk_talk.proofs.Bodies.{frame_once}

one_less : (n : ℕ) → n + 1 ≡ 1 → n ≡ 0
one_less n e = omega (arith, e)

one_more : (n : ℕ) → n ≡ 0 → n + 1 ≡ 1
one_more n e = omega (arith, e)

pub client_shown : (n : ℕ) (kept : List ℕ) (f : ClientFrame) (profile : Profile) → IsInTurn profile n f → asks.IsSent f → kept ≡ frame (client_payload f) → ShowsClient (n + 1) kept f
client_shown n kept f profile turn sent is = record {
  first = λ e. turn.0 (one_less n e);
  later = λ not. (turn.1 (λ e. not (one_more n e))).0;
  sent = sent;
  is = is;
}

fits_its_own : (o : Outcome) → (op : Op) (parts : List _) → answers.OutcomeFits op parts o → answers.OutcomeFits (answers.op_of_outcome o) parts o
fits_its_own (outcome.Done b) op parts fits = (refl, fits.1)
fits_its_own (outcome.Failed o e) op parts fits = refl

kind_of : (n : ℕ) (s : ServerFrame) (w : Lanes) (told : Option Replied) → TellsReplied s w told → IsDue s w → IsTurnAfter n s → IsShownAs (n + 1) told s
kind_of n (Connected hello read_only) w told tells due turn = subst (λ o. IsShownAs (n + 1) o (Connected hello read_only)) (sym tells) ((λ e. tt), (λ not. absurd (turn.1 (λ e. not (one_more n e)) tt)))
kind_of n (Answered reply) w told tells due turn = subst (λ o. IsShownAs (n + 1) o (Answered reply)) (sym tells.2) (due.0.parts, fits_its_own reply.outcome due.0.op due.0.parts due.2)
kind_of n (Event zxid event) w told tells due turn = subst (λ o. IsShownAs (n + 1) o (Event zxid event)) (sym tells) ((λ e. absurd (turn.0 (one_less n e))), (λ not. tt))

pub server_shown : (n : ℕ) (kept : List ℕ) (s : ServerFrame) (w : Lanes) (told : Option Replied) → TellsReplied s w told → IsDue s w → IsTurnAfter n s → answers.IsSent s → kept ≡ frame (server_payload s) → ShowsServer (n + 1) told kept s
server_shown n kept s w told tells due turn sent is = record { kind = kind_of n s w told tells due turn; sent = sent; is = is }

-- ---- what the payload of a kept frame is

pub client_bytes : (p : List ℕ) (f : ClientFrame) → frame p ≡ frame (client_payload f) → p ≡ asks.payload f
unfolding client_payload
client_bytes p f e = frame_once p (client_payload f) e

pub server_bytes : (p : List ℕ) (s : ServerFrame) → frame p ≡ frame (server_payload s) → p ≡ answers.payload s
unfolding server_payload
server_bytes p s e = frame_once p (server_payload s) e

-- ---- what a talk keeps

some_frame : (p : List ℕ) → frame p ≡ [] → ⊥
some_frame p e = omega (arith, ap length e, length-frame p)

-- where nothing is kept nothing is shown
pub nothing_shown : (side : Side) (t : TalkState) (m : Message) → kept_on side t ≡ [] → Shows t side m → ⊥
nothing_shown Client t (FromClient f) none shows = some_frame (client_payload f) (sym shows.is ∙ none)
nothing_shown Server t (FromServer s) none shows = some_frame (server_payload s) (sym shows.is ∙ none)
nothing_shown Client t (FromServer s) none shows = absurd shows
nothing_shown Server t (FromClient f) none shows = absurd shows

module _ (count : ℕ) (kept p : List ℕ) (is : kept ≡ frame p) where
  pub not_none : kept ≡ [] → ⊥
  not_none e = some_frame p (sym is ∙ e)

  -- by what a frame shows to be, which is the last of so many
  module _ {X : Type 0} (IsShown : ℕ → List ℕ → X → Type 0) (k : (kept ≡ [] → ⊥) → (f : X) × IsShown count kept f) (n : ℕ) (e : n ≡ count) where
    shown_here : IsShown n (frame p) (k not_none).0
    shown_here = subst (λ (b : List ℕ). IsShown n b (k not_none).0) is (subst (λ (m : ℕ). IsShown m kept (k not_none).0) (sym e) (k not_none).1)

    pub lies : (f : X) × IsShown n (frame p) f
    lies = ((k not_none).0, shown_here)

    pub made : (r : X) → ((f : X) → IsShown n (frame p) f → r ≡ f) → IsShown count kept r
    made r only = subst (IsShown count kept) (sym (only (k not_none).0 shown_here)) (k not_none).1
