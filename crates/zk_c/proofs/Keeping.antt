-- The frame that a side keeps is sent, and its payload is shorter than what is held.
use Rattle.std.proofs.Common.{◌≡◌, ℕ, ◌<◌, ◌^◌, List, length, [], Option, Some, None, ap, sym, subst, ◌∙◌, arith}
use Rattle.std.specs.Prelude.{MatchOption}
use Rattle.std.specs.Borrow.{Bor}
use Rattle.zk_frames.specs.Framing.{frame}
use Rattle.zk_frames.proofs.Cuts.{length-frame}
use Rattle.zk_talk.specs.{declared.message.Side.Side, Held.Message, Payloads.client_payload, Payloads.server_payload, Said.payload_of, Stands.TalkState, Stands.kept_on, Viewed.Shows}
use Rattle.zk_talk.specs.declared.message.Side.TheVariants.{Client, Server}
use Rattle.zk_talk.specs.declared.message.MessageOf.TheVariants.{Client as FromClient, Server as FromServer}
use Rattle.zk_talk.proofs.Bodies.{frame_once}
use Rattle.zk_c.specs.{declared.answer.LineAnswer.LineAnswer, Read.HasFields, Answer.no_line, Handle.TellsText, Handle.IsPayload}

-- the fields of what is shown are there
pub has_fields : (t : TalkState) (side : Side) (m : Message) → Shows t side m → length (kept_on side t) < 2 ^ 32 → HasFields m
unfolding client_payload server_payload
has_fields t Client (FromClient f) shows few = (shows.sent, omega (arith, ap length shows.is, length-frame (client_payload f), few))
has_fields t Client (FromServer s) shows few = absurd shows
has_fields t Server (FromClient f) shows few = absurd shows
has_fields t Server (FromServer s) shows few = (shows.sent, omega (arith, ap length shows.is, length-frame (server_payload s), few))

pub framed_some : (p kept : List ℕ) → kept ≡ frame p → kept ≡ [] → ⊥
framed_some p kept e none = omega (arith, ap length e, ap length none, length-frame p)

-- what is kept is the frame of what is shown
shown_is : (t : TalkState) (side : Side) (m : Message) → Shows t side m → kept_on side t ≡ frame (payload_of m)
shown_is t Client (FromClient f) shows = shows.is
shown_is t Client (FromServer s) shows = absurd shows
shown_is t Server (FromClient f) shows = absurd shows
shown_is t Server (FromServer s) shows = shows.is

-- the text of what the side keeps, if it keeps a frame, is that of its message's payload
pub payload_told : (t : TalkState) (side : Side) (before after : List ℕ) (answer : LineAnswer) (kept : Option (Bor (List ℕ))) → MatchOption kept (kept_on side t ≡ []) (λ p. kept_on side t ≡ frame p.now) →
    MatchOption kept ((answer ≡ no_line 69) × (after ≡ before)) (λ p. TellsText p.now before after answer) → IsPayload t side before after answer
payload_told t side before after answer (Some p) is text = record {
  none = λ none. absurd (framed_some p.now (kept_on side t) is none);
  some = λ m shows. subst (λ (q : List ℕ). TellsText q before after answer) (frame_once p.now (payload_of m) (sym is ∙ shown_is t side m shows)) text;
}
payload_told t side before after answer None none told = record { none = λ e. told; some = λ m shows. absurd (framed_some (payload_of m) (kept_on side t) (shown_is t side m shows) none) }
