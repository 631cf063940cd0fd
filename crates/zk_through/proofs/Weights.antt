-- What a request weighs.
use Rattle.std.proofs.Common.{◌≡◌, ℕ, ◌+◌, ◌<◌, ◌≤◌, ℤ, List, length, sym, ap, ◌∙◌, subst, arith}
use Rattle.zk_records.specs.declared.profile.Profile.{Profile}
use Rattle.zk_asks.specs.{Held.Ask as Asked, Held.ClientFrame, Frames.IsLater, Frames.IsSent, Frames.IsOfProfile, Frames.ops_of_ask}
use Rattle.zk_asks.specs.declared.frame.ClientFrameOf.TheVariants.{Connect, Ask}
use Rattle.zk_asks.specs.Frames as asks
use Rattle.zk_frames.specs.Framing.{frame, IsFrame}
use Rattle.zk_frames.proofs.Cuts.{length-frame}
use Rattle.zk_talk.specs.{Conversation.weight, Payloads.client_payload}
use Rattle.zk_talk.proofs.{Payloads.asks_are, Payloads.client_is, Payloads.few_parts}
use Rattle.zk_through.specs.Fates.{IsWeightOf, IsWeighed}

module _ (payload : List ℕ) (f : ClientFrame) (xid : ℤ) (ask : Asked) (form : f ≡ Ask xid ask) (lies : payload ≡ asks.payload f) where
  its_payload : payload ≡ client_payload (Ask xid ask)
  its_payload = sym (client_is f payload lies) ∙ ap client_payload form

  pub are_few : length payload ≤ 16777216 → length (ops_of_ask ask) < 4294967296
  are_few small = omega (arith, small, few_parts xid ask, ap length its_payload)

  pub weighs_so : (profile : Profile) (number w : ℕ) → 0 < number → IsOfProfile profile f → IsSent f → w ≡ 1 + length (ops_of_ask ask) →
      ((g : ClientFrame) → IsLater g → IsOfProfile profile g → IsSent g → payload ≡ asks.payload g → f ≡ g) → IsWeightOf profile number payload w
  weighs_so profile number w some of sent e one = record {
    found = λ more. (some, (Ask xid ask, tt, subst IsSent form sent, subst (IsOfProfile profile) form of, sym its_payload, e));
    only = λ begun n q.
        let same = one q.0 q.1 q.3 q.2 (sym (asks_are q.0 payload q.4)) in
        q.5 ∙ ap weight (sym same ∙ form) ∙ sym e;
  }

-- no request weighs more than its payload has bytes, and 1
at_most : (f : ClientFrame) → IsLater f → weight f ≤ 1 + length (client_payload f)
at_most (Connect hello read_only) later = absurd later
at_most (Ask xid ask) later = omega (arith, few_parts xid ask)

module _ (profile : Profile) (number : ℕ) (payload : List ℕ) where
  pub payload_weighs : (room most : ℕ) → most ≡ 1 + length payload → most ≤ room → IsWeighed profile number payload room most
  payload_weighs room most e fits = ((λ begun w q. omega (arith, at_most q.0 q.1, q.5, ap length q.4, e)), λ more. absurd (omega (arith, more, fits)))

  pub weighs_itself : (room w : ℕ) → IsWeightOf profile number payload w → IsWeighed profile number payload room w
  weighs_itself room w x = ((λ begun n q. omega (arith, x.only begun n q)), λ more. x)

  -- the first frame, and one that is malformed, weigh nothing
  pub first_weighs : number ≡ 0 → IsWeightOf profile number payload 0
  first_weighs first = record { found = λ more. absurd (omega (arith, more)); only = λ begun n q. absurd (omega (arith, begun, first)) }

  pub none_weighs : ((g : ClientFrame) → IsLater g → IsOfProfile profile g → IsSent g → payload ≡ asks.payload g → ⊥) → IsWeightOf profile number payload 0
  none_weighs none = record {
    found = λ more. absurd (omega (arith, more));
    only = λ begun n q. absurd (none q.0 q.1 q.3 q.2 (sym (asks_are q.0 payload q.4)));
  }

-- the payload of a frame within a limit
pub small_payload : (limit : ℕ) (bytes payload : List ℕ) → bytes ≡ frame payload → limit ≤ 16777216 → IsFrame limit bytes → length payload ≤ 16777216
small_payload limit bytes payload is small whole = omega (arith, small, ap length is, ap length whole.1, whole.2, length-frame payload, length-frame whole.0)
