-- The messages of a good history may be said in the order of their last bytes.
use Rattle.std.proofs.Common.{◌≡◌, ℕ, ◌+◌, ◌<◌, ◌≤◌, ◌^◌, List, [], ◌∷◌, ◌++◌, length, refl, sym, ap, ◌∙◌, subst, arith, append_assoc}
use Rattle.std.proofs.lemmas.List.{append-nil, length_push}
use Rattle.zk_frames.specs.Framing.{frame, IsCut, IsBeginning}
use Rattle.zk_frames.proofs.Cuts.{same_cut}
use Rattle.zk_talk.specs.{declared.limits.Limits.Limits, declared.message.Side.Side, Held.Message, Payloads.client_payload, Payloads.server_payload, History.History, History.side_bytes, History.on, Conversation.Conversation}
use Rattle.zk_talk.specs.declared.message.Side.TheVariants.{Client, Server}
use Rattle.zk_talk.specs.declared.message.MessageOf.TheVariants.{Client as FromClient, Server as FromServer}
use Rattle.zk_talk.specs.{Fault.rest_on, Fault.side_limit, Said.AreSaid, Said.MaySay, Said.said, Said.conversation_of}
use Rattle.zk_talk.specs.Good.{Good, IsGood, IsOrder, clients, servers, client_payloads, server_payloads, client_bytes, server_bytes}
use Rattle.zk_talk.proofs.{Small.small_limits, Lists.EachAfter-push, Lists.EachAfter-nil, Cuts.cut_front, Cuts.Shorter, Cuts.Shorter.within_frame, Cuts.Shorter.frame_end}
use Rattle.zk_talk.proofs.{Histories.no_bytes, Histories.side_bytes-append, Histories.side_bytes-same, GoodSteps.good_more_client, GoodSteps.good_more_server, GoodFronts.good_front, Headline.same_good, OrderOnce.order_once}
use Rattle.zk_talk.proofs.Standing.{own, Runs, runs_message, found_message, order_same, other-on}
use Rattle.zk_talk.proofs.{Speaking.one_message, Spoken.none_spoken, Spoken.may_be_said}

-- a history whose messages may be said
record Replay (limits : Limits) (g : History) : Type 0 where
  messages : List Message
  client_rest : List ℕ
  server_rest : List ℕ
  runs : Runs limits g (conversation_of messages) messages client_rest server_rest
  are : AreSaid limits messages

-- ---- One byte more
-- what one byte more makes of a side's beginning
one_rest : (limit : ℕ) → limit < 2 ^ 31 → {bytes : List ℕ} {P Q : List (List ℕ)} (old now : List ℕ) → IsCut limit bytes P now → IsCut limit bytes Q old → (b : ℕ) → now ++ b ∷ [] ≡ old ++ b ∷ []
one_rest limit small old now cut before b = ap (λ z. z ++ b ∷ []) (same_cut limit _ _ _ _ _ small cut before).1

module _ (limits : Limits) (g : History) (b : ℕ) (r : Replay limits g) where
  abbrev v : Conversation
  v = conversation_of r.messages

  room : (side : Side) → IsGood limits (g ++ (side, b) ∷ []) → length (side_bytes side g) + 1 < 2 ^ 62
  room Client n = omega (arith, n.3.client_size, ap length (side_bytes-same Client g b), length_push (side_bytes Client g) b)
  room Server n = omega (arith, n.3.server_size, ap length (side_bytes-same Server g b), length_push (side_bytes Server g) b)

  -- a byte within a frame
  same : (side : Side) (cb sb : List ℕ) → Good limits (g ++ (side, b) ∷ []) v cb sb → Replay limits (g ++ (side, b) ∷ [])
  same side cb sb next = record {
    messages = r.messages;
    client_rest = cb;
    server_rest = sb;
    runs = record { good = next; order = order_same limits g (side, b) v cb sb r.messages r.runs.order next.whole };
    are = r.are;
  }

  -- a byte that makes a frame whole
  whole : (side : Side) (p : List ℕ) → rest_on side r.client_rest r.server_rest ++ b ∷ [] ≡ frame p → length p ≤ side_limit limits side → IsGood limits (g ++ (side, b) ∷ []) → Replay limits (g ++ (side, b) ∷ [])
  whole side p is l n =
      let f = found_message limits (small_limits limits) g b v r.messages r.client_rest r.server_rest r.runs side p is l n in
      let within = subst (λ z. length z ≤ side_limit limits side) (sym f.1) l in
      let next = runs_message limits (small_limits limits) g b v r.messages r.client_rest r.server_rest r.runs side f.0 (is ∙ ap frame (sym f.1)) within f.2 (room side n) in
      record {
        messages = r.messages ++ f.0 ∷ [];
        client_rest = own Client side [] r.client_rest;
        server_rest = own Server side [] r.server_rest;
        runs = subst (λ z. Runs limits (g ++ (side, b) ∷ []) z (r.messages ++ f.0 ∷ []) (own Client side [] r.client_rest) (own Server side [] r.server_rest)) (sym (one_message r.messages f.0)) next;
        are = EachAfter-push (MaySay limits) r.messages f.0 r.are (may_be_said limits r.messages side f.0 f.2 within).1;
      }

  more_client : (n : IsGood limits (g ++ (Client, b) ∷ [])) → Shorter limits.client (side_bytes Client g) b (client_payloads n.0.client) n.1 → Replay limits (g ++ (Client, b) ∷ [])
  more_client n (within_frame c e cut) =
      let begin = subst (IsBeginning limits.client) (e ∙ one_rest limits.client (small_limits limits).0 r.client_rest c cut r.runs.good.whole.client_cut b) n.3.whole.client_cut.beginning in
      same Client (r.client_rest ++ b ∷ []) r.server_rest (good_more_client limits (small_limits limits) g b v r.client_rest r.server_rest r.runs.good begin (room Client n))
  more_client n (frame_end Q p c e none l is cut) = whole Client p (sym (one_rest limits.client (small_limits limits).0 r.client_rest c cut r.runs.good.whole.client_cut b) ∙ is) l n

  more_server : (n : IsGood limits (g ++ (Server, b) ∷ [])) → Shorter limits.server (side_bytes Server g) b (server_payloads n.0.server) n.2 → Replay limits (g ++ (Server, b) ∷ [])
  more_server n (within_frame c e cut) =
      let begin = subst (IsBeginning limits.server) (e ∙ one_rest limits.server (small_limits limits).1 r.server_rest c cut r.runs.good.whole.server_cut b) n.3.whole.server_cut.beginning in
      same Server r.client_rest (r.server_rest ++ b ∷ []) (good_more_server limits (small_limits limits) g b v r.client_rest r.server_rest r.runs.good begin (room Server n))
  more_server n (frame_end Q p c e none l is cut) = whole Server p (sym (one_rest limits.server (small_limits limits).1 r.server_rest c cut r.runs.good.whole.server_cut b) ∙ is) l n

one_more : (limits : Limits) (g : History) (side : Side) (b : ℕ) → Replay limits g → IsGood limits (g ++ (side, b) ∷ []) → Replay limits (g ++ (side, b) ∷ [])
one_more limits g Client b r n =
    more_client limits g b r n (cut_front limits.client (side_bytes Client g) b (client_payloads n.0.client) n.1 (subst (λ z. IsCut limits.client z (client_payloads n.0.client) n.1) (side_bytes-same Client g b) n.3.whole.client_cut))
one_more limits g Server b r n =
    more_server limits g b r n (cut_front limits.server (side_bytes Server g) b (server_payloads n.0.server) n.2 (subst (λ z. IsCut limits.server z (server_payloads n.0.server) n.2) (side_bytes-same Server g b) n.3.whole.server_cut))

replay_from : (limits : Limits) (g h : History) → Replay limits g → IsGood limits (g ++ h) → Replay limits (g ++ h)
replay_from limits g [] r n = subst (Replay limits) (sym (append-nil g)) r
replay_from limits g (x ∷ h) r n =
    let n' = subst (IsGood limits) (sym (append_assoc g (x ∷ []) h)) n in
    let next = one_more limits g x.0 x.1 r (good_front limits (g ++ x ∷ []) h n') in
    subst (Replay limits) (append_assoc g (x ∷ []) h) (replay_from limits (g ++ x ∷ []) h next n')

replay : (limits : Limits) (h : History) → IsGood limits h → Replay limits h
replay limits h n = replay_from limits [] h (record { messages = []; client_rest = []; server_rest = []; runs = none_spoken limits; are = EachAfter-nil (MaySay limits) }) n

-- ---- Each side's bytes
pub own_bytes : (side : Side) (bs : List ℕ) → side_bytes side (on side bs) ≡ bs
unfolding side_bytes
own_bytes Client [] = refl
own_bytes Server [] = refl
own_bytes Client (b ∷ bs) = ap (λ z. b ∷ z) (own_bytes Client bs)
own_bytes Server (b ∷ bs) = ap (λ z. b ∷ z) (own_bytes Server bs)

client_said : (M : List Message) → side_bytes Client (said M) ≡ client_bytes (clients M)
client_said [] = no_bytes Client
client_said (FromClient f ∷ M) =
    let p = frame (client_payload f) in
    side_bytes-append Client (on Client p) (said M) ∙ ap (λ z. z ++ side_bytes Client (said M)) (own_bytes Client p) ∙ ap (λ z. p ++ z) (client_said M)
client_said (FromServer s ∷ M) =
    let p = frame (server_payload s) in
    side_bytes-append Client (on Server p) (said M) ∙ ap (λ z. z ++ side_bytes Client (said M)) (other-on Server p [] ∙ no_bytes Client) ∙ client_said M

server_said : (M : List Message) → side_bytes Server (said M) ≡ server_bytes (servers M)
server_said [] = no_bytes Server
server_said (FromClient f ∷ M) =
    let p = frame (client_payload f) in
    side_bytes-append Server (on Client p) (said M) ∙ ap (λ z. z ++ side_bytes Server (said M)) (other-on Client p [] ∙ no_bytes Server) ∙ server_said M
server_said (FromServer s ∷ M) =
    let p = frame (server_payload s) in
    side_bytes-append Server (on Server p) (said M) ∙ ap (λ z. z ++ side_bytes Server (said M)) (own_bytes Server p) ∙ ap (λ z. p ++ z) (server_said M)

-- However a whole conversation's bytes were cut and interleaved, its messages may be said in their order, and give each side its bytes.
pub order_said : (limits : Limits) (h : History) (v : Conversation) (M : List Message) → Good limits h v [] [] → IsOrder limits h v M →
    AreSaid limits M × (side_bytes Client (said M) ≡ side_bytes Client h) × (side_bytes Server (said M) ≡ side_bytes Server h) × (conversation_of M ≡ v)
order_said limits h v M g o =
    let small = small_limits limits in
    let r = replay limits h (v, [], [], g) in
    let one = same_good limits small h (conversation_of r.messages) v r.client_rest r.server_rest [] [] r.runs.good g in
    let order = subst (λ z. IsOrder limits h z r.messages) one.0 r.runs.order in
    let messages = order_once limits small h v r.messages M order o [] [] g.whole in (
      subst (AreSaid limits) messages r.are,
      client_said M ∙ ap client_bytes o.client ∙ sym (append-nil (client_bytes v.client)) ∙ sym g.whole.client_cut.whole,
      server_said M ∙ ap server_bytes o.server ∙ sym (append-nil (server_bytes v.server)) ∙ sym g.whole.server_cut.whole,
      (let c = o.client in let s = o.server in λ i. record { client = c i; server = s i }),
    )
