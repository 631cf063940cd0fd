-- What a speaker knows after one message more.
use Rattle.std.proofs.Common.{◌≡◌, ℕ, ◌+◌, ◌<◌, ◌≤◌, ◌^◌, ◌⊎◌, inl, inr, List, [], ◌∷◌, ◌++◌, length, refl, sym, ◌∙◌, subst, arith, Bool, true, false, cond}
use Rattle.std.proofs.lemmas.List.{append-nil}
use Rattle.zk_jute.specs.Item.{Fit}
use Rattle.zk_asks.specs.Held.{ClientFrame}
use Rattle.zk_asks.specs.Frames as asks
use Rattle.zk_answers.specs.Held.{ServerFrame}
use Rattle.zk_answers.specs.Frames as answers
use Rattle.zk_waiting.specs.Waiting.{Lanes, count_of}
use Rattle.zk_talk.specs.{declared.limits.Limits.Limits, Held.Message, declared.say.SayFault.SayFault, declared.say.SayFault.TheVariants.NoMemory, Payloads.client_payload, Payloads.server_payload, Good.clients, Good.servers, Ending.unanswered, Ending.unwelcomed}
use Rattle.zk_talk.specs.declared.message.MessageOf.TheVariants.{Client as FromClient, Server as FromServer}
use Rattle.zk_talk.specs.Conversation.{Conversation, with_client, with_server, ServerMay}
use Rattle.zk_talk.specs.Said.{SpeakerState, Says, Heard, HasSpoken, MaySay, IsSayFault, IsSaidClient, IsSaidServer, StandsClient, StandsServer, IsClientRefusal, IsServerRefusal, conversation_of}
use Rattle.zk_talk.proofs.{Lists.EachAfter-push, Lists.EachAfter-nil, Standing.with_message, Standing.clients-append, Standing.servers-append, Queues.count_is_waiting, Start.no_lanes, Start.no_queue, Saying.either}

pub small_payload : (limit : ℕ) (f : ClientFrame) → limit ≤ 16777216 → Fit limit (asks.frame_items f) → length (client_payload f) < 2 ^ 32
unfolding client_payload
small_payload limit f small fit = omega (arith, fit.1)

pub client_within : (limit : ℕ) (f : ClientFrame) → Fit limit (asks.frame_items f) → length (client_payload f) ≤ limit
unfolding client_payload
client_within limit f fit = fit.1

pub server_within : (limit : ℕ) (s : ServerFrame) → Fit limit (answers.frame_items s) → length (server_payload s) ≤ limit
unfolding server_payload
server_within limit s fit = fit.1

-- ---- nothing was said
pub starts : (limits : Limits) (w : Lanes) → w ≡ no_lanes limits.waiting → Says (record { limits = limits; asked = false; welcomed = false; waiting = w }) []
starts limits w e =
    subst (λ (z : Lanes). Says (record { limits = limits; asked = false; welcomed = false; waiting = z }) []) (sym e)
    (record {
      said = EachAfter-nil (MaySay limits);
      heard = record {
        client = refl;
        server = refl;
        may = EachAfter-nil (ServerMay []);
        queues = λ lane. no_queue limits.waiting lane;
      };
      room = refl;
    })

-- ---- one message more
pub one_client : (M : List Message) (f : ClientFrame) → conversation_of (M ++ FromClient f ∷ []) ≡ with_client (conversation_of M) f
one_client M f =
    let c = clients-append M (FromClient f ∷ []) in
    let s = servers-append M (FromClient f ∷ []) ∙ append-nil (servers M) in
    λ i. record { client = c i; server = s i }

pub one_server : (M : List Message) (s : ServerFrame) → conversation_of (M ++ FromServer s ∷ []) ≡ with_server (conversation_of M) s
one_server M s =
    let c = clients-append M (FromServer s ∷ []) ∙ append-nil (clients M) in
    let t = servers-append M (FromServer s ∷ []) in
    λ i. record { client = c i; server = t i }

pub one_message : (M : List Message) (m : Message) → conversation_of (M ++ m ∷ []) ≡ with_message (conversation_of M) m
one_message M (FromClient f) = one_client M f
one_message M (FromServer s) = one_server M s

module _ (s : SpeakerState) (m : Message) where
  -- the speaker that has said it too
  ok_said : (asked welcomed : Bool) (x : Lanes) → x.max ≡ s.waiting.max → (before : List Message) → Says s before → MaySay s.limits before m × Heard asked welcomed x (with_message (conversation_of before) m) →
      MaySay s.limits before m × Says (record { limits = s.limits; asked = asked; welcomed = welcomed; waiting = x }) (before ++ m ∷ [])
  ok_said asked welcomed x max before says step = (
    step.0,
    record {
      said = EachAfter-push (MaySay s.limits) before m says.said step.0;
      heard = subst (Heard asked welcomed x) (sym (one_message before m)) step.1;
      room = max ∙ says.room;
    },
  )

  pub ok_client : (f : ClientFrame) (x : Lanes) → m ≡ FromClient f → x.max ≡ s.waiting.max →
      ((welcomed : Bool) (v : Conversation) → Heard s.asked welcomed s.waiting v → IsSaidClient s.limits v f × Heard true welcomed x (with_client v f)) →
      (before : List Message) → Says s before → MaySay s.limits before m × Says (record { limits = s.limits; asked = true; welcomed = s.welcomed; waiting = x }) (before ++ m ∷ [])
  ok_client f x e max all before says =
      ok_said true s.welcomed x max before says (subst (λ z. MaySay s.limits before z × Heard true s.welcomed x (with_message (conversation_of before) z)) (sym e) (all s.welcomed (conversation_of before) says.heard))

  pub ok_server : (f : ServerFrame) (x : Lanes) → m ≡ FromServer f → x.max ≡ s.waiting.max →
      ((v : Conversation) → Heard s.asked s.welcomed s.waiting v → IsSaidServer s.limits v f × Heard s.asked true x (with_server v f)) →
      (before : List Message) → Says s before → MaySay s.limits before m × Says (record { limits = s.limits; asked = s.asked; welcomed = true; waiting = x }) (before ++ m ∷ [])
  ok_server f x e max all before says =
      ok_said s.asked true x max before says (subst (λ z. MaySay s.limits before z × Heard s.asked true x (with_message (conversation_of before) z)) (sym e) (all (conversation_of before) says.heard))

  pub err_client : (f : ClientFrame) (e : SayFault) → m ≡ FromClient f →
      ((e ≡ NoMemory) ⊎ ((welcomed : Bool) (v : Conversation) → Heard s.asked welcomed s.waiting v → IsClientRefusal s.limits v f e)) →
      (e ≡ NoMemory) ⊎ ((before : List Message) → Says s before → IsSayFault s.limits before m e)
  err_client f e is (inl wanting) = inl wanting
  err_client f e is (inr all) = inr (λ before says. subst (λ z. IsSayFault s.limits before z e) (sym is) (all s.welcomed (conversation_of before) says.heard))

  pub err_server : (f : ServerFrame) (e : SayFault) → m ≡ FromServer f →
      ((e ≡ NoMemory) ⊎ ((v : Conversation) → Heard s.asked s.welcomed s.waiting v → IsServerRefusal s.limits v f e)) →
      (e ≡ NoMemory) ⊎ ((before : List Message) → Says s before → IsSayFault s.limits before m e)
  err_server f e is (inl wanting) = inl wanting
  err_server f e is (inr all) = inr (λ before says. subst (λ z. IsSayFault s.limits before z e) (sym is) (all (conversation_of before) says.heard))

  pub lacks_client : (f : ClientFrame) → m ≡ FromClient f → StandsClient s.limits s.asked s.waiting f → (before : List Message) → Says s before → MaySay s.limits before m
  lacks_client f is all before says = subst (MaySay s.limits before) (sym is) (all s.welcomed (conversation_of before) says.heard)

  pub lacks_server : (f : ServerFrame) → m ≡ FromServer f → StandsServer s.limits s.asked s.welcomed s.waiting f → (before : List Message) → Says s before → MaySay s.limits before m
  lacks_server f is all before says = subst (MaySay s.limits before) (sym is) (all (conversation_of before) says.heard)

-- want of memory, or a refusal whatever is known of the other side
pub either_way : (e : SayFault) (H P : Bool → Conversation → Type 0) → ((b : Bool) (v : Conversation) → H b v → (e ≡ NoMemory) ⊎ P b v) → (e ≡ NoMemory) ⊎ ((b : Bool) (v : Conversation) → H b v → P b v)
either_way e H P all = elim (either e (λ (x : Bool × Conversation). H x.0 x.1) (λ x. P x.0 x.1) (λ x h. all x.0 x.1 h)) [ inl m ↦ inl m | inr k ↦ inr (λ b v h. k (b, v) h) ]

-- ---- what has no answer
unwelcomed_is : (C : List ClientFrame) (S : List ServerFrame) (asked welcomed : Bool) → HasSpoken asked C → HasSpoken welcomed S → unwelcomed C S ≡ cond asked (cond {A = ℕ} welcomed 0 1) 0
unwelcomed_is [] S true welcomed a b = absurd (a refl)
unwelcomed_is [] S false welcomed a b = refl
unwelcomed_is (f ∷ fs) [] true true a b = absurd (b refl)
unwelcomed_is (f ∷ fs) [] true false a b = refl
unwelcomed_is (f ∷ fs) (s ∷ ss) true true a b = refl
unwelcomed_is (f ∷ fs) (s ∷ ss) true false a b = absurd (cc)
unwelcomed_is (f ∷ fs) S false welcomed a b = absurd (cc)

pub unanswered_is : (s : SpeakerState) (n : ℕ) → n ≡ count_of s.waiting → (M : List Message) → Says s M → unanswered (conversation_of M) ≡ cond {A = ℕ} s.asked (cond {A = ℕ} s.welcomed 0 1) 0 + n
unanswered_is s n e M says =
    omega (arith, e, unwelcomed_is (clients M) (servers M) s.asked s.welcomed says.heard.client says.heard.server, count_is_waiting (conversation_of M) s.waiting says.heard.queues)
