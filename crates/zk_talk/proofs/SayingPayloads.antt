-- What a speaker knows of a payload that it says or refuses.
use Rattle.std.proofs.Common.{◌≡◌, ◌≢◌, ℕ, ◌≤◌, ◌<◌, ◌⊎◌, inl, inr, List, [], ◌∷◌, length, refl, sym, ◌∙◌, subst, arith, Bool, true, false, MatchBool}
use Rattle.std.specs.Int.{from_bool}
use Rattle.zk_jute.specs.{declared.fault.ItemFault.ItemFault, Item.Fit}
use Rattle.zk_records.specs.declared.profile.Profile.{Profile}
use Rattle.zk_asks.specs.{Held.ClientFrame, Frames.IsFirst, Frames.IsLater, Frames.IsOfProfile}
use Rattle.zk_asks.specs.declared.frame.ClientFrameOf.TheVariants.{Connect, Ask}
use Rattle.zk_asks.specs.Frames as asks
use Rattle.zk_answers.specs.Held.{ServerFrame}
use Rattle.zk_answers.specs.declared.frame.ServerFrameOf.TheVariants.{Connected, Answered, Event}
use Rattle.zk_answers.specs.Frames as answers
use Rattle.zk_waiting.specs.Waiting.{Lanes}
use Rattle.zk_talk.specs.{declared.limits.Limits.Limits, declared.message.Side.Side, Held.Message, declared.payload.PayloadFault.PayloadFault, Payloads.client_payload, Payloads.server_payload, Splits.EachAfter}
use Rattle.zk_talk.specs.declared.message.Side.TheVariants.{Client, Server}
use Rattle.zk_talk.specs.declared.message.MessageOf.TheVariants.{Client as FromClient, Server as FromServer}
use Rattle.zk_talk.specs.declared.say.SayFault.TheVariants.{TooLong, QueueFull, NoMemory}
use Rattle.zk_talk.specs.declared.payload.PayloadFault.TheVariants.{Item, Say}
use Rattle.zk_talk.specs.Conversation.{Conversation, ClientMay, ServerMay, IsAnswered}
use Rattle.zk_talk.specs.{Fault.IsClientFault.connect_fault, Fault.IsClientFault.ask_fault, Describes.Describes, Said.IsClientRefusal.too_long, Said.IsClientRefusal.queue_full}
use Rattle.zk_talk.specs.Judged.{IsInTurn, IsTurnFault, HasRoomFor, IsRemembered, HasAsk, IsForgotten}
use Rattle.zk_talk.specs.Said.{SpeakerState, Heard, HasSpoken, MayAsk, MaySay, SaysClient, SaysServer, IsClientRefusal, IsServerRefusal, conversation_of}
use Rattle.zk_talk.specs.Said.IsServerRefusal.{long_connected, long_event, long_reply}
use Rattle.zk_talk.specs.SaidPayload.{HasPayload, IsClientPayloadRefusal, IsPayloadRefusal, SaysPayload, RefusesPayload, StandsPayload, CannotSay, HearsFault, SaysClientPayload, RefusesClientPayload, StandsClientPayload, SaysServerPayload, RefusesServerPayload, StandsServerPayload}
use Rattle.zk_talk.proofs.{Hearing.described, Hearing.none_spoken, Hearing.some_spoken, Lists.not_empty, Lists.EachAfter-push, Payloads.first_excluded, Payloads.ask_excluded, Turns.client_inj, Turns.server_inj, Queues.weight_is_load}
use Rattle.zk_talk.proofs.{Lanes.forgotten, Judging.first_may, Judging.first_or_later, Judging.later_may, Judging.no_room, Refusals.may_first, Refusals.may_later, Refusals.server_alone, Saying.client_may, Saying.client_said}
use Rattle.zk_talk.proofs.Exclusions.{client_apart, server_apart, answered_next}
use Rattle.zk_talk.proofs.Speaking.{ok_client, ok_server}

-- ---- the client's payloads

-- the number of frames by which a side's turn is told
pub spoken_frames : (spoken : Bool) (n : ℕ) → n ≡ from_bool spoken → MatchBool spoken (n ≡ 1) (n ≡ 0)
spoken_frames true n e = e
spoken_frames false n e = e

filled : {X : Type 0} (xs : List X) (y : X) (ys : List X) → xs ≡ y ∷ ys → xs ≢ []
filled [] y ys e n = absurd (cc)
filled (x ∷ xs) y ys e n = cc

abbrev first_of : Bool → Bool
first_of true = false
first_of false = true

turn_of : (asked : Bool) → first_of asked ≡ asked → ⊥
turn_of true e = cc
turn_of false e = cc

first_of_profile : (profile : Profile) (f : ClientFrame) → IsFirst f → IsOfProfile profile f
first_of_profile profile (Connect t g) first = tt
first_of_profile profile (Ask xid ask) first = absurd first

module _ (profile : Profile) (n : ℕ) (f : ClientFrame) (turn : IsInTurn profile n f) where
  later : n ≡ 1 → IsLater f × IsOfProfile profile f
  later k = let some : n ≡ 0 → ⊥ = (λ z. omega (arith, k, z)) in turn.1 some

  kind_of : (asked : Bool) → MatchBool asked (n ≡ 1) (n ≡ 0) → MatchBool (first_of asked) (IsFirst f) (IsLater f)
  kind_of true k = (later k).0
  kind_of false k = turn.0 k

  of_profile : (asked : Bool) → MatchBool asked (n ≡ 1) (n ≡ 0) → IsOfProfile profile f
  of_profile true k = (later k).1
  of_profile false k = first_of_profile profile f (turn.0 k)

  come : (w : Lanes) (v : Conversation) → Describes (length v.client) (length v.server) w v → asks.IsSent f → (asked : Bool) → MatchBool asked (n ≡ 1) (n ≡ 0) → HasSpoken asked v.client → ClientMay profile v.client f
  come w v d sent true k h = later_may (length v.client) (length v.server) w v d profile f (some_spoken true v.client h refl) (later k).0 sent (later k).1
  come w v d sent false k h = first_may (length v.client) (length v.server) w v d profile f (none_spoken false v.client h refl) (turn.0 k) sent

fit_client : (limit : ℕ) (f : ClientFrame) (p : List ℕ) → asks.IsSent f → client_payload f ≡ p → length p ≤ limit → Fit limit (asks.frame_items f)
unfolding client_payload
fit_client limit f p sent is small = (sent.1, subst (λ z. length z ≤ limit) (sym is) small)

unfit_client : (limit : ℕ) (f : ClientFrame) (p : List ℕ) → client_payload f ≡ p → limit < length p → Fit limit (asks.frame_items f) → ⊥
unfolding client_payload
unfit_client limit f p is over fit = let small : length p ≤ limit = subst (λ z. length z ≤ limit) is fit.1 in omega (arith, over, small)

module _ (limits : Limits) (asked : Bool) (n : ℕ) (k : MatchBool asked (n ≡ 1) (n ≡ 0)) (w : Lanes) (p : List ℕ) where
  module _ (f : ClientFrame) (turn : IsInTurn limits.profile n f) (sent : asks.IsSent f) (is : client_payload f ≡ p) where
    may : MayAsk limits f
    may = (sent.0, of_profile limits.profile n f turn asked k)

    pub client_frame_said : (x : Lanes) → w.max ≡ limits.waiting → length p ≤ limits.client → IsRemembered f w x → SaysClient limits asked w f x
    client_frame_said x room small put =
        λ welcomed v heard. client_said limits asked welcomed w v heard f (first_of asked) (kind_of limits.profile n f turn asked k) (turn_of asked) x room may (fit_client limits.client f p sent is small) put

    pub client_payload_said : (x : Lanes) → w.max ≡ limits.waiting → length p ≤ limits.client → IsRemembered f w x → SaysClientPayload limits asked w p x
    client_payload_said x room small put = (f, is, client_frame_said x room small put)

    pub client_payload_stands : w.max ≡ limits.waiting → length p ≤ limits.client → HasRoomFor f w → StandsClientPayload limits asked w p
    client_payload_stands room small has =
        (f, is, λ welcomed v heard. client_may limits asked welcomed w v heard f (first_of asked) (kind_of limits.profile n f turn asked k) (turn_of asked) room may (fit_client limits.client f p sent is small) has)

    pub client_payload_long : limits.client < length p → RefusesClientPayload limits asked w p (Say TooLong)
    client_payload_long over = λ welcomed v heard. (f, is, come limits.profile n f turn w v (described asked welcomed w v heard) sent asked k heard.client, long v asked k heard.client)
      where
        long : (v : Conversation) (b : Bool) → MatchBool b (n ≡ 1) (n ≡ 0) → HasSpoken b v.client → IsClientRefusal limits v f TooLong
        long v true k h = too_long (λ z. absurd (h z)) (λ z. (later limits.profile n f turn k).0) may (unfit_client limits.client f p is over) refl
        long v false k h = too_long (λ z. turn.0 k) (λ z. absurd (z h)) may (unfit_client limits.client f p is over) refl

    pub client_payload_full : w.max ≡ limits.waiting → length p ≤ limits.client → (HasRoomFor f w → ⊥) → RefusesClientPayload limits asked w p (Say QueueFull)
    client_payload_full room small none = λ welcomed v heard. (f, is, come limits.profile n f turn w v (described asked welcomed w v heard) sent asked k heard.client, full welcomed v heard asked k heard.client)
      where
        full : (welcomed : Bool) (v : Conversation) → Heard asked welcomed w v → (b : Bool) → MatchBool b (n ≡ 1) (n ≡ 0) → HasSpoken b v.client → IsClientRefusal limits v f QueueFull
        full welcomed v heard true k h =
            let over = no_room f w none in
            queue_full h over.0 may (fit_client limits.client f p sent is small) (omega (arith, over.1, room, weight_is_load v w heard.queues)) refl
        full welcomed v heard false k h = absurd (first_or_later f (turn.0 k) (no_room f w none).0)

  pub client_payload_item : (e : ItemFault) → IsTurnFault limits.profile n p e → RefusesClientPayload limits asked w p (Item e)
  client_payload_item e fault = λ welcomed v heard. found v asked k heard.client
    where
      found : (v : Conversation) (b : Bool) → MatchBool b (n ≡ 1) (n ≡ 0) → HasSpoken b v.client → IsClientPayloadRefusal limits v p (Item e)
      found v true k h =
          let one : n ≡ 1 = k in
          let some : n ≡ 0 → ⊥ = (λ z. omega (arith, one, z)) in
          let t = fault.1 some in
          ((t.0, ask_fault h t.1, t.2), λ f is may. (let m = may_later limits.profile v.client f h may in ask_excluded limits.profile p t.0 e.reason t.1 f m.0 m.1 m.2 is))
      found v false k h =
          let t = fault.0 k in
          ((t.0, connect_fault h t.1, t.2), λ f is may. (let m = may_first limits.profile v.client f h may in first_excluded p t.0 e.reason t.1 f m.0 m.1 is))

-- ---- the server's payloads
unfit_server : (limit : ℕ) (s : ServerFrame) (p : List ℕ) → server_payload s ≡ p → limit < length p → Fit limit (answers.frame_items s) → ⊥
unfolding server_payload
unfit_server limit s p is over fit = let small : length p ≤ limit = subst (λ z. length z ≤ limit) is fit.1 in omega (arith, over, small)

long_server : (limits : Limits) (v : Conversation) (s : ServerFrame) → ServerMay v.client v.server s → (Fit limits.server (answers.frame_items s) → ⊥) → IsServerRefusal limits v s TooLong
long_server limits v s may unfit = go v.server refl s may unfit
  where
    go : (S : List ServerFrame) → v.server ≡ S → (s : ServerFrame) → ServerMay v.client S s → (Fit limits.server (answers.frame_items s) → ⊥) → IsServerRefusal limits v s TooLong
    go [] e (Connected t g) m n = long_connected e tt m.1 n refl
    go [] e (Answered r) m n = absurd m
    go [] e (Event z k) m n = absurd m
    go (x ∷ xs) e (Connected t g) m n = absurd m
    go (x ∷ xs) e (Answered r) m n =
        let a = subst (λ z. IsAnswered v.client z r) (sym e) m.1 in
        long_reply (filled v.server x xs e) r refl m.0.0 a.ask (answered_next v r a) a.fits n refl
    go (x ∷ xs) e (Event z k) m n = long_event (filled v.server x xs e) tt n refl

module _ (limits : Limits) (asked welcomed : Bool) (w : Lanes) (p : List ℕ) where
  module _ (s : ServerFrame) (is : server_payload s ≡ p) (may : (v : Conversation) → Heard asked welcomed w v → ServerMay v.client v.server s) where
    pub server_payload_stands : length p ≤ limits.server → StandsServerPayload limits asked welcomed w p
    server_payload_stands small = (s, is, λ v heard. (may v heard, subst (λ z. length z ≤ limits.server) (sym is) small))

    pub server_frame_said : (x : Lanes) → HasAsk s w → length p ≤ limits.server → IsForgotten s w x → SaysServer limits asked welcomed w s x
    server_frame_said x has small left = λ v heard. (
      (may v heard, subst (λ z. length z ≤ limits.server) (sym is) small),
      record {
        client = heard.client;
        server = λ e. not_empty v.server s [] e;
        may = EachAfter-push (ServerMay v.client) v.server s heard.may (may v heard);
        queues = λ lane. forgotten (length v.client) (length v.server) w x v (described asked welcomed w v heard) s has left lane;
      },
    )

    pub server_payload_said : (x : Lanes) → HasAsk s w → length p ≤ limits.server → IsForgotten s w x → SaysServerPayload limits asked welcomed w p x
    server_payload_said x has small left = (s, is, server_frame_said x has small left)

    pub server_payload_long : limits.server < length p → RefusesServerPayload limits asked welcomed w p (Say TooLong)
    server_payload_long over = λ v heard. (s, is, may v heard, long_server limits v s (may v heard) (unfit_server limits.server s p is over))

  pub server_payload_item : (e : ItemFault) → HearsFault asked welcomed w p e → RefusesServerPayload limits asked welcomed w p (Item e)
  server_payload_item e fault = λ v heard. (let t = fault v heard in (t, λ s is may. server_alone v p t.0 e.reason t.1 s may is))

-- ---- No message may be said whose payload is refused.
refused : (limits : Limits) (before : List Message) (p : List ℕ) → EachAfter (ServerMay (conversation_of before).client) (conversation_of before).server →
    (side : Side) (e : PayloadFault) → IsPayloadRefusal limits before side p e → (m : Message) → HasPayload side p m → MaySay limits before m → ⊥
refused limits before p each Client e r (FromServer s) has may = let x : Server ≡ Client = has.0 in cc
refused limits before p each Server e r (FromClient f) has may = let x : Client ≡ Server = has.0 in cc
refused limits before p each Client (Item e) r (FromClient f) has may = r.1 f has.1 may.0
refused limits before p each Server (Item e) r (FromServer s) has may = r.1 s has.1 may.0
refused limits before p each Client (Say e) r (FromClient f) has may =
    let v = conversation_of before in
    let same : r.0 ≡ f = client_inj limits.profile v.client r.0 f r.2 may.0 (r.1 ∙ sym has.1) in
    client_apart limits v f e each may (subst (λ z. IsClientRefusal limits v z e) same r.3)
refused limits before p each Server (Say e) r (FromServer s) has may =
    let v = conversation_of before in
    let same : r.0 ≡ s = server_inj v.client v.server r.0 s r.2 may.0 (r.1 ∙ sym has.1) in
    server_apart limits v s e may (subst (λ z. IsServerRefusal limits v z e) same r.3)

-- ---- the speaker's
module _ (s : SpeakerState) (p : List ℕ) where
  pub ok_client_payload : (x : Lanes) → x.max ≡ s.waiting.max → SaysClientPayload s.limits s.asked s.waiting p x → SaysPayload s Client p (record { limits = s.limits; asked = true; welcomed = s.welcomed; waiting = x })
  ok_client_payload x max k = (FromClient k.0, (refl, k.1), ok_client s (FromClient k.0) k.0 x refl max k.2)

  pub ok_server_payload : (x : Lanes) → x.max ≡ s.waiting.max → SaysServerPayload s.limits s.asked s.welcomed s.waiting p x → SaysPayload s Server p (record { limits = s.limits; asked = s.asked; welcomed = true; waiting = x })
  ok_server_payload x max k = (FromServer k.0, (refl, k.1), ok_server s (FromServer k.0) k.0 x refl max k.2)

  pub err_client_payload : (e : PayloadFault) → ((e ≡ Say NoMemory) ⊎ RefusesClientPayload s.limits s.asked s.waiting p e) → (e ≡ Say NoMemory) ⊎ RefusesPayload s Client p e
  err_client_payload e (inl wanting) = inl wanting
  err_client_payload e (inr all) = inr (λ before says. all s.welcomed (conversation_of before) says.heard)

  pub err_server_payload : (e : PayloadFault) → ((e ≡ Say NoMemory) ⊎ RefusesServerPayload s.limits s.asked s.welcomed s.waiting p e) → (e ≡ Say NoMemory) ⊎ RefusesPayload s Server p e
  err_server_payload e (inl wanting) = inl wanting
  err_server_payload e (inr all) = inr (λ before says. all (conversation_of before) says.heard)

  pub lacks_client_payload : StandsClientPayload s.limits s.asked s.waiting p → StandsPayload s Client p
  lacks_client_payload k = (FromClient k.0, (refl, k.1), λ before says. k.2 s.welcomed (conversation_of before) says.heard)

  pub lacks_server_payload : StandsServerPayload s.limits s.asked s.welcomed s.waiting p → StandsPayload s Server p
  lacks_server_payload k = (FromServer k.0, (refl, k.1), λ before says. k.2 (conversation_of before) says.heard)

  pub cannot_say : (side : Side) (e : PayloadFault) → ((e ≡ Say NoMemory) ⊎ RefusesPayload s side p e) → e ≢ Say NoMemory → CannotSay s side p
  cannot_say side e (inl wanting) known = absurd (known wanting)
  cannot_say side e (inr all) known = λ before says m has may. refused s.limits before p says.heard.may side e (all before says) m has may
