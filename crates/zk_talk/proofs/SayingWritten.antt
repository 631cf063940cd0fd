-- What a speaker knows of a message that it says by its kind and the bytes of its payload.
use Rattle.std.proofs.Common.{◌≡◌, ℕ, ◌≤◌, ◌⊎◌, inl, inr, List, [], ◌∷◌, ◌++◌, length, refl, sym, ap, ◌∙◌, subst, arith, Bool, true, false, MatchBool}
use Rattle.std.specs.Prelude.{Option}
use Rattle.zk_records.specs.declared.profile.Profile.{Profile}
use Rattle.zk_asks.specs.Held.{ClientFrame}
use Rattle.zk_asks.specs.declared.frame.ClientFrameOf.TheVariants.{Connect, Ask}
use Rattle.zk_answers.specs.Held.{ServerFrame}
use Rattle.zk_answers.specs.declared.frame.ServerFrameOf.TheVariants.{Connected, Answered, Event}
use Rattle.zk_answers.specs.Frames as answers
use Rattle.zk_waiting.specs.{declared.lane.Lane.Lane, Waiting.Lanes}
use Rattle.zk_talk.specs.{declared.limits.Limits.Limits, declared.message.Kind.Kind, Held.Message, Payloads.server_payload, Judged.IsInTurn, Judged.IsDue, Judged.IsForgotten, declared.replied.Replied.Replied}
use Rattle.zk_talk.specs.{declared.message.Side.Side, declared.say.SayFault.SayFault, declared.say.SayFault.TheVariants.NoMemory, Fault.side_limit}
use Rattle.zk_talk.specs.declared.message.Side.TheVariants.{Client, Server}
use Rattle.zk_talk.specs.declared.message.MessageOf.TheVariants.{Client as FromClient, Server as FromServer}
use Rattle.zk_talk.specs.declared.message.Kind.TheVariants as kinds
use Rattle.zk_talk.specs.{Settled.IsAwaited, Settled.IsHeard, Said.SpeakerState, Said.Says, Said.MaySay, Said.IsSayFault, Said.SaysClient, Said.SaysServer, Said.side_of, Said.payload_of}
use Rattle.zk_talk.specs.Written.{IsWritten, SaysKind, SaysClientKind, SaysServerKind, SaysWritten, SaysClientWritten, SaysServerWritten, RefusesWritten, CannotSayWritten, kind_of}
use Rattle.zk_talk.proofs.{Judging.due_waits, Speaking.ok_client, Speaking.ok_server, SayingPayloads.client_frame_said, SayingPayloads.server_frame_said, Alike.client_known, Alike.reply_known, Alike.event_known, Alike.connected_known}

-- ---- the client's

kind_now : (asked : Bool) (n : ℕ) → MatchBool asked (n ≡ 1) (n ≡ 0) → (kind : Kind) → MatchBool asked (kind ≡ kinds.Ask) (kind ≡ kinds.Connect) → (profile : Profile) (f : ClientFrame) → IsInTurn profile n f → kind_of (FromClient f) ≡ kind
kind_now true n k kind is profile (Connect t g) turn = let some : n ≡ 0 → ⊥ = (λ z. omega (arith, k, z)) in absurd ((turn.1 some).0)
kind_now true n k kind is profile (Ask xid ask) turn = sym is
kind_now false n k kind is profile (Connect t g) turn = sym is
kind_now false n k kind is profile (Ask xid ask) turn = absurd (turn.0 k)

module _ (limits : Limits) (asked : Bool) (n : ℕ) (spoken : MatchBool asked (n ≡ 1) (n ≡ 0)) (kind : Kind) (is : MatchBool asked (kind ≡ kinds.Ask) (kind ≡ kinds.Connect))
    (w x : Lanes) (p : List ℕ) (room : w.max ≡ limits.waiting) (small : length p ≤ limits.client) (f : ClientFrame) (a : IsAwaited limits.profile n 0 p w x f) where
  of_kind : kind_of (FromClient f) ≡ kind
  of_kind = kind_now asked n spoken kind is limits.profile f a.turn

  is_said : SaysClient limits asked w f x
  is_said = client_frame_said limits asked n spoken w p f a.turn a.sent a.is x room small a.waits

  pub client_kind : SaysClientKind limits asked kind w p x
  client_kind = (f, of_kind, a.is, is_said)

  pub client_written : SaysClientWritten limits asked kind w p x
  client_written = λ g written. subst (λ z. SaysClient limits asked w z x) (client_known kind p f g a.sent a.is of_kind written) is_said

-- ---- the server's

server_known : (kind : Kind) (p : List ℕ) (w : Lanes) (s t : ServerFrame) → kind_of (FromServer s) ≡ kind → IsDue s w → answers.IsSent s → server_payload s ≡ p → IsWritten kind p (FromServer t) → s ≡ t
server_known kind p w (Connected u y) t e due sent is written = connected_known p (Connected u y) t tt sent is (subst (λ (k : Kind). IsWritten k p (FromServer t)) (sym e) written)
server_known kind p w (Event z k) t e due sent is written = event_known p (Event z k) t tt sent is (subst (λ (k : Kind). IsWritten k p (FromServer t)) (sym e) written)
server_known kind p w (Answered r) t e due sent is written = known t (subst (λ (k : Kind). IsWritten k p (FromServer t)) (sym e) written)
  where
    known : (t : ServerFrame) → IsWritten (kinds.Answered (answers.op_of_reply r)) p (FromServer t) → Answered r ≡ t
    known (Connected u y) written = let e : kinds.Connected ≡ kinds.Answered (answers.op_of_reply r) = written.kind_is in absurd (cc)
    known (Event z k) written = let e : kinds.Event ≡ kinds.Answered (answers.op_of_reply r) = written.kind_is in absurd (cc)
    known (Answered q) written = reply_known due.0.op due.0.parts p r q due.2 sent is written

module _ (limits : Limits) (asked welcomed : Bool) (w x : Lanes) (p : List ℕ) (small : length p ≤ limits.server) (kind : Kind) (answer : Option (Lane × Replied)) (s : ServerFrame)
    (h : IsHeard asked welcomed p w answer s) (of_kind : kind_of (FromServer s) ≡ kind) (left : IsForgotten s w x) where
  is_answered : SaysServer limits asked welcomed w s x
  is_answered = server_frame_said limits asked welcomed w p s h.is h.may x (due_waits w s h.due) small left

  pub server_kind : SaysServerKind limits asked welcomed kind w p x
  server_kind = (s, of_kind, h.is, is_answered)

  pub server_written : SaysServerWritten limits asked welcomed kind w p x
  server_written = λ t written. subst (λ t. SaysServer limits asked welcomed w t x) (server_known kind p w s t of_kind h.due h.sent h.is written) is_answered

-- ---- the speaker's

module _ (s : SpeakerState) (kind : Kind) (p : List ℕ) (x : Lanes) (max : x.max ≡ s.waiting.max) where
  pub ok_client_written : ((m : Message) → kind_of m ≡ kind → side_of m ≡ Client) → SaysClientWritten s.limits s.asked kind s.waiting p x → SaysWritten s kind p (record { limits = s.limits; asked = true; welcomed = s.welcomed; waiting = x })
  ok_client_written side all (FromClient f) w = ok_client s (FromClient f) f x refl max (all f w)
  ok_client_written side all (FromServer t) w = let e : Server ≡ Client = side (FromServer t) w.kind_is in absurd (cc)

  pub ok_client_kind : SaysClientKind s.limits s.asked kind s.waiting p x → SaysKind s kind p (record { limits = s.limits; asked = true; welcomed = s.welcomed; waiting = x })
  ok_client_kind (f, of_kind, is, said) = (FromClient f, of_kind, is, ok_client s (FromClient f) f x refl max said)

  pub ok_server_written : ((m : Message) → kind_of m ≡ kind → side_of m ≡ Server) → SaysServerWritten s.limits s.asked s.welcomed kind s.waiting p x → SaysWritten s kind p (record { limits = s.limits; asked = s.asked; welcomed = true; waiting = x })
  ok_server_written side all (FromClient f) w = let e : Client ≡ Server = side (FromClient f) w.kind_is in absurd (cc)
  ok_server_written side all (FromServer t) w = ok_server s (FromServer t) t x refl max (all t w)

  pub ok_server_kind : SaysServerKind s.limits s.asked s.welcomed kind s.waiting p x → SaysKind s kind p (record { limits = s.limits; asked = s.asked; welcomed = true; waiting = x })
  ok_server_kind (f, of_kind, is, said) = (FromServer f, of_kind, is, ok_server s (FromServer f) f x refl max said)

-- ---- a message that is made

within_frame : (limits : Limits) (side : Side) → side_limit limits side ≤ 16777216
within_frame limits Client = omega (arith, limits.in_range)
within_frame limits Server = omega (arith, limits.in_range)

module _ (old : SpeakerState) (kind : Kind) (p : List ℕ) (m : Message) (only : (n : Message) → IsWritten kind p n → m ≡ n) where
  pub made_said : (new : SpeakerState) → ((before : List Message) → Says old before → MaySay old.limits before m × Says new (before ++ m ∷ [])) → SaysWritten old kind p new
  made_said new all n w = subst (λ z. (before : List Message) → Says old before → MaySay old.limits before z × Says new (before ++ z ∷ [])) (only n w) all

  pub made_there : (new : SpeakerState) → (n : Message) → IsWritten kind p n → ((before : List Message) → Says old before → MaySay old.limits before m × Says new (before ++ m ∷ [])) → SaysKind old kind p new
  made_there new n w all = (n, w.kind_is, w.is, made_said new all n w)

  pub made_small : (n : Message) → IsWritten kind p n → length (payload_of m) ≤ side_limit old.limits (side_of m) → length p ≤ 16777216
  made_small n w within = omega (arith, within, within_frame old.limits (side_of m), ap length (ap payload_of (only n w) ∙ w.is))

  pub made_refused : (e : SayFault) → (e ≡ NoMemory) ⊎ ((before : List Message) → Says old before → IsSayFault old.limits before m e) → (e ≡ NoMemory) ⊎ RefusesWritten old kind p e
  made_refused e (inl lacks) = inl lacks
  made_refused e (inr refused) = inr (λ n w. subst (λ z. (before : List Message) → Says old before → IsSayFault old.limits before z e) (only n w) refused)

  pub made_exact : ((before : List Message) → Says old before → MaySay old.limits before m → ⊥) → CannotSayWritten old kind p
  made_exact refused n w = subst (λ z. (before : List Message) → Says old before → MaySay old.limits before z → ⊥) (only n w) refused
