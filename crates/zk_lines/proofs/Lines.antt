-- A message's line is read as the message, and what is read has the line.
use Rattle.std.proofs.Common.{◌≡◌, ◌≢◌, ℕ, zero, suc, ℤ, List, [], ◌∷◌, ◌++◌, take, Option, Some, None, Result, Ok, Err, Bool, true, false, ◌==◌, ◌&&◌, refl, ap, sym, subst, ◌∙◌, cond, arith, bytes_eq, ne_eqb, ◌≤◌}
use Rattle.std.specs.Prelude.{codes, IfErr}
use Rattle.std.specs.{Fmt.signed_decimal, List.prefix_len, List.AllByRecursion}
use Rattle.std.proofs.lemmas.List.{append-nil}
use Rattle.zk_asks.specs.Held.{Ask, ClientFrame}
use Rattle.zk_asks.specs.declared.frame.ClientFrameOf.TheVariants as client
use Rattle.zk_answers.specs.Held.{Reply, ServerFrame}
use Rattle.zk_answers.specs.declared.frame.ServerFrameOf.TheVariants as server
use Rattle.zk_talk.specs.Held.{Message}
use Rattle.zk_talk.specs.declared.message.Kind.{Kind}
use Rattle.zk_talk.specs.declared.message.MessageOf.TheVariants as message
use Rattle.zk_items.specs.{declared.fault.LineFault.LineFault, declared.fault.LineReason.LineReason, Leaf.in_word, Leaf.in_number, Leaf.in_range}
use Rattle.zk_items.specs.declared.fault.LineReason.TheVariants as reasons
use Rattle.zk_records.specs.Held.{ConnectRequest, ConnectResponse, WatcherEvent}
use Rattle.zk_items.specs.Form.{Read, ◌>>=◌, read_map, led, word_at, Answers, Fails}
use Rattle.zk_items.proofs.{Forms.led_is, Forms.bind_some, Forms.word_sound, Numbers.wide, Numbers.written_value}
use Rattle.zk_lines.specs.{Words.word_of, Series.if_passed}
use Rattle.zk_lines.specs.Asks as asks
use Rattle.zk_lines.specs.Answers as answers
use Rattle.zk_lines.specs.Lines.{letters, client_at, server_at, client_line, server_line, ClientFits, ServerFits, line, Fits, whole, said, message_at, Reads}
use Rattle.zk_lines.proofs.{Named.mapped, Asks.connect_is, Asks.request_is, Answers.connected_is, Answers.event_is, Answers.reply_is}

-- ---- what begins with a number begins with no word

number_first : (c : ℕ) (w : List ℕ) → 58 ≤ c → (ds more : List ℕ) → AllByRecursion (λ b. in_number b ≡ true) ds → (n : ℕ) → bytes_eq (take n (ds ++ (32 ∷ more))) (c ∷ w) ≡ false
number_first c w high [] more all zero = refl
number_first c w high [] more all (suc n) =
    let other : (32 == c) ≡ false = ne_eqb 32 c (omega arith) in
    ap (λ (t : Bool). t && bytes_eq (take n more) w) other
number_first c w high (d ∷ ds) more all zero = refl
number_first c w high (d ∷ ds) more all (suc n) =
    let h : in_number d ≡ true = all.0 in
    let other : (d == c) ≡ false = grind (arith, h) in
    ap (λ (t : Bool). t && bytes_eq (take n (ds ++ (32 ∷ more))) w) other

number_letters : (c : ℕ) (w : List ℕ) → 58 ≤ c → (x : ℤ) (more : List ℕ) → in_range 31 x ≡ true → bytes_eq (letters (signed_decimal x ++ (32 ∷ more))) (c ∷ w) ≡ false
number_letters c w high x more fit = number_first c w high (signed_decimal x) more (written_value x (wide x fit)).1 (prefix_len in_word (signed_decimal x ++ (32 ∷ more)))

-- ---- the client's messages

whole_some : {X : Type 0} (r : Read X) (x : X) → whole r ≡ Some x → r ≡ Some (x, [])
whole_some None x e = absurd cc
whole_some (Some (y, [])) x e = ap (λ (o : Option _). o >>= λ y. Some (y, [])) e
whole_some (Some (y, b ∷ rest)) x e = absurd cc

-- what is read of a client's line, by what its letters are
abbrev pub asked_at : Bool → List ℕ → Read ClientFrame
asked_at first bytes =
    cond first (read_map (λ (p : ConnectRequest × Option Bool). client.Connect p.0 p.1) ((led (codes "connect") asks.connect).at bytes)) (read_map (λ (p : ℤ × Ask). client.Ask p.0 p.1) (asks.request.at bytes))

connect_again : (p : ConnectRequest × Option Bool) → asks.connect.fits p → client_at ((codes "connect" ++ asks.connect.spell p) ++ []) ≡ Some (client.Connect p.0 p.1, [])
unfolding word_of
connect_again p fit = ap (read_map (λ (p : ConnectRequest × Option Bool). client.Connect p.0 p.1)) ((led_is (codes "connect") asks.connect connect_is.lawful).again p [] fit refl)

ask_again : (xid : ℤ) (a : Ask) → asks.request.fits (xid, a) → client_at (asks.request.spell (xid, a) ++ []) ≡ Some (client.Ask xid a, [])
unfolding word_of
ask_again xid a fit =
    let bytes = asks.request.spell (xid, a) in
    ap client_at (append-nil bytes)
    ∙ ap (λ (t : Bool). asked_at t bytes) (number_letters 99 (codes "onnect") (omega arith) xid (asks.ask_form.spell a) fit.0)
    ∙ ap (λ (b : List ℕ). read_map (λ (p : ℤ × Ask). client.Ask p.0 p.1) (asks.request.at b)) (sym (append-nil bytes))
    ∙ ap (read_map (λ (p : ℤ × Ask). client.Ask p.0 p.1)) (request_is.again (xid, a) [] fit refl)

client_sound : (bytes : List ℕ) (f : ClientFrame) → whole (client_at bytes) ≡ Some f → (codes "C " ++ bytes ≡ client_line f) × ClientFits f
client_sound bytes f e = pick (bytes_eq (letters bytes) (codes "connect")) (whole_some (client_at bytes) f e) where
  Spelled : ClientFrame → Type 0
  Spelled f = (codes "C " ++ bytes ≡ client_line f) × ClientFits f

  pick : (t : Bool) → asked_at t bytes ≡ Some (f, []) → Spelled f
  pick true e =
      let m = mapped (led (codes "connect") asks.connect) (led_is (codes "connect") asks.connect connect_is.lawful) (λ (p : ConnectRequest × Option Bool). client.Connect p.0 p.1) bytes [] f e in
      subst Spelled m.1 (ap (λ (r : List ℕ). codes "C " ++ r) (m.2.0 ∙ append-nil (codes "connect" ++ asks.connect.spell m.0)), m.2.1)
  pick false e =
      let m = mapped asks.request request_is (λ (p : ℤ × Ask). client.Ask p.0 p.1) bytes [] f e in
      subst Spelled m.1 (ap (λ (r : List ℕ). codes "C " ++ r) (m.2.0 ∙ append-nil (asks.request.spell m.0)), m.2.1)

-- ---- the server's messages

connected_again : (p : ConnectResponse × Option Bool) → answers.connected.fits p → server_at ((codes "connect" ++ answers.connected.spell p) ++ []) ≡ Some (server.Connected p.0 p.1, [])
unfolding word_of
connected_again p fit = ap (read_map (λ (p : ConnectResponse × Option Bool). server.Connected p.0 p.1)) ((led_is (codes "connect") answers.connected connected_is.lawful).again p [] fit refl)

event_again : (p : ℤ × WatcherEvent) → answers.event.fits p → server_at ((codes "event" ++ answers.event.spell p) ++ []) ≡ Some (server.Event p.0 p.1, [])
unfolding word_of
event_again p fit = ap (read_map (λ (p : ℤ × WatcherEvent). server.Event p.0 p.1)) ((led_is (codes "event") answers.event event_is.lawful).again p [] fit refl)

-- what is read of a server's line, by what its letters are
abbrev pub answered_at : Bool → Bool → List ℕ → Read ServerFrame
answered_at first second bytes =
    cond first (read_map (λ (p : ConnectResponse × Option Bool). server.Connected p.0 p.1) ((led (codes "connect") answers.connected).at bytes))
    (cond second (read_map (λ (p : ℤ × WatcherEvent). server.Event p.0 p.1) ((led (codes "event") answers.event).at bytes)) (read_map server.Answered (answers.reply.at bytes)))

reply_again : (r : Reply) → answers.reply.fits r → server_at (answers.reply.spell r ++ []) ≡ Some (server.Answered r, [])
unfolding word_of
reply_again r fit =
    let bytes = answers.reply.spell r in
    let more = answers.named_outcome.spell (r.zxid, r.outcome) in
    ap server_at (append-nil bytes)
    ∙ ap (λ (t : Bool). answered_at t (bytes_eq (letters bytes) (codes "event")) bytes) (number_letters 99 (codes "onnect") (omega arith) r.xid more fit.0)
    ∙ ap (λ (t : Bool). answered_at false t bytes) (number_letters 101 (codes "vent") (omega arith) r.xid more fit.0)
    ∙ ap (λ (b : List ℕ). read_map server.Answered (answers.reply.at b)) (sym (append-nil bytes))
    ∙ ap (read_map server.Answered) (reply_is.again r [] fit refl)

server_sound : (bytes : List ℕ) (f : ServerFrame) → whole (server_at bytes) ≡ Some f → (codes "S " ++ bytes ≡ server_line f) × ServerFits f
server_sound bytes f e = pick (bytes_eq (letters bytes) (codes "connect")) (bytes_eq (letters bytes) (codes "event")) (whole_some (server_at bytes) f e) where
  Spelled : ServerFrame → Type 0
  Spelled f = (codes "S " ++ bytes ≡ server_line f) × ServerFits f

  pick : (t u : Bool) → answered_at t u bytes ≡ Some (f, []) → Spelled f
  pick true u e =
      let m = mapped (led (codes "connect") answers.connected) (led_is (codes "connect") answers.connected connected_is.lawful) (λ (p : ConnectResponse × Option Bool). server.Connected p.0 p.1) bytes [] f e in
      subst Spelled m.1 (ap (λ (r : List ℕ). codes "S " ++ r) (m.2.0 ∙ append-nil (codes "connect" ++ answers.connected.spell m.0)), m.2.1)
  pick false true e =
      let m = mapped (led (codes "event") answers.event) (led_is (codes "event") answers.event event_is.lawful) (λ (p : ℤ × WatcherEvent). server.Event p.0 p.1) bytes [] f e in
      subst Spelled m.1 (ap (λ (r : List ℕ). codes "S " ++ r) (m.2.0 ∙ append-nil (codes "event" ++ answers.event.spell m.0)), m.2.1)
  pick false false e =
      let m = mapped answers.reply reply_is server.Answered bytes [] f e in
      subst Spelled m.1 (ap (λ (r : List ℕ). codes "S " ++ r) (m.2.0 ∙ append-nil (answers.reply.spell m.0)), m.2.1)

-- ---- messages

client_again : (f : ClientFrame) → ClientFits f → message_at (client_line f) ≡ Some (message.Client f)
unfolding word_at
client_again (client.Connect hello read_only) fit =
    let bytes = codes "connect" ++ asks.connect.spell (hello, read_only) in
    ap (λ (b : List ℕ). said message.Client (whole (client_at b))) (sym (append-nil bytes)) ∙ ap (λ (r : Read ClientFrame). said message.Client (whole r)) (connect_again (hello, read_only) fit)
client_again (client.Ask xid a) fit =
    let bytes = asks.request.spell (xid, a) in
    ap (λ (b : List ℕ). said message.Client (whole (client_at b))) (sym (append-nil bytes)) ∙ ap (λ (r : Read ClientFrame). said message.Client (whole r)) (ask_again xid a fit)

server_again : (f : ServerFrame) → ServerFits f → message_at (server_line f) ≡ Some (message.Server f)
unfolding word_at
server_again (server.Connected hello read_only) fit =
    let bytes = codes "connect" ++ answers.connected.spell (hello, read_only) in
    ap (λ (b : List ℕ). said message.Server (whole (server_at b))) (sym (append-nil bytes)) ∙ ap (λ (r : Read ServerFrame). said message.Server (whole r)) (connected_again (hello, read_only) fit)
server_again (server.Answered r) fit =
    let bytes = answers.reply.spell r in
    ap (λ (b : List ℕ). said message.Server (whole (server_at b))) (sym (append-nil bytes)) ∙ ap (λ (r : Read ServerFrame). said message.Server (whole r)) (reply_again r fit)
server_again (server.Event zxid e) fit =
    let bytes = codes "event" ++ answers.event.spell (zxid, e) in
    ap (λ (b : List ℕ). said message.Server (whole (server_at b))) (sym (append-nil bytes)) ∙ ap (λ (r : Read ServerFrame). said message.Server (whole r)) (event_again (zxid, e) fit)

line_again : (m : Message) → Fits m → message_at (line m) ≡ Some m
line_again (message.Client f) fit = client_again f fit
line_again (message.Server f) fit = server_again f fit

-- a line is that of one message
pub line_apart : (m n : Message) → Fits m → Fits n → line m ≡ line n → m ≡ n
line_apart m n held other e = let k : Some m ≡ Some n = sym (line_again m held) ∙ ap message_at e ∙ line_again n other in cc

said_some : {X : Type 0} (side : X → Message) (o : Option X) (m : Message) → said side o ≡ Some m → (x : X) × (o ≡ Some x) × (side x ≡ m)
said_some side o m e =
    let b = bind_some o (λ f. Some (side f)) m e in
    (b.0, b.1, some_value (side b.0) m b.2) where
      some_value : (a b : Message) → ◌≡◌ {A = Option Message} (Some a) (Some b) → a ≡ b
      some_value a b e = cc

pub message_found : (bytes : List ℕ) (m : Message) → message_at bytes ≡ Some m → (bytes ≡ line m) × Fits m
message_found bytes m e = pick (word_at (codes "C ") bytes) refl e where
  Spelled : Message → Type 0
  Spelled m = (bytes ≡ line m) × Fits m

  pick : (o : Option (List ℕ)) → word_at (codes "C ") bytes ≡ o → if_passed o (λ rest. said message.Client (whole (client_at rest))) (word_at (codes "S ") bytes >>= λ rest. said message.Server (whole (server_at rest))) ≡ Some m → Spelled m
  pick (Some rest) is e =
      let s = said_some message.Client (whole (client_at rest)) m e in
      let c = client_sound rest s.0 s.1 in
      subst Spelled s.2 (word_sound (codes "C ") bytes rest is ∙ c.0, c.1)
  pick None none e =
      let a = bind_some (word_at (codes "S ") bytes) (λ rest. said message.Server (whole (server_at rest))) m e in
      let s = said_some message.Server (whole (server_at a.0)) m a.2 in
      let c = server_sound a.0 s.0 s.1 in
      subst Spelled s.2 (word_sound (codes "S ") bytes a.0 a.1 ∙ c.0, c.1)

named_memory : (r : LineReason) → (r ≢ reasons.NoMemory → ⊥) → r ≡ reasons.NoMemory
named_memory reasons.NoMemory h = refl
named_memory _ h = absurd (h (λ e. absurd cc))

pub line_only : (bytes : List ℕ) (r : Result Kind LineFault) → IfErr r (λ e. Fails e (message_at bytes)) → IfErr r (λ e. (m : Message) → Fits m → bytes ≡ line m → e.reason ≡ reasons.NoMemory)
line_only bytes (Ok k) h = tt
line_only bytes (Err x) h = λ m fit e. named_memory x.reason (λ other.
    let k : message_at bytes ≡ Some m = ap message_at e ∙ line_again m fit in
    let j : ◌≡◌ {A = Option Message} None (Some m) = sym (h other) ∙ k in cc)
