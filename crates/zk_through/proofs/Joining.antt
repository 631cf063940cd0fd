-- A connection that is seen late begins with a connect pair that nobody sent, which a talk takes.
use Rattle.std.proofs.Common.{◌≡◌, ℕ, ◌+◌, ◌<◌, ◌≤◌, ◌^◌, inl, inr, List, [], ◌∷◌, ◌++◌, length, drop, filter, replicate, refl, sym, ap, ◌∙◌, subst, arith, rules, true, false, Some, None, Ok, Err, negsuc}
use Rattle.std.specs.Prelude.{Result, IfOk, IfErr}
use Rattle.std.specs.List.{enumerate_from}
use Rattle.std.proofs.lemmas.List.{append-nil}
use Rattle.zk_jute.specs.{declared.value.Nullable.TheVariants.Null, declared.fault.Reason.TheVariants.NoMemory}
use Rattle.zk_asks.specs.{Held.ClientFrame, declared.frame.ClientFrameOf.TheVariants.Connect}
use Rattle.zk_answers.specs.{Held.ServerFrame, declared.frame.ServerFrameOf.TheVariants.Connected}
use Rattle.zk_frames.specs.Framing.{frame, int_bytes, IsCut}
use Rattle.zk_frames.proofs.Cuts.{length-frame}
use Rattle.zk_waiting.specs.declared.lane.Lane.{Lane}
use Rattle.zk_waiting.specs.declared.lane.Lane.TheVariants.{Ping, Auth, Watches, Plain}
use Rattle.zk_talk.specs.declared.message.Side.TheVariants.{Client, Server}
use Rattle.zk_talk.specs.declared.message.MessageOf.TheVariants.{Client as FromClient, Server as FromServer}
use Rattle.zk_talk.specs.{declared.message.Side.Side, declared.limits.Limits.Limits, declared.message.Fault.Fault, declared.talk.Stepped.Stepped, Held.Message, Payloads.client_payload, Payloads.server_payload}
use Rattle.zk_talk.specs.{History.History, History.side_bytes, History.on, Good.IsGood, Fault.IsFaultOf, Fault.side_limit, Stands.TalkState, Stands.Stands, Streams.StreamState, Taking.StepsOn, Taking.IsRefused, Taking.dropped}
use Rattle.zk_talk.proofs.{Histories.no_bytes, Small.small_limits, Standing.other-on, Standing.Runs as Spells, Replays.own_bytes, Spoken.none_spoken, Spoken.step, Headline.fault_is_bad, Headline.stands_alone, Stepping.stands_given, GoodSteps.load_here, Lists.both_empty}
use Rattle.zk_through.specs.{Came.payloads, Came.IsCutOn, Came.AreFrames, Came.told, LeftOut.is_on, LeftOut.asked, LeftOut.replied, LeftOut.Kept, LeftOut.NewestAnswers, Unseen.SeenAfter, Unseen.made_up}
use Rattle.zk_through.specs.Turns.{IsLane, AreLanes, AreRequests, waits_on, no_turns}
use Rattle.zk_through.specs.{Runs.Runs, Runs.AreStreams, Runs.of_side, Resumed.Hears, Resumed.IsWelcomed, Resumed.IsLate}
use Rattle.zk_through.proofs.Frames.{no_payloads, of_client, of_server, past_client, its_server, by_sides, whole_on}
use Rattle.zk_through.proofs.{Newest.newest_server, Telling.bytes_more, Telling.told_whole}

abbrev request : List ℕ
request = replicate 28 255

abbrev answer : List ℕ
answer = replicate 20 255

abbrev pub request_frame : List ℕ
request_frame = 0 ∷ 0 ∷ 0 ∷ 28 ∷ request

abbrev pub answer_frame : List ℕ
answer_frame = 0 ∷ 0 ∷ 0 ∷ 20 ∷ answer

pub request_is : request_frame ≡ frame request
unfolding frame int_bytes
request_is = refl

pub answer_is : answer_frame ≡ frame answer
unfolding frame int_bytes
answer_is = refl

-- ---- The talk takes it
abbrev connect : ClientFrame
connect = Connect (record { protocol_version = negsuc 0; last_zxid_seen = negsuc 0; time_out = negsuc 0; session_id = negsuc 0; passwd = Null }) None

abbrev connected : ServerFrame
connected = Connected (record { protocol_version = negsuc 0; time_out = negsuc 0; session_id = negsuc 0; passwd = Null }) None

connect_is : client_payload connect ≡ request
unfolding client_payload
connect_is = refl

connected_is : server_payload connected ≡ answer
unfolding server_payload
connected_is = refl

-- the history of the pair
abbrev pair : History
pair = on Client (frame request) ++ on Server (frame answer)

pair_is : told made_up ≡ pair
pair_is = ap (λ z. on Client (frame request) ++ z) (append-nil (on Server (frame answer)))

module _ (limits : Limits) where
  none : Spells limits [] (record { client = []; server = [] }) [] [] []
  none = none_spoken limits

  after_request : Spells limits (on Client (frame request)) (record { client = connect ∷ []; server = [] }) (FromClient connect ∷ []) [] []
  after_request =
      let fits : length (client_payload connect) ≤ limits.client = omega (arith, ap length connect_is, limits.in_range) in
      let size : length (side_bytes Client []) + length (frame (client_payload connect)) < 2 ^ 62 = omega (arith, ap length (no_bytes Client), ap length connect_is, length-frame (client_payload connect)) in
      subst (λ z. Spells limits (on Client (frame z)) (record { client = connect ∷ []; server = [] }) (FromClient connect ∷ []) [] []) connect_is
      (step limits [] (record { client = []; server = [] }) [] none (FromClient connect) fits ((tt, (tt, search (rules, arith))), omega (arith, limits.in_range)) size)

  after_answer : Spells limits pair (record { client = connect ∷ []; server = connected ∷ [] }) (FromClient connect ∷ FromServer connected ∷ []) [] []
  after_answer =
      let fits : length (server_payload connected) ≤ limits.server = omega (arith, ap length connected_is, limits.in_range) in
      let before : length (side_bytes Server (on Client (frame request))) ≡ 0 = ap length (other-on Client (frame request) [] ∙ no_bytes Server) in
      let size : length (side_bytes Server (on Client (frame request))) + length (frame (server_payload connected)) < 2 ^ 62 = omega (arith, before, ap length connected_is, length-frame (server_payload connected)) in
      subst (λ z. Spells limits (on Client (frame request) ++ on Server (frame z)) (record { client = connect ∷ []; server = connected ∷ [] }) (FromClient connect ∷ FromServer connected ∷ []) [] []) connected_is
      (step limits (on Client (frame request)) (record { client = connect ∷ []; server = [] }) (FromClient connect ∷ []) after_request (FromServer connected) fits ((tt, tt, search (rules, arith)), λ e. cc) size)

  pub request_good : IsGood limits (on Client (frame request))
  request_good = (record { client = connect ∷ []; server = [] }, [], [], after_request.good)

  pub answer_good : IsGood limits pair
  answer_good = (record { client = connect ∷ []; server = connected ∷ [] }, [], [], after_answer.good)

-- a frame that may come next is taken
pub heard : (old new : TalkState) (side : Side) (p : List ℕ) (result : Result Stepped Fault) → new.limits ≡ old.limits → IfOk result (λ s. StepsOn old side (frame p) s.used s.whole new) →
    IfOk result (λ s. s.whole ≡ false → s.used ≡ length (frame p)) → IfErr result (λ e. (e.reason ≡ NoMemory → ⊥) × IsRefused old side (frame p) e new) → Hears old side p new
heard old new side p (Ok s) same ok exact err h M st ends fits good =
    let t = told_whole old new p s.used same (small_limits old.limits) side s.whole fits ok exact h M st ends.0 ends.1 in
    (t.0, t.2, t.3, t.4)
heard old new side p (Err e) same ok exact err h M st ends fits good =
    absurd (fault_is_bad old.limits (h ++ on side (frame p)) e (subst (λ (l : Limits). IsFaultOf l (h ++ on side (frame p)) e) same (err.1 h M st).is) good)

-- so it has taken the pair
pub welcomed : (begun asked new : TalkState) → Stands begun [] [] → (begun.client_held ≡ []) × (begun.server_held ≡ []) → asked.limits ≡ begun.limits → Hears begun Client request asked → Hears asked Server answer new →
    (M : List Message) × Stands new (told made_up) M × (new.client_held ≡ []) × (new.server_held ≡ [])
welcomed begun asked new st ends same asks answers =
    let limits = begun.limits in
    let a = asks [] [] st ends (omega (arith, limits.in_range)) (request_good limits) in
    let other = asked.limits in
    let b = answers (on Client (frame request)) (a.0 ∷ []) a.1 (a.2, a.3) (omega (arith, other.in_range)) (answer_good other) in
    (a.0 ∷ b.0 ∷ [], subst (λ z. Stands new z (a.0 ∷ b.0 ∷ [])) (sym pair_is) b.1, b.2, b.3)

pub nothing_held : (t : TalkState) → Stands t [] [] → (t.client_held ≡ []) × (t.server_held ≡ [])
nothing_held t st = let x = stands_alone t [] [] st (record { client = []; server = [] }) [] [] (none_spoken t.limits).good in (x.1, x.2)

-- ---- The passage runs from it on
-- both are seen, also late, and neither is left out
pair_seen : SeenAfter [] made_up made_up
pair_seen = inr ((λ u. u), (Server, answer) ∷ [], refl, inr ((λ u. u.0 (past_client request [] ∙ no_payloads Server)), [], refl, refl))

pair_kept : (limits : Limits) → Kept limits.profile made_up made_up
pair_kept limits = inr ((λ u. u.0 (no_payloads Client)), (Server, answer) ∷ [], refl, inr ((λ u. u.0 (past_client request [] ∙ no_payloads Server)), [], refl, refl))

its_request : payloads Client made_up ≡ request ∷ []
its_request = of_client request ((Server, answer) ∷ []) ∙ ap (λ z. request ∷ z) (of_server answer [] ∙ no_payloads Client)

its_answer : payloads Server made_up ≡ answer ∷ []
its_answer = past_client request ((Server, answer) ∷ []) ∙ its_server answer [] ∙ ap (λ z. answer ∷ z) (no_payloads Server)

none_asked : (lane : Lane) → asked lane made_up ≡ []
none_asked lane = ap (λ z. filter (λ (x : ℕ × List ℕ). is_on lane 8 x.1) (drop 1 (enumerate_from 0 z))) its_request

none_replied : (lane : Lane) → replied lane made_up ≡ 0
none_replied lane = ap (λ z. length (filter (is_on lane 16) (drop 1 z))) its_answer

pair_lane : (limits : Limits) (lane : Lane) → IsLane limits.profile lane made_up []
pair_lane limits lane = record {
  paired = omega (arith, none_replied lane);
  are = subst (AreRequests limits.profile []) (sym (λ i. drop (none_replied lane i) (none_asked lane i))) tt;
}

pair_lanes : (limits : Limits) (room : ℕ) → AreLanes limits.profile made_up (no_turns room)
pair_lanes limits room = record {
  lane = λ l. each l;
  left = record { ping = 0; auth = 0; watches = 0; plain = 0; pings = refl; auths = refl; of_watches = refl; of_plain = refl; all = refl };
}
  where
    each : (l : Lane) → IsLane limits.profile l made_up (waits_on l (no_turns room))
    each Ping = pair_lane limits Ping
    each Auth = pair_lane limits Auth
    each Watches = pair_lane limits Watches
    each Plain = pair_lane limits Plain

pair_answers : NewestAnswers made_up (Some 0)
pair_answers = newest_server ((Client, request) ∷ []) (Some 0) answer (inl (past_client request [] ∙ no_payloads Server, refl))

-- a side after its frame of the pair
abbrev pub behind : ℕ → ℕ → StreamState
behind limit size = record { limit = limit; held = []; kept = []; count = 1; size = size }

none_came : (limits : Limits) → AreFrames limits [] [] (λ side. [])
none_came limits = record { cut = cut; fronts = λ front rest e. ([], [], refl, λ side. ([], subst (λ z. IsCutOn limits z [] side []) (sym (both_empty front rest (sym e)).0) (cut side))) }
  where
    cut : (side : Side) → IsCutOn limits [] [] side []
    cut side = subst (λ z. IsCut (side_limit limits side) (side_bytes side []) z []) (sym (no_payloads side)) (record { whole = no_bytes side; within = tt; beginning = inl (omega arith) })

module _ (limits : Limits) (a b : ℕ) where
  abbrev rest : Side → List ℕ
  rest side = (of_side side (behind a 32) (behind b 24)).held

  pair_came : AreFrames limits pair made_up rest
  pair_came =
      let r = whole_on limits Client (frame request) [] [] (λ side. []) (none_came limits) (λ side. []) refl refl request (omega (arith, limits.in_range)) refl in
      whole_on limits Server (frame answer) (on Client (frame request)) ((Client, request) ∷ []) (λ side. []) r rest refl refl answer (omega (arith, limits.in_range)) refl

  client_bytes : side_bytes Client pair ≡ frame request
  client_bytes = other-on Server (frame answer) (on Client (frame request)) ∙ own_bytes Client (frame request)

  server_bytes : side_bytes Server pair ≡ frame answer
  server_bytes =
      bytes_more Server (on Client (frame request)) (frame answer) ∙ ap (λ z. z ++ frame answer) (other-on Client (frame request) [] ∙ no_bytes Server)

  pub runs_late : (talk : TalkState) → talk.limits ≡ limits → (M : List Message) → Stands talk (told made_up) M → (talk.client_held ≡ []) × (talk.server_held ≡ []) → (room : ℕ) →
      Runs (record { talk = talk; client = behind a 32; server = behind b 24; turns = no_turns room; late = true; matched = false; answered = Some 0; fault = None })
      (told made_up) made_up made_up M
  runs_late talk same M stands alone room = record {
    all = made_up;
    streams = subst (λ (l : Limits). AreStreams l (behind a 32) (behind b 24) (told made_up) made_up) (sym same)
        (subst (λ (z : History). AreStreams limits (behind a 32) (behind b 24) z made_up) (sym pair_is) (record {
          frames = pair_came;
          counts = by_sides _ Client (sym (ap length its_request)) (sym (ap length its_answer));
          sizes = by_sides _ Client (omega (arith, ap length client_bytes, length-frame request)) (omega (arith, ap length server_bytes, length-frame answer));
        }));
    seen = pair_seen;
    matched = λ e. none_replied Plain;
    gives = record {
      kept = pair_kept talk.limits;
      stands = stands;
      alone = alone;
      lanes = pair_lanes talk.limits room;
      few = omega arith;
      answered = pair_answers;
      room = λ v g. omega (arith, load_here talk.limits (told made_up) v [] [] g);
    };
    no_fault = refl;
  }

-- the talk that has taken the pair, and keeps nothing of it
pub let_go : (t : TalkState) → (x : (M : List Message) × Stands t (told made_up) M × (t.client_held ≡ []) × (t.server_held ≡ [])) → IsWelcomed (dropped Server (dropped Client t))
let_go t x = record {
  messages = x.0;
  stands = stands_given Server (dropped Client t) (told made_up) x.0 (stands_given Client t (told made_up) x.0 x.1);
  held = (x.2, x.3);
  none = by_sides _ Client refl refl;
}

pub is_late : (talk : TalkState) → IsWelcomed talk → (a b room : ℕ) →
    IsLate (record { talk = talk; client = behind a 32; server = behind b 24; turns = no_turns room; late = true; matched = false; answered = Some 0; fault = None })
is_late talk w a b room = record {
  late = refl;
  runs = (w.messages, runs_late talk.limits a b talk refl w.messages w.stands w.held room);
  none = (by_sides _ Client refl refl, w.none);
}
