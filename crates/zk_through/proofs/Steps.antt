-- What a conversation comes to with one piece more.
use Rattle.std.proofs.Common.{◌≡◌, ℕ, ◌+◌, ◌<◌, ◌≤◌, ◌^◌, inl, List, [], ◌∷◌, ◌++◌, length, take, drop, refl, sym, ap, ◌∙◌, subst, arith, length-append, Bool, true, false, Option, Some, None, Ok, filter}
use Rattle.std.proofs.lemmas.List.{append-nil, length_push, length-take-le, nil_from_length}
use Rattle.std.specs.List.{enumerate_from}
use Rattle.zk_frames.specs.Framing.{frame, IsBeginning, IsCut, IsFrame}
use Rattle.zk_waiting.specs.{declared.lane.Lane.Lane, declared.lane.Lane.TheVariants.Ping, declared.lane.Lane.TheVariants.Plain, Waiting.count_of}
use Rattle.zk_talk.specs.{declared.message.Side.Side, Fault.side_limit, declared.message.Fault.Fault, Receiving.CameWithin, Receiving.CameWhole, Receiving.IsReceived, Viewed.other_side, declared.limits.Limits.Limits, Held.Message}
use Rattle.zk_talk.specs.declared.message.Side.TheVariants.{Client, Server}
use Rattle.zk_talk.proofs.{Answering.received, Bodies.frame_once, GoodSteps.load_here, Histories.no_bytes, Lists.both_empty, Standing.bytes-on, Standing.other-on}
use Rattle.zk_talk.specs.{History.History, History.side_bytes, History.on, Stands.TalkState, Stands.Stands, Streams.StreamState, Streams.IsAtFrame, Streams.passed, Conversation.Conversation, Conversation.load, Good.Good, Good.client_bytes, Good.server_bytes}
use Rattle.zk_through.specs.declared.through.StepOutcome.TheVariants as outcome
use Rattle.zk_through.specs.{Came.Came, Came.payloads, Came.IsCutOn, Came.AreFrames, Came.told, Unseen.IsUnseen, Unseen.Seen, Unseen.IsSeen, Unseen.TellsMatched}
use Rattle.zk_through.specs.LeftOut.{is_on, asked, replied, Kept, NewestAnswers}
use Rattle.zk_through.specs.Turns.{IsLane, AreLanes, AreRequests, waits_on, no_turns, left_out, number_of_turns}
use Rattle.zk_through.specs.Runs.{ThroughState, AreStreams, Runs, GoesOnTold, HasOutcome, KeepsShown, of_side, stream_on}
use Rattle.zk_through.proofs.{Seen.seen_more, Seen.passed_over, Newest.newest_none}
use Rattle.zk_through.proofs.Frames.{no_payloads, payloads-same, payloads-other, by_sides, within_on, whole_on}

pub nothing_more : (t : ThroughState) (h : History) (c k : Came) (M : List Message) → Runs t h c k M → Runs t h (c ++ []) (k ++ []) (M ++ [])
nothing_more t h c k M r =
    subst (λ z. Runs t h z (k ++ []) (M ++ [])) (sym (append-nil c)) (subst (λ z. Runs t h c z (M ++ [])) (sym (append-nil k)) (subst (λ z. Runs t h c k z) (sym (append-nil M)) r))

-- the sides have these streams, and all but the frames and the bytes that came is as before
module _ (t : ThroughState) (x y : StreamState) (late matched : Bool) (h h' : History) (c k : Came) (M : List Message) (r : Runs t h c k M) (all : Came) where
  unfoldable pub with_streams : AreStreams t.talk.limits x y h' all → Seen late all c → (late ≡ true → TellsMatched matched c) → Runs (record t { client = x; server = y; late = late; matched = matched }) h' c k M
  with_streams streams seen replies = record { all = all; streams = streams; seen = seen; matched = replies; gives = r.gives; no_fault = r.no_fault }

-- the side's stream has these bytes and frames more, and the other is as it was
streams_on : (side : Side) (old new : ThroughState) (bs : List ℕ) (h : History) (c k : Came) (M : List Message) (r : Runs old h c k M) (all : Came) → AreFrames old.talk.limits (h ++ on side bs) all (λ z. (stream_on z new).held) →
    payloads (other_side side) all ≡ payloads (other_side side) r.all → stream_on (other_side side) new ≡ stream_on (other_side side) old →
    (stream_on side new).count ≡ length (payloads side all) → (stream_on side new).size ≡ (stream_on side old).size + length bs → AreStreams old.talk.limits new.client new.server (h ++ on side bs) all
streams_on side old new bs h c k M r all frames same other count size = record {
  frames = frames;
  counts = by_sides _ side count (ap (λ (z : StreamState). z.count) other ∙ r.counts (other_side side) ∙ ap length (sym same));
  sizes = by_sides _ side (omega (arith, size, r.sizes side, bytes-on side bs h)) (ap (λ (z : StreamState). z.size) other ∙ r.sizes (other_side side) ∙ ap length (sym (other-on side bs h)));
}

-- what is so of a side before a step
pub record IsReady (side : Side) (old : ThroughState) : Type 0 where
  pub limit : (stream_on side old).limit ≡ side_limit old.talk.limits side
  pub none : (stream_on side old).kept ≡ []
  pub room : old.turns.room ≡ old.talk.limits.waiting

pub ready : (side : Side) (old shown : ThroughState) (l : Limits) → old.talk.limits ≡ l → (stream_on side old).limit ≡ side_limit l side → old.turns.room ≡ l.waiting → old ≡ shown → (stream_on side shown).kept ≡ [] → IsReady side old
ready side old shown l same fits room is none = record {
  limit = fits ∙ ap (λ (z : Limits). side_limit z side) (sym same);
  none = ap (λ (t : ThroughState). (stream_on side t).kept) is ∙ none;
  room = room ∙ ap (λ (z : Limits). z.waiting) (sym same);
}

-- ---- Within a frame
pub outcome_within : (side : Side) (old new : ThroughState) (piece : List ℕ) → IsReady side old → CameWithin (stream_on side old) piece (stream_on side new) → stream_on (other_side side) new ≡ stream_on (other_side side) old →
    new ≡ record old { client = new.client; server = new.server } → HasOutcome old side piece (length piece) outcome.Within new
outcome_within side old new piece x w other is = (
  refl,
  ap (λ (z : StreamState). z.kept) w.is ∙ x.none,
  λ h c k M r.
      let held = ap (λ (z : StreamState). z.held) w.is ∙ w.advance.0 in
      let begin = subst (λ z. IsBeginning z ((stream_on side old).held ++ piece)) x.limit w.advance.1 in
      let frames = within_on old.talk.limits side piece h r.all (λ z. (stream_on z old).held) r.frames (λ z. (stream_on z new).held) held (ap (λ (z : StreamState). z.held) other) begin in
      let streams = streams_on side old new piece h c k M r r.all frames refl other (ap (λ (z : StreamState). z.count) w.is ∙ r.counts side) (ap (λ (z : StreamState). z.size) w.is) in
      nothing_more new (h ++ on side piece) c k M
      (subst (λ (z : ThroughState). Runs z (h ++ on side piece) c k M) (sym is) (with_streams old new.client new.server old.late old.matched h (h ++ on side piece) c k M r r.all streams r.seen r.matched)),
  subst (λ (z : ThroughState). KeepsShown side old z) (sym is) (refl, λ m shows. shows),
)

-- ---- A whole frame
-- the frame, where it is made whole by some of the piece
pub record WholeCame (side : Side) (old : ThroughState) (piece : List ℕ) (used : ℕ) (s : StreamState) : Type 0 where
  pub p : List ℕ
  pub held : s.held ≡ frame p
  pub stays : s ≡ record (stream_on side old) { held = s.held }
  pub some : 0 < used
  pub part : used ≤ length piece
  pub small : (stream_on side old).size + used < 2 ^ 62
  pub fits : length p ≤ side_limit old.talk.limits side
  pub is : (stream_on side old).held ++ take used piece ≡ frame p
  pub none : s.kept ≡ []
  pub count : s.count ≡ (stream_on side old).count
  pub ready : IsReady side old
  pub open ready use {room}

pub whole_came : (side : Side) (old : ThroughState) (piece : List ℕ) (used : ℕ) (s : StreamState) → IsReady side old → CameWhole (stream_on side old) piece used s → WholeCame side old piece used s
whole_came side old piece used s x w =
    let whole : (p : List ℕ) × (s.held ≡ frame p) × (length p ≤ (stream_on side old).limit) = w.advance.4 in
    record {
      p = whole.0;
      held = whole.1;
      stays = w.stays;
      some = w.advance.0;
      part = w.advance.1;
      small = w.advance.2;
      fits = omega (arith, whole.2, x.limit);
      is = sym w.advance.3 ∙ whole.1;
      none = ap (λ (z : StreamState). z.kept) w.stays ∙ x.none;
      count = ap (λ (z : StreamState). z.count) w.stays;
      ready = x;
    }

pub received_whole : {side : Side} {old : ThroughState} → IsReady side old → (piece : List ℕ) (used : ℕ) (kept : Option Fault) (s : StreamState) (keeps : Option Fault) {a : Option ℕ} → a ≡ Some used → IsReceived side (stream_on side old) piece kept (Ok a) s keeps →
    WholeCame side old piece used s × (keeps ≡ kept)
received_whole {side} {old} x piece used kept s keeps e r =
    let w = received side (stream_on side old) piece kept s keeps e r in
    (whole_came side old piece used s x w.0, w.1)

-- the side is at the frame's end
pub at_frame : (old s : StreamState) (piece : List ℕ) (used : ℕ) → CameWhole old piece used s → old.limit ≤ 16777216 → old.count ≤ old.size → IsAtFrame s used
at_frame old s piece used w small count =
    let limit : s.limit ≡ old.limit = ap (λ (z : StreamState). z.limit) w.stays in
    let size : s.size ≡ old.size = ap (λ (z : StreamState). z.size) w.stays in
    let number : s.count ≡ old.count = ap (λ (z : StreamState). z.count) w.stays in
    record {
      whole = subst (λ z. IsFrame z s.held) (sym limit) w.advance.4;
      limit = omega (arith, small, limit);
      part = omega (arith, ap length w.advance.3, length-append old.held (take used piece), length-take-le used piece w.advance.1);
      size = omega (arith, w.advance.2, size);
      count = omega (arith, count, number, size);
    }

-- it carries this payload
abbrev pub carrying : {side : Side} {old : ThroughState} {piece : List ℕ} {used : ℕ} {s : StreamState} → WholeCame side old piece used s → (payload : List ℕ) → s.held ≡ frame payload → WholeCame side old piece used s
carrying {side} {old} {piece} {used} {s} w payload held = record {
  p = payload;
  held = held;
  stays = w.stays;
  some = w.some;
  part = w.part;
  small = w.small;
  fits = subst (λ (z : List ℕ). length z ≤ side_limit old.talk.limits side) (frame_once w.p payload (sym w.held ∙ held)) w.fits;
  is = w.is ∙ sym w.held ∙ held;
  none = w.none;
  count = w.count;
  ready = w.ready;
}

-- what is the same whatever becomes of the side's frame
pub record FrameCame (side : Side) (old new : ThroughState) (piece : List ℕ) (used : ℕ) (p : List ℕ) : Type 0 where
  pub some : 0 < used
  pub part : used ≤ length piece
  pub fits : length p ≤ side_limit old.talk.limits side
  pub is : (stream_on side old).held ++ take used piece ≡ frame p
  pub limits : new.talk.limits ≡ old.talk.limits
  pub held : (stream_on side new).held ≡ []
  pub count : (stream_on side new).count ≡ (stream_on side old).count + 1
  pub size : (stream_on side new).size ≡ (stream_on side old).size + used
  pub other : stream_on (other_side side) new ≡ stream_on (other_side side) old
  pub late : new.late ≡ old.late
  pub fault : new.fault ≡ old.fault

module _ (side : Side) (old new : ThroughState) (piece : List ℕ) (used : ℕ) (s : StreamState) (w : WholeCame side old piece used s) (limits : new.talk.limits ≡ old.talk.limits) (other : stream_on (other_side side) new ≡ stream_on (other_side side) old)
    (late : new.late ≡ old.late) (fault : new.fault ≡ old.fault) where
  -- it is counted, and this is kept of it
  pub has_come : (kept : List ℕ) → stream_on side new ≡ record s { held = []; kept = kept; count = s.count + 1; size = s.size + used } → FrameCame side old new piece used w.p
  has_come kept is = record {
    some = w.some;
    part = w.part;
    fits = w.fits;
    is = w.is;
    limits = limits;
    held = ap (λ (z : StreamState). z.held) is;
    count = ap (λ (z : StreamState). z.count) is ∙ ap (λ z. z + 1) w.count;
    size = ap (λ (z : StreamState). z.size) is ∙ ap (λ (z : StreamState). z.size + used) w.stays;
    other = other;
    late = late;
    fault = fault;
  }

  -- the talk was told it
  pub outcome_told : stream_on side new ≡ passed s used → (FrameCame side old new piece used w.p → GoesOnTold old side (take used piece) w.p new) → HasOutcome old side piece used outcome.Message new
  outcome_told is goes = (w.part, ap (λ (z : StreamState). z.kept) is ∙ w.none, w.p, goes (has_come s.kept is))

module _ (old new : ThroughState) (piece : List ℕ) (used : ℕ) (p : List ℕ) where
  -- the streams hold what comes after the frame
  are_after : (side : Side) → FrameCame side old new piece used p → (h : History) (c k : Came) (M : List Message) (r : Runs old h c k M) → AreStreams old.talk.limits new.client new.server (h ++ on side (take used piece)) (r.all ++ (side, p) ∷ [])
  are_after side x h c k M r =
      let t = take used piece in
      let frames = whole_on old.talk.limits side t h r.all (λ z. (stream_on z old).held) r.frames (λ z. (stream_on z new).held) x.held (ap (λ (z : StreamState). z.held) x.other) p x.fits x.is in
      streams_on side old new t h c k M r (r.all ++ (side, p) ∷ []) frames (payloads-other side r.all p) x.other
      (omega (arith, x.count, r.counts side, ap length (payloads-same side r.all p), length_push (payloads side r.all) p)) (omega (arith, x.size, length-take-le used piece x.part))

  pub frame_came : (side : Side) → FrameCame side old new piece used p → (h : History) (c k : Came) (M : List Message) → Runs old h c k M → (k' : Came) (M' : List Message) →
      Kept old.talk.limits.profile (c ++ (side, p) ∷ []) k' → Stands new.talk (told k') M' → (new.talk.client_held ≡ []) × (new.talk.server_held ≡ []) →
      AreLanes old.talk.limits.profile (c ++ (side, p) ∷ []) new.turns →
      ((v : Conversation) → Good old.talk.limits (told k') v [] [] → load v.client v.server + left_out new.turns ≤ old.talk.limits.waiting) →
      number_of_turns new.turns ≤ count_of new.talk.waiting + left_out new.turns → NewestAnswers (c ++ (side, p) ∷ []) new.answered →
      IsSeen old.late c (side, p) → (new.late ≡ true → TellsMatched new.matched (c ++ (side, p) ∷ [])) →
      Runs new (h ++ on side (take used piece)) (c ++ (side, p) ∷ []) k' M'
  frame_came side x h c k M r k' M' kept stands alone lanes room few answered stays replies = record {
    all = r.all ++ (side, p) ∷ [];
    streams = subst (λ (l : Limits). AreStreams l new.client new.server (h ++ on side (take used piece)) (r.all ++ (side, p) ∷ [])) (sym x.limits) (are_after side x h c k M r);
    seen = subst (λ z. Seen z (r.all ++ (side, p) ∷ []) (c ++ (side, p) ∷ [])) (sym x.late) (seen_more (side, p) old.late r.all c r.seen stays);
    matched = replies;
    gives = record {
      kept = subst (λ (l : Limits). Kept l.profile (c ++ (side, p) ∷ []) k') (sym x.limits) kept;
      stands = stands;
      alone = alone;
      lanes = subst (λ (l : Limits). AreLanes l.profile (c ++ (side, p) ∷ []) new.turns) (sym x.limits) lanes;
      few = few;
      answered = answered;
      room = subst (λ (l : Limits). (v : Conversation) → Good l (told k') v [] [] → load v.client v.server + left_out new.turns ≤ l.waiting) (sym x.limits) room;
    };
    no_fault = x.fault ∙ r.no_fault;
  }

  -- the server's frame is passed over, and nothing else is changed
  pub over_came : FrameCame Server old new piece used p → new.talk ≡ old.talk → new.turns ≡ old.turns → new.matched ≡ old.matched → new.answered ≡ old.answered → old.late ≡ true → (h : History) (c k : Came) (M : List Message) (r : Runs old h c k M) →
      IsUnseen c (Server, p) → (s : Runs new (h ++ on Server (take used piece)) c k M) × (s.all ≡ r.all ++ (Server, p) ∷ [])
  unfolding with_streams
  over_came x talk turns matched answered late h c k M r u =
      let before : ThroughState = record old { client = new.client; server = new.server; late = new.late; matched = old.matched } in
      let is : new ≡ before = λ i. record before { talk = talk i; turns = turns i; matched = matched i; answered = answered i; fault = x.fault i } in
      let seen = subst (λ z. Seen z (r.all ++ (Server, p) ∷ []) c) (sym x.late) (passed_over (Server, p) old.late r.all c late r.seen u) in
      let s = with_streams old new.client new.server new.late old.matched h (h ++ on Server (take used piece)) c k M r (r.all ++ (Server, p) ∷ []) (are_after Server x h c k M r) seen (λ _. r.matched late) in
      subst (λ (z : ThroughState). (s : Runs z (h ++ on Server (take used piece)) c k M) × (s.all ≡ r.all ++ (Server, p) ∷ [])) (sym is) (s, refl)

-- ---- The start
-- a side of which nothing came
abbrev pub no_stream : ℕ → StreamState
no_stream limit = record { limit = limit; held = []; kept = []; count = 0; size = 0 }

module _ (talk : TalkState) (client server : StreamState) (stands : Stands talk [] []) where
  no_client : talk.client_held ≡ []
  no_client = nil_from_length talk.client_held (omega (arith, ap length (no_bytes Client), ap length stands.good.whole.client_cut.whole, length-append (client_bytes stands.conversation.client) talk.client_held))

  no_server : talk.server_held ≡ []
  no_server = nil_from_length talk.server_held (omega (arith, ap length (no_bytes Server), ap length stands.good.whole.server_cut.whole, length-append (server_bytes stands.conversation.server) talk.server_held))

  start_cut : (side : Side) → IsCutOn talk.limits [] [] side []
  start_cut side = subst (λ z. IsCut (side_limit talk.limits side) (side_bytes side []) z []) (sym (no_payloads side)) (record { whole = no_bytes side; within = tt; beginning = inl (omega arith) })

  no_lane : (lane : Lane) → IsLane talk.limits.profile lane [] []
  no_lane lane =
      let asks : asked lane [] ≡ [] = ap (λ z. filter (λ (x : ℕ × List ℕ). is_on lane 8 x.1) (drop 1 (enumerate_from 0 z))) (no_payloads Client) in
      let rs : replied lane [] ≡ 0 = ap (λ z. length (filter (is_on lane 16) (drop 1 z))) (no_payloads Server) in
      record { paired = omega (arith, rs); are = subst (AreRequests talk.limits.profile []) (sym (λ i. drop (rs i) (asks i))) tt }

  no_lanes : (room : ℕ) → AreLanes talk.limits.profile [] (no_turns room)
  no_lanes room = record {
    lane = λ l. each l;
    left = record { ping = 0; auth = 0; watches = 0; plain = 0; pings = refl; auths = refl; of_watches = refl; of_plain = refl; all = refl };
  }
    where
      each : (l : Lane) → IsLane talk.limits.profile l [] (waits_on l (no_turns room))
      each Ping = no_lane Ping
      each l = no_lane l

  pub runs_start : (room a b : ℕ) → client ≡ no_stream a → server ≡ no_stream b →
      Runs (record { talk = talk; client = client; server = server; turns = no_turns room; late = false; matched = false; answered = None; fault = None }) [] [] [] []
  runs_start room a b e f = record {
    all = [];
    streams = record {
      frames = record {
        cut = λ side. subst (IsCutOn talk.limits [] [] side) (sym (ap (λ (z : StreamState). z.held) (is side).1)) (start_cut side);
        fronts = λ front rest e. ([], [], refl, λ side. ([], subst (λ z. IsCutOn talk.limits z [] side []) (sym (both_empty front rest (sym e)).0) (start_cut side)));
      };
      counts = λ side. ap (λ (z : StreamState). z.count) (is side).1 ∙ sym (ap length (no_payloads side));
      sizes = λ side. ap (λ (z : StreamState). z.size) (is side).1 ∙ sym (ap length (no_bytes side));
    };
    seen = refl;
    matched = λ e. ap (λ z. length (filter (is_on Plain 16) (drop 1 z))) (no_payloads Server);
    gives = record {
      kept = refl;
      stands = stands;
      alone = (no_client, no_server);
      lanes = no_lanes room;
      few = omega arith;
      answered = newest_none;
      room = λ v g. omega (arith, load_here talk.limits [] v [] [] g);
    };
    no_fault = refl;
  }
    where
      is : (side : Side) → (limit : ℕ) × (of_side side client server ≡ no_stream limit)
      is = by_sides _ Client (a, e) (b, f)
