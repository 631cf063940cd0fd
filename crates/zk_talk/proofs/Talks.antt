-- What a talk stands for after a piece.
use Rattle.std.proofs.Common.{◌≡◌, ◌≢◌, ℕ, ◌+◌, ◌<◌, ◌≤◌, ◌^◌, List, [], ◌∷◌, ◌++◌, length, refl, sym, ap, ◌∙◌, subst, arith, append_assoc, Option, Some}
use Rattle.std.proofs.lemmas.List.{map-append, length_push}
use Rattle.zk_talk.specs.{declared.message.Side.Side, History.History, History.side_bytes, History.on, Conversation.Conversation, Held.Message, declared.message.Fault.Fault}
use Rattle.zk_talk.specs.declared.message.Side.TheVariants.{Client, Server}
use Rattle.zk_frames.specs.Framing.{frame, IsBeginning}
use Rattle.zk_jute.specs.{declared.fault.Reason.Reason, Reading.told_place}
use Rattle.zk_waiting.specs.{declared.lane.Lane.Lane, Waiting.Lanes, Waiting.queue_on}
use Rattle.zk_talk.specs.declared.message.MessageOf.TheVariants.{Client as FromClient, Server as FromServer}
use Rattle.zk_talk.specs.{Fault.IsCause, Fault.fault_of, Fault.side_limit, Fault.frame_count, Fault.rest_on, Queues.IsQueue, Numbers.AreNumbered, Numbers.IsNewest, declared.replied.Replied.Replied, Streams.StreamState, Said.payload_of}
use Rattle.zk_talk.specs.Stands.{TalkState, Stands, Refuses, held_on, kept_on, frames_on, size_on}
use Rattle.zk_talk.proofs.{Small.small_limits, Queues.weight_is_load}
use Rattle.zk_talk.proofs.Standing.{own, own_rest, with_message, MayOn, Runs, frame_front, runs_client, runs_server, runs_message, bytes-on, other-on, last-on, cause_bad}

-- the talk with this in place of what is held and kept of the side, how many frames were whole, how many bytes came, what
-- waits, what was answered, and the fault
abbrev pub set_on : Side → TalkState → List ℕ → List ℕ → ℕ → ℕ → Lanes → Option Replied → Option Fault → TalkState
set_on side t held kept frames size w o fault = record t {
  client_held = own Client side held t.client_held;
  server_held = own Server side held t.server_held;
  client_kept = own Client side kept t.client_kept;
  server_kept = own Server side kept t.server_kept;
  client_frames = own Client side frames t.client_frames;
  server_frames = own Server side frames t.server_frames;
  client_size = own Client side size t.client_size;
  server_size = own Server side size t.server_size;
  waiting = w;
  answered = o;
  fault = fault;
}

abbrev pub put_on : Side → TalkState → StreamState → Lanes → Option Replied → Option Fault → TalkState
put_on side t s w o fault = set_on side t s.held s.kept s.count s.size w o fault

-- the talk whose side has this beginning, and so many bytes in all
abbrev pub grown : Side → TalkState → List ℕ → ℕ → TalkState
grown side t held size = set_on side t held (kept_on side t) (frames_on side t) size t.waiting t.answered t.fault

-- the talk that holds this of the side, and has this fault
abbrev pub refusing : Side → TalkState → List ℕ → Fault → TalkState
refusing side t held fault = set_on side t held (kept_on side t) (frames_on side t) (size_on side t) t.waiting t.answered (Some fault)

-- the talk that has one frame more of the side, and so many bytes in all
abbrev pub counted : Side → TalkState → List ℕ → ℕ → Lanes → Option Replied → TalkState
counted side t kept size w o = set_on side t [] kept (frames_on side t + 1) size w o t.fault

-- what the server keeps, where the side keeps this
abbrev pub server_keeps : Side → TalkState → List ℕ → List ℕ
server_keeps side t kept = own Server side kept t.server_kept

-- the requests that wait have their numbers, and what is told of the server's newest frame, if it is kept, is so
abbrev pub IsKnownAfter : Side → TalkState → List ℕ → Option Replied → Conversation → Lanes → Type 0
IsKnownAfter side t kept o v w = AreNumbered v w × ((server_keeps side t kept ≡ [] → ⊥) → IsNewest v o)

module _ (t : TalkState) (h : History) (M : List Message) (st : Stands t h M) where
  -- ---- A side's pieces
  -- what is true of the sides stays true where the new is the old
  same_own : {X : Type 0} (P : Side → X → Type 0) (on_side : Side → X) (side : Side) → P Client (on_side Client) × P Server (on_side Server) → P Client (own Client side (on_side side) (on_side Client)) × P Server (own Server side (on_side side) (on_side Server))
  same_own P on_side Client both = both
  same_own P on_side Server both = both

  size_is : (side : Side) → size_on side t ≡ length (side_bytes side h)
  size_is Client = st.client_size
  size_is Server = st.server_size

  frames_are : (side : Side) → frames_on side t ≡ frame_count st.conversation side
  frames_are Client = st.client_frames
  frames_are Server = st.server_frames

  all_frames : (side : Side) → (own Client side (frames_on side t) t.client_frames ≡ length st.conversation.client) × (own Server side (frames_on side t) t.server_frames ≡ length st.conversation.server)
  all_frames side = same_own (λ s n. n ≡ frame_count st.conversation s) (λ s. frames_on s t) side (st.client_frames, st.server_frames)

  newest_still : (side : Side) → (own Server side (kept_on side t) t.server_kept ≡ [] → ⊥) → IsNewest st.conversation t.answered
  newest_still Client = st.newest
  newest_still Server = st.newest

  -- the bytes of each side after those of a piece
  sizes_after : (side : Side) (bs : List ℕ) → (own Client side (size_on side t + length bs) t.client_size ≡ length (side_bytes Client (h ++ on side bs))) × (own Server side (size_on side t + length bs) t.server_size ≡ length (side_bytes Server (h ++ on side bs)))
  sizes_after Client bs = (omega (arith, st.client_size, bytes-on Client bs h), st.server_size ∙ ap length (sym (other-on Client bs h)))
  sizes_after Server bs = (st.client_size ∙ ap length (sym (other-on Server bs h)), omega (arith, st.server_size, bytes-on Server bs h))

  -- the conversation so far, after bytes within a frame
  abbrev RunsOn : Side → List ℕ → Type 0
  RunsOn side bs = Runs t.limits (h ++ on side bs) st.conversation M (own Client side (held_on side t ++ bs) t.client_held) (own Server side (held_on side t ++ bs) t.server_held)

  runs_on : (side : Side) (bs : List ℕ) → IsBeginning (side_limit t.limits side) (held_on side t ++ bs) → size_on side t + length bs < 2 ^ 62 → RunsOn side bs
  runs_on Client bs begin size = runs_client t.limits (small_limits t.limits) st.conversation M bs h t.client_held t.server_held (record { good = st.good; order = st.order }) begin (omega (arith, size, st.client_size))
  runs_on Server bs begin size = runs_server t.limits (small_limits t.limits) st.conversation M bs h t.client_held t.server_held (record { good = st.good; order = st.order }) begin (omega (arith, size, st.server_size))

  pub more : (side : Side) (bs : List ℕ) → IsBeginning (side_limit t.limits side) (held_on side t ++ bs) → size_on side t + length bs < 2 ^ 62 → Stands (grown side t (held_on side t ++ bs) (size_on side t + length bs)) (h ++ on side bs) M
  more side bs begin size =
      let r = runs_on side bs begin size in
      record {
        conversation = st.conversation;
        good = r.good;
        order = r.order;
        client_frames = (all_frames side).0;
        server_frames = (all_frames side).1;
        client_size = (sizes_after side bs).0;
        server_size = (sizes_after side bs).1;
        queues = st.queues;
        numbers = st.numbers;
        newest = newest_still side;
        no_fault = st.no_fault;
      }

  held_is : (side : Side) (held : List ℕ) (fault : Fault) → held_on side (refusing side t held fault) ≡ held
  held_is Client held fault = refl
  held_is Server held fault = refl

  -- what the other side holds stays as it is
  other_is : (side : Side) (held begun : List ℕ) (fault : Fault) (other : Side) → other ≢ side → held_on other (refusing side t held fault) ≡ rest_on other (own Client side begun t.client_held) (own Server side begun t.server_held)
  other_is Client held begun fault Client is = absurd (is refl)
  other_is Client held begun fault Server is = refl
  other_is Server held begun fault Client is = refl
  other_is Server held begun fault Server is = absurd (is refl)

  pub refuse : (side : Side) (held : List ℕ) (place told : ℕ) → told ≡ told_place place → (reason : Reason) (bs : List ℕ) (b : ℕ) (more : List ℕ) → IsBeginning (side_limit t.limits side) (held_on side t ++ bs) → size_on side t + length bs < 2 ^ 62 →
      (size_on side t + length bs + 1 < 2 ^ 62 → held ≡ (held_on side t ++ bs) ++ b ∷ []) → (size_on side t + length bs + 1 ≡ 2 ^ 62 → held ≡ held_on side t ++ bs) → IsCause t.limits st.conversation side (size_on side t + length bs) (held_on side t ++ bs) b place reason →
      Refuses (refusing side t held (fault_of side (frames_on side t) (size_on side t + length bs + 1) told reason)) (h ++ on side (bs ++ b ∷ more)) M (fault_of side (frames_on side t) (size_on side t + length bs + 1) told reason)
  refuse side held place told is reason bs b more begin size kept full cause =
      let v = st.conversation in
      let r = runs_on side bs begin size in
      let h' = h ++ on side bs in
      let begun = held_on side t ++ bs in
      let n : size_on side t + length bs ≡ length (side_bytes side h') = omega (arith, bytes-on side bs h, size_is side) in
      let cause' = subst (λ z. IsCause t.limits v side (length (side_bytes side h')) z b place reason) (sym (own_rest side begun t.client_held t.server_held)) (subst (λ z. IsCause t.limits v side z begun b place reason) n cause) in
      record {
        kept = refl;
        is = record {
          before = h';
          byte = b;
          after = on side more;
          conversation = v;
          client_rest = own Client side begun t.client_held;
          server_rest = own Server side begun t.server_held;
          stands = ap (λ z. h ++ z) (map-append (λ (z : ℕ). (side, z)) bs (b ∷ more)) ∙ sym (append_assoc h (on side bs) ((side, b) ∷ on side more));
          good = r.good;
          bad = cause_bad t.limits (small_limits t.limits) h' b v (own Client side begun t.client_held) (own Server side begun t.server_held) r.good side place reason cause';
          frame = frames_are side;
          offset = omega (arith, n);
          place = place;
          told = is;
          cause = cause';
        };
        order = r.order;
        queues = st.queues;
        client_frames = (all_frames side).0;
        server_frames = (all_frames side).1;
        newest = newest_still side;
        load = weight_is_load v t.waiting st.queues;
        held = λ less. held_is side held (fault_of side (frames_on side t) (size_on side t + length bs + 1) told reason) ∙ kept less ∙ ap (λ z. z ++ b ∷ []) (sym (own_rest side begun t.client_held t.server_held));
        too_many = λ many. held_is side held (fault_of side (frames_on side t) (size_on side t + length bs + 1) told reason) ∙ full many ∙ sym (own_rest side begun t.client_held t.server_held);
        other = other_is side held begun (fault_of side (frames_on side t) (size_on side t + length bs + 1) told reason);
      }

  -- ---- A whole frame
  frames_after : (side : Side) (m : Message) → MayOn side t.limits st.conversation m → (own Client side (frames_on side t + 1) t.client_frames ≡ length (with_message st.conversation m).client) × (own Server side (frames_on side t + 1) t.server_frames ≡ length (with_message st.conversation m).server)
  frames_after Client (FromClient f) may = (omega (arith, st.client_frames, length_push st.conversation.client f), st.server_frames)
  frames_after Server (FromServer s) may = (st.client_frames, omega (arith, st.server_frames, length_push st.conversation.server s))
  frames_after Client (FromServer s) may = absurd may
  frames_after Server (FromClient f) may = absurd may

  runs_whole : (side : Side) (bs : List ℕ) (b : ℕ) (m : Message) → (held_on side t ++ bs) ++ b ∷ [] ≡ frame (payload_of m) → length (payload_of m) ≤ side_limit t.limits side → MayOn side t.limits st.conversation m → size_on side t + (length bs + 1) < 2 ^ 62 →
      Runs t.limits ((h ++ on side bs) ++ (side, b) ∷ []) (with_message st.conversation m) (M ++ m ∷ []) (own Client side [] t.client_held) (own Server side [] t.server_held)
  runs_whole Client bs b m e l may size =
      let r = runs_on Client bs (frame_front t.limits.client (t.client_held ++ bs) [] (payload_of m) b l e) (omega (arith, size)) in
      runs_message t.limits (small_limits t.limits) (h ++ on Client bs) b st.conversation M (t.client_held ++ bs) t.server_held r Client m e l may (omega (arith, size, st.client_size, bytes-on Client bs h))
  runs_whole Server bs b m e l may size =
      let r = runs_on Server bs (frame_front t.limits.server (t.server_held ++ bs) [] (payload_of m) b l e) (omega (arith, size)) in
      runs_message t.limits (small_limits t.limits) (h ++ on Server bs) b st.conversation M t.client_held (t.server_held ++ bs) r Server m e l may (omega (arith, size, st.server_size, bytes-on Server bs h))

  pub whole : (side : Side) (k : List ℕ) (o : Option Replied) (bs : List ℕ) (b : ℕ) (m : Message) (w : Lanes) → (held_on side t ++ bs) ++ b ∷ [] ≡ frame (payload_of m) → length (payload_of m) ≤ side_limit t.limits side → MayOn side t.limits st.conversation m →
      size_on side t + (length bs + 1) < 2 ^ 62 → ((lane : Lane) → IsQueue lane (with_message st.conversation m) (queue_on lane w)) → IsKnownAfter side t k o (with_message st.conversation m) w → Stands (counted side t k (size_on side t + (length bs + 1)) w o) (h ++ on side (bs ++ b ∷ [])) (M ++ m ∷ [])
  whole side k o bs b m w e l may size qs after =
      let r = subst (λ z. Runs t.limits z (with_message st.conversation m) (M ++ m ∷ []) (own Client side [] t.client_held) (own Server side [] t.server_held)) (last-on side h bs b) (runs_whole side bs b m e l may size) in
      let n : length bs + 1 ≡ length (bs ++ b ∷ []) = sym (length_push bs b) in
      let sizes = sizes_after side (bs ++ b ∷ []) in
      record {
        conversation = with_message st.conversation m;
        good = r.good;
        order = r.order;
        client_frames = (frames_after side m may).0;
        server_frames = (frames_after side m may).1;
        client_size = ap (λ z. own Client side (size_on side t + z) t.client_size) n ∙ sizes.0;
        server_size = ap (λ z. own Server side (size_on side t + z) t.server_size) n ∙ sizes.1;
        queues = qs;
        numbers = after.0;
        newest = after.1;
        no_fault = st.no_fault;
      }
