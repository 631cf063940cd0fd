-- What is judged of a payload is so of the frame that has it.
use Rattle.std.proofs.Common.{w32, FitsSigned, ◌≡◌, ◌≢◌, ℕ, ◌<◌, ◌^◌, List, length, refl, sym, ap, ◌∙◌, subst, arith, Bool, true, false, MatchBool}
use Rattle.std.specs.Prelude.{ℤ, ◌≤◌, ◌+◌, map, Option, Some, None, Result, Ok, Err, IsOk, OnOk, slice_get}
use Rattle.zk_jute.specs.declared.fault.Reason.TheVariants.{NoMemory, QueueFull}
use Rattle.zk_records.specs.{declared.op.Op.Op, declared.op.PartOp.PartOp, declared.header.ReplyHeader.ReplyHeader, declared.profile.Profile.Profile}
use Rattle.zk_records.specs.declared.op.Op.TheVariants as ops
use Rattle.zk_asks.specs.Held as A
use Rattle.zk_asks.specs.{Held.ClientFrame, declared.judge.Outline.Outline, Fronts.IsOutlined, Fronts.IsMultiOf, Fronts.asking_of, Parts.op_of_part, Rows.op_of_ask, Frames.IsFirst, Frames.ops_of_ask}
use Rattle.zk_asks.specs.declared.frame.ClientFrameOf.TheVariants.{Connect, Ask}
use Rattle.zk_asks.proofs.Judged.{AsksFor, a_multi, judged_xid, outline_is}
use Rattle.zk_asks.specs.Frames as asks
use Rattle.zk_answers.specs.{Held.Outcome, Held.Reply, Held.ServerFrame, Faults.IsHead, Fronts.IsReplyUnder}
use Rattle.zk_answers.specs.declared.frame.OutcomeOf.TheVariants as outcome
use Rattle.zk_answers.specs.declared.frame.ServerFrameOf.TheVariants.{Connected, Answered, Event}
use Rattle.zk_answers.specs.Frames as answers
use Rattle.zk_waiting.specs.{declared.lane.Lane.Lane, Lane.lane_of, declared.waiting.PutFault.PutFault}
use Rattle.zk_waiting.specs.Waiting.{Lanes, Request, queue_on, weight_of, IsPut, IsPutFault}
use Rattle.zk_waiting.specs.declared.waiting.PutFault.TheVariants as put
use Rattle.zk_talk.specs.{Payloads.client_payload, Conversation.ClientMay, declared.replied.Replied.Replied}
use Rattle.zk_talk.specs.Judged.{IsInTurn, TellsClient, HasRoomFor, IsNumbered, IsForgotten, TellsReplied}
use Rattle.zk_talk.specs.Settled.{IsAsking, IsComing, IsDueReply, IsHeard, IsSettled, Answers, replied_of}
use Rattle.zk_talk.proofs.Payloads.{asks_are, client_is, server_is, few_parts}
use Rattle.zk_talk.proofs.Judging as J
use Rattle.zk_talk.proofs.Hearing.{described, none_spoken, some_spoken, turn_later, turn_first, no_welcome, hears, turned}

-- what holds wherever there is a value
pub on_ok : {X E P : Type 0} (r : Result X E) → (IsOk r → P) → OnOk r P
on_ok (Ok x) k = k refl
on_ok (Err e) k = tt

-- ---- a client's frame

first_asks : (f : ClientFrame) → IsFirst f → asking_of f ≡ None
first_asks (Connect hello read_only) first = refl
first_asks (Ask xid ask) first = absurd first

module _ (profile : Profile) (count : ℕ) (p : List ℕ) where
  pub connect_comes : count ≡ 0 → (f : ClientFrame) → IsFirst f → asks.IsSent f → p ≡ asks.payload f → IsComing profile count p None f
  connect_comes z f first sent is = record { turn = ((λ _. first), (λ n. absurd (n z))); sent = sent; is = client_is f p is; asks = first_asks f first }

  pub ask_comes : (of : Outline) → (count ≡ 0 → ⊥) → IsOutlined profile of p → (f : ClientFrame) × IsComing profile count p (Some of) f
  ask_comes of later k = (
    Ask of.xid k.0,
    record {
      turn = ((λ z. absurd (later z)), (λ n. (tt, k.1)));
      sent = k.3;
      is = client_is (Ask of.xid k.0) p k.4;
      asks = ap Some k.2;
    },
  )

  -- there is no room for the frame
  pub full_told : (w : Lanes) (f : ClientFrame) → IsInTurn profile count f → asks.IsSent f → client_payload f ≡ p → (HasRoomFor f w → ⊥)
      → (QueueFull ≢ NoMemory) × TellsClient profile count w p (record { place = 0; reason = QueueFull })
  full_told w f turn sent is none =
      let full = J.no_room f w none in (
        (λ e. cc),
        λ limits m v q o d.
            J.put_refused count m w v d limits p f (record { place = 0; reason = QueueFull }) q (subst (λ z. ClientMay z v.client f) (sym o) (J.in_turn count m w v d profile f turn sent)) is (full.0, refl, full.1),
      )

-- ---- what is asked waits

pub put_full : (e : PutFault) (weight max : ℕ) → IsPutFault e weight max → max < weight
put_full put.QueueFull weight max h = h

-- these are the operations of the request's parts
abbrev pub HasParts : List PartOp → ClientFrame → Type 0
HasParts ps (Connect hello read_only) = Unit {0}
HasParts ps (Ask xid ask) = ops_of_ask ask ≡ ps

pub judged_as : (asked : Option Outline) (p : List ℕ) (f : ClientFrame) → IsAsking asked p f → AsksFor asked p f
judged_as asked p f k = (k.0, k.1, sym (asks_are f p k.2))

module _ (of : Outline) where
  module _ (ps : List PartOp) (w : Lanes) where
    pub room_to : (f : ClientFrame) → asking_of f ≡ Some of → HasParts ps f → weight_of w + (1 + length ps) ≤ w.max → HasRoomFor f w
    room_to (Connect hello read_only) e parts fits = absurd cc
    room_to (Ask xid ask) e parts fits = omega (arith, fits, ap length parts)

    pub room_from : (f : ClientFrame) → asking_of f ≡ Some of → HasParts ps f → HasRoomFor f w → weight_of w + (1 + length ps) ≤ w.max
    room_from (Connect hello read_only) e parts room = absurd cc
    room_from (Ask xid ask) e parts room = omega (arith, room, ap length parts)

    pub put_to : (number : ℕ) (new : Lanes) (op : Op) → op ≡ of.op → (f : ClientFrame) → asking_of f ≡ Some of → HasParts ps f → weight_of w + (1 + length ps) ≤ w.max
        → IsPut (lane_of of.xid) (record { xid = of.xid; op = op; parts = ps; frame = number }) w new → IsNumbered number f w new
    put_to number new op is (Connect hello read_only) e parts fits put = absurd cc
    put_to number new op is (Ask xid ask) e parts fits put =
        let same = outline_is of xid ask e in
        let id : xid ≡ of.xid = ap (λ (o : Outline). o.xid) same in
        let named : op_of_ask ask ≡ op = ap (λ (o : Outline). o.op) same ∙ sym is in
        let one = subst (λ (o : Op). IsPut (lane_of of.xid) (record { xid = of.xid; op = o; parts = ps; frame = number }) w new) (sym named) put in
        let two = subst (λ (qs : List PartOp). IsPut (lane_of of.xid) (record { xid = of.xid; op = op_of_ask ask; parts = qs; frame = number }) w new) (sym parts) one in
        (omega (arith, fits, ap length parts), subst (λ (z : ℤ). IsPut (lane_of z) (record { xid = z; op = op_of_ask ask; parts = ops_of_ask ask; frame = number }) w new) (sym id) two)

  module _ (p : List ℕ) where
    pub fits_asked : (f : ClientFrame) → IsAsking (Some of) p f → FitsSigned w32 of.xid
    fits_asked f k = judged_xid p of f (judged_as (Some of) p f k)

    pub few_asked : (f : ClientFrame) → IsAsking (Some of) p f → length p < 2 ^ 32 → of.parts < 2 ^ 32
    few_asked (Connect hello read_only) k small = let e = k.0 in absurd cc
    few_asked (Ask xid ask) k small = omega (arith, small, few_parts xid ask, ap length k.2, ap (λ (o : Outline). o.parts) (outline_is of xid ask k.0))

    module _ (multi : of.op ≡ ops.Multi) where
      pub multi_asked : (f : ClientFrame) → IsAsking (Some of) p f → (xid : ℤ) × (ds : List A.Part) × IsMultiOf xid ds p × (length ds ≡ of.parts)
      multi_asked f k = let m = a_multi p of multi f (judged_as (Some of) p f k) in (of.xid, m.0, m.2, m.3)

      pub has_these : (list : List A.Part) → ((xid : ℤ) (ds : List A.Part) → IsMultiOf xid ds p → list ≡ ds) → (f : ClientFrame) → IsAsking (Some of) p f → HasParts (map op_of_part list) f
      has_these list only f k =
          let m = a_multi p of multi f (judged_as (Some of) p f k) in
          subst (HasParts (map op_of_part list)) (sym m.1) (ap (map op_of_part) (sym (only of.xid m.0 m.2)))

pub room_before : (number : ℕ) (f : ClientFrame) (old new : Lanes) → IsNumbered number f old new → HasRoomFor f old
room_before number (Connect hello read_only) old new waits = tt
room_before number (Ask xid ask) old new waits = waits.0

-- ---- a reply

its_operation : (o : Outcome) (op : Op) (parts : List PartOp) → answers.OutcomeFits op parts o → answers.op_of_outcome o ≡ op
its_operation (outcome.Done b) op parts fits = fits.0
its_operation (outcome.Failed o e) op parts fits = fits

abbrev to_request : Op → ℕ → Option Replied
to_request op frame = Some (record { op = op; frame = frame })

module _ (w : Lanes) (p : List ℕ) (header : ReplyHeader) (rest : List ℕ) (h : IsHead p header rest) where
  pub reply_is_due : (r : Request) → slice_get (queue_on (lane_of header.xid) w) 0 ≡ Some r → r.xid ≡ header.xid → IsReplyUnder header.xid r.op r.parts p → (q : Reply) × IsDueReply header.xid p (record { op = r.op; frame = r.frame }) w q
  reply_is_due r some same k =
      let q = k.0 in
      let is = server_is (Answered q) p k.4 in
      let waits = subst (λ (x : ℤ). slice_get (queue_on (lane_of x) w) 0 ≡ Some r) (sym k.1) some in (
        q,
        record {
          xid = k.1;
          told = (r, waits, ap (λ (o : Op). to_request o r.frame) (sym (its_operation q.outcome r.op r.parts k.2)));
          due = J.reply_due w p header rest r (Answered q) h some k.2 k.3 is;
          sent = k.3;
          is = is;
          may = λ n m v y d. J.reply_may n m w v d p header rest r (Answered q) y h some same k.2 k.3 is;
        },
      )

-- ---- a server's frame

no_answer : (s : ServerFrame) (w : Lanes) → answers.IsEvent s → Answers s w None
no_answer (Connected hello read_only) w event = refl
no_answer (Answered reply) w event = absurd event
no_answer (Event zxid change) w event = refl

no_answer_yet : (s : ServerFrame) (w : Lanes) → answers.IsConnected s → Answers s w None
no_answer_yet (Connected hello read_only) w first = refl
no_answer_yet (Answered reply) w first = absurd first
no_answer_yet (Event zxid change) w first = refl

-- the request that is told is the one that is replied to
pub tells_replied : (s : ServerFrame) (w : Lanes) (answer : Option (Lane × Replied)) (told : Option Replied) → told ≡ replied_of answer → Answers s w answer → TellsReplied s w told
tells_replied (Connected hello read_only) w answer told is a = is ∙ ap replied_of a
tells_replied (Answered reply) w answer told is a = subst (TellsReplied (Answered reply) w) (sym (is ∙ ap replied_of a.1)) a.2
tells_replied (Event zxid change) w answer told is a = is ∙ ap replied_of a

module _ (asked welcomed : Bool) (p : List ℕ) (w : Lanes) where
  pub reply_heard : welcomed ≡ true → (lane : Lane) (xid : ℤ) (told : Replied) → lane ≡ lane_of xid → (r : Reply) × IsDueReply xid p told w r → (s : ServerFrame) × IsHeard asked welcomed p w (Some (lane, told)) s
  reply_heard e lane xid told is k =
      let r = k.0 in
      let d = k.1 in (
        Answered r,
        record {
          turn = turn_later welcomed (Answered r) e (λ c. c);
          replies = (told, ap (λ (l : Lane). Some (l, told)) (is ∙ sym (ap lane_of d.xid)), d.told);
          due = d.due;
          sent = d.sent;
          is = d.is;
          may = λ v heard. d.may (length v.client) (length v.server) v (some_spoken welcomed v.server heard.server e) (described asked welcomed w v heard);
        },
      )

  pub event_heard : welcomed ≡ true → (s : ServerFrame) → answers.IsEvent s → answers.IsSent s → p ≡ answers.payload s → IsHeard asked welcomed p w None s
  event_heard e s event sent is = record {
    turn = turn_later welcomed s e (no_welcome s event);
    replies = no_answer s w event;
    due = J.event_due w s event;
    sent = sent;
    is = server_is s p is;
    may = λ v heard. J.event_may _ _ _ v (described asked welcomed w v heard) s (some_spoken welcomed v.server heard.server e) event sent;
  }

  pub connected_heard : welcomed ≡ false → asked ≡ true → (s : ServerFrame) → answers.IsConnected s → answers.IsSent s → p ≡ answers.payload s → IsHeard asked welcomed p w None s
  connected_heard e spoken s first sent is = record {
    turn = turn_first welcomed s e first;
    replies = no_answer_yet s w first;
    due = J.connected_due w s first;
    sent = sent;
    is = server_is s p is;
    may = λ v heard. J.connected_may _ _ _ v (described asked welcomed w v heard) s (none_spoken welcomed v.server heard.server e) (some_spoken asked v.client heard.client spoken) first sent;
  }

  -- by the numbers of frames
  pub settled : (n m : ℕ) → MatchBool asked (n ≡ 0 → ⊥) (n ≡ 0) → MatchBool welcomed (m ≡ 0 → ⊥) (m ≡ 0) → (answer : Option (Lane × Replied)) (told : Option Replied) (new : Lanes) (s : ServerFrame) → IsHeard asked welcomed p w answer s
      → told ≡ replied_of answer → ((t : ServerFrame) → Answers t w answer → IsForgotten t w new) → IsSettled n m p told w new s
  settled n m a b answer told new s h tells forgotten = record {
    turn = turned welcomed m s b h.turn;
    told = tells_replied s w answer told tells h.replies;
    due = h.due;
    sent = h.sent;
    is = h.is;
    forgotten = forgotten s h.replies;
    may = λ v d. h.may v (hears asked welcomed n m w v a b d);
  }
