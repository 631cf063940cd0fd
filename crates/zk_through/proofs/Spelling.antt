-- What the history of a passage spells of which nothing is left out.
use Rattle.std.proofs.Common.{◌≡◌, ℕ, ◌<◌, ◌≤◌, ◌^◌, false, inl, List, [], ◌∷◌, ◌++◌, length, take, drop, refl, sym, ap, ◌∙◌, subst, arith, append_assoc, length-append}
use Rattle.std.specs.List.{AllByRecursion}
use Rattle.std.proofs.lemmas.List.{append-nil, take_at, take-append-le, take-append-drop, map-append}
use Rattle.std.proofs.lemmas.List.Concat.{flat_map-append}
use Rattle.zk_asks.specs.Held.{ClientFrame}
use Rattle.zk_answers.specs.Held.{ServerFrame}
use Rattle.zk_frames.specs.Framing.{frame, frames, IsCut}
use Rattle.zk_frames.proofs.Cuts.{same_cut, strip}
use Rattle.zk_talk.specs.{declared.message.Side.Side, declared.limits.Limits.Limits, Held.Message, Payloads.server_payload}
use Rattle.zk_talk.specs.declared.message.Side.TheVariants.{Client, Server}
use Rattle.zk_talk.specs.{History.History, History.side_bytes, History.on, Conversation.Conversation}
use Rattle.zk_talk.specs.Good.{client_payloads, server_payloads, server_bytes, clients, servers, Good, IsCausal, IsBounded, IsWhole, AreWholeIn, IsOrder}
use Rattle.zk_talk.proofs.{Histories.side_bytes-append, Histories.no_bytes, Standing.other-on, Replays.own_bytes}
use Rattle.zk_through.specs.{Unseen.Seen, Came.Came, Came.payload_on, Came.payloads, Came.told, Came.IsCutOn, Came.HasFirst, LeftOut.HasNoneOut, Runs.ThroughState, Runs.Runs, Alone.AreOfTalk, Alone.IsSpelt}
use Rattle.zk_through.proofs.{Alone.all_kept, Frames.no_payloads, Fitting.its_good}

-- ---- The frames as a history
payloads-append : (side : Side) (a b : Came) → payloads side (a ++ b) ≡ payloads side a ++ payloads side b
unfolding payloads
payloads-append side a b = flat_map-append (λ (x : Side × List ℕ). payload_on side x.0 x.1) a b

payloads-first : (side : Side) (x : Side × List ℕ) (k : Came) → payloads side (x ∷ k) ≡ payload_on side x.0 x.1 ++ payloads side k
unfolding payloads
payloads-first side x k = refl

told-append : (a b : Came) → told (a ++ b) ≡ told a ++ told b
told-append a b = flat_map-append (λ (x : Side × List ℕ). on x.0 (frame x.1)) a b

one_frame : (side sender : Side) (p : List ℕ) → side_bytes side (on sender (frame p)) ≡ frames (payload_on side sender p)
one_frame Client Client p = own_bytes Client (frame p) ∙ sym (append-nil (frame p))
one_frame Server Server p = own_bytes Server (frame p) ∙ sym (append-nil (frame p))
one_frame Client Server p = other-on Server (frame p) [] ∙ no_bytes Client
one_frame Server Client p = other-on Client (frame p) [] ∙ no_bytes Server

side_told : (side : Side) (k : Came) → side_bytes side (told k) ≡ frames (payloads side k)
side_told side [] = no_bytes side ∙ ap frames (sym (no_payloads side))
side_told side (x ∷ k) =
    side_bytes-append side (on x.0 (frame x.1)) (told k) ∙ (λ i. one_frame side x.0 x.1 i ++ side_told side k i) ∙
    sym (flat_map-append frame (payload_on side x.0 x.1) (payloads side k)) ∙ ap frames (sym (payloads-first side x k))

-- these frames alone, cut as those of a longer history are
told_cut : (limits : Limits) (side : Side) (h : History) (k : Came) (rest : List ℕ) → IsCutOn limits h k side rest → IsCutOn limits (told k) k side []
told_cut limits side h k rest cut = record { whole = side_told side k ∙ sym (append-nil (frames (payloads side k))); within = cut.within; beginning = inl (omega arith) }

-- ---- Fronts
-- what is as long as some first frames, and goes on as they do, begins with them
begins_with : (x r f g : List ℕ) → x ++ r ≡ f ++ g → length f ≤ length x → (w : List ℕ) × (x ≡ f ++ w)
begins_with x r f g e long =
    let n = length f in
    let first = sym (take-append-le n x r long) ∙ ap (take n) e ∙ take_at f g n refl in
    (drop n x, sym (take-append-drop n x) ∙ ap (λ z. z ++ drop n x) first)

-- frames that end within a front of the bytes are among those that are whole in it
whole_in : (limit : ℕ) (x r : List ℕ) (A B P : List (List ℕ)) (held rest : List ℕ) → limit < 2 ^ 31 → AllByRecursion (λ p. length p ≤ limit) A →
    x ++ r ≡ frames (A ++ B) ++ held → IsCut limit x P rest → length (frames A) ≤ length x → length (frames A) ≤ length (frames P)
whole_in limit x r A B P held rest small within e cut long =
    let split = ap (λ z. z ++ held) (flat_map-append frame A B) ∙ append_assoc (frames A) (frames B) held in
    let front = begins_with x r (frames A) (frames B ++ held) (e ∙ split) long in
    let more = strip limit A P front.0 rest small within cut.within cut.beginning (sym front.1 ∙ cut.whole) in
    omega (arith, ap (λ z. length (frames z)) more.1, ap length (flat_map-append frame A more.0), length-append (frames A) (frames more.0))

all_left : {X : Type 0} (P : X → Type 0) (xs ys zs : List X) → xs ++ ys ≡ zs → AllByRecursion P zs → AllByRecursion P xs
all_left {X = X} P xs ys zs e all = go xs (subst (AllByRecursion P) (sym e) all)
  where
    go : (xs : List X) → AllByRecursion P (xs ++ ys) → AllByRecursion P xs
    go [] a = tt
    go (x ∷ xs) a = (a.0, go xs a.1)

-- ---- The conversation
module _ (t : ThroughState) (h : History) (c k : Came) (M : List Message) (r : Runs t h c k M) (on_time : t.late ≡ false) (small : AreOfTalk t.talk.limits h) (none : HasNoneOut t.talk.limits.profile c) where
  abbrev limits : Limits
  limits = t.talk.limits

  abbrev v : Conversation
  v = r.stands.conversation

  all_came : c ≡ r.all
  all_came = subst (λ late. Seen late r.all c) on_time r.seen

  all_given : k ≡ c
  all_given = all_kept limits.profile [] c k r.kept none

  -- the talk's conversation is that of all frames
  good : Good limits (told c) v [] []
  good = subst (λ z. Good limits (told z) v [] []) all_given (its_good t h c k M r)

  order : IsOrder limits (told c) v M
  order = subst (λ z. IsOrder limits (told z) v M) all_given r.stands.order

  abbrev held : Side → List ℕ
  held Client = t.client.held
  held Server = t.server.held

  cut : (side : Side) → IsCutOn limits h c side (held side)
  cut Client = subst (λ z. IsCutOn limits h z Client t.client.held) (sym all_came) (r.frames.cut Client)
  cut Server = subst (λ z. IsCutOn limits h z Server t.server.held) (sym all_came) (r.frames.cut Server)

  fronts : (front back : History) → h ≡ front ++ back → HasFirst limits c front
  fronts front back e = subst (λ z. HasFirst limits z front) (sym all_came) (r.frames.fronts front back e)

  client_are : client_payloads v.client ≡ payloads Client c
  client_are = (same_cut limits.client (side_bytes Client (told c)) (client_payloads v.client) (payloads Client c) [] [] (small Client).0 good.whole.client_cut (told_cut limits Client h c t.client.held (cut Client))).0

  server_are : server_payloads v.server ≡ payloads Server c
  server_are = (same_cut limits.server (side_bytes Server (told c)) (server_payloads v.server) (payloads Server c) [] [] (small Server).0 good.whole.server_cut (told_cut limits Server h c t.server.held (cut Server))).0

  whole : IsWhole limits h v.client v.server t.client.held t.server.held
  whole = record {
    client_cut = subst (λ z. IsCut limits.client (side_bytes Client h) z t.client.held) (sym client_are) (cut Client);
    server_cut = subst (λ z. IsCut limits.server (side_bytes Server h) z t.server.held) (sym server_are) (cut Server);
  }

  -- a front of the history, and the frames that are whole in it
  module _ (front back : History) (e : h ≡ front ++ back) where
    first : HasFirst limits c front
    first = fronts front back e

    is_told : told c ≡ told first.0 ++ told first.1
    is_told = ap told first.2 ∙ told-append first.0 first.1

    -- no more bytes of the frames than of the front
    no_more : (side : Side) → length (side_bytes side (told first.0)) ≤ length (side_bytes side front)
    no_more side =
        let rest = (first.3 side).0 in
        let F = frames (payloads side first.0) in
        omega (arith, ap length (side_told side first.0), ap length (first.3 side).1.whole, length-append F rest)

    whole_of : (client : List ClientFrame) (server : List ServerFrame) → client_payloads client ≡ payloads Client first.0 → server_payloads server ≡ payloads Server first.0 → AreWholeIn limits (told first.0) client server
    whole_of client server a b = (
      [],
      [],
      record {
        client_cut = subst (λ z. IsCut limits.client (side_bytes Client (told first.0)) z []) (sym a) (told_cut limits Client front first.0 (first.3 Client).0 (first.3 Client).1);
        server_cut = subst (λ z. IsCut limits.server (side_bytes Server (told first.0)) z []) (sym b) (told_cut limits Server front first.0 (first.3 Server).0 (first.3 Server).1);
      },
    )

    -- what is whole in the front is whole in the frames, and the other way round
    client_in : (client : List ClientFrame) (rest : List ℕ) → IsCut limits.client (side_bytes Client front) (client_payloads client) rest → client_payloads client ≡ payloads Client first.0
    client_in client rest is = (same_cut limits.client (side_bytes Client front) (client_payloads client) (payloads Client first.0) rest (first.3 Client).0 (small Client).0 is (first.3 Client).1).0

    server_in : (server : List ServerFrame) (rest : List ℕ) → IsCut limits.server (side_bytes Server front) (server_payloads server) rest → server_payloads server ≡ payloads Server first.0
    server_in server rest is = (same_cut limits.server (side_bytes Server front) (server_payloads server) (payloads Server first.0) rest (first.3 Server).0 (small Server).0 is (first.3 Server).1).0

    client_of : (client : List ClientFrame) (rest : List ℕ) → IsCut limits.client (side_bytes Client (told first.0)) (client_payloads client) rest → client_payloads client ≡ payloads Client first.0
    client_of client rest is = (same_cut limits.client (side_bytes Client (told first.0)) (client_payloads client) (payloads Client first.0) rest [] (small Client).0 is (told_cut limits Client front first.0 (first.3 Client).0 (first.3 Client).1)).0

    server_of : (server : List ServerFrame) (rest : List ℕ) → IsCut limits.server (side_bytes Server (told first.0)) (server_payloads server) rest → server_payloads server ≡ payloads Server first.0
    server_of server rest is = (same_cut limits.server (side_bytes Server (told first.0)) (server_payloads server) (payloads Server first.0) rest [] (small Server).0 is (told_cut limits Server front first.0 (first.3 Server).0 (first.3 Server).1)).0

    -- answers that end in the front end in the frames
    answers_in : (sent later : List ServerFrame) → v.server ≡ sent ++ later → length (server_bytes sent) ≤ length (side_bytes Server front) → length (server_bytes sent) ≤ length (side_bytes Server (told first.0))
    answers_in sent later is within =
        let A = server_payloads sent in
        let B = server_payloads later in
        let parts : A ++ B ≡ payloads Server c = sym (map-append server_payload sent later) ∙ ap server_payloads (sym is) ∙ server_are in
        let bytes : side_bytes Server front ++ side_bytes Server back ≡ frames (A ++ B) ++ t.server.held =
        sym (side_bytes-append Server front back) ∙ ap (side_bytes Server) (sym e) ∙ (cut Server).whole ∙ ap (λ z. frames z ++ t.server.held) (sym parts) in
        let some = all_left (λ p. length p ≤ limits.server) A B (payloads Server c) parts (cut Server).within in
        let most = whole_in limits.server (side_bytes Server front) (side_bytes Server back) A B (payloads Server first.0) t.server.held (first.3 Server).0 (small Server).0 some bytes (first.3 Server).1 within in
        omega (arith, most, ap length (side_told Server first.0))

  causal : IsCausal v h
  causal front back e sent s later is asked f further of answers ended =
      let moved : v.server ≡ (sent ++ s ∷ []) ++ later = is ∙ sym (append_assoc sent (s ∷ []) later) in
      let told_so = good.causal (told (first front back e).0) (told (first front back e).1) (is_told front back e) sent s later is asked f further of answers (answers_in front back e (sent ++ s ∷ []) later moved ended) in
      omega (arith, told_so, no_more front back e Client)

  bounded : IsBounded limits v h
  bounded front back e client further a server later b w =
      let in_frames = whole_of front back e client server (client_in front back e client w.0 w.2.client_cut) (server_in front back e server w.1 w.2.server_cut) in
      good.bounded (told (first front back e).0) (told (first front back e).1) (is_told front back e) client further a server later b in_frames

  in_order : IsOrder limits h v M
  in_order = record { client = order.client; server = order.server; fronts = go }
    where
      go : (front back : History) → h ≡ front ++ back → (some more : List Message) × (M ≡ some ++ more) × AreWholeIn limits front (clients some) (servers some)
      go front back e =
          let f = first front back e in
          let o = order.fronts (told f.0) (told f.1) (is_told front back e) in
          let w = o.3 in
          let a = client_of front back e (clients o.0) w.0 w.2.client_cut in
          let b = server_of front back e (servers o.0) w.1 w.2.server_cut in (
            o.0,
            o.1,
            o.2,
            (
              (f.3 Client).0,
              (f.3 Server).0,
              record {
                client_cut = subst (λ z. IsCut limits.client (side_bytes Client front) z (f.3 Client).0) (sym a) (f.3 Client).1;
                server_cut = subst (λ z. IsCut limits.server (side_bytes Server front) z (f.3 Server).0) (sym b) (f.3 Server).1;
              },
            ),
          )

  pub is_spelt : IsSpelt t h M
  is_spelt = (
    v,
    record {
      conversation = good.conversation;
      whole = whole;
      causal = causal;
      bounded = bounded;
      client_size = (small Client).1;
      server_size = (small Server).1;
    },
    in_order,
  )
