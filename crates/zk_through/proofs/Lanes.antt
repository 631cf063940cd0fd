-- Requests and replies of a lane, with one frame more.
use Rattle.std.proofs.Common.{◌≡◌, ◌≢◌, ℕ, zero, suc, ◌+◌, ◌-◌, ◌≤◌, ◌<◌, inl, inr, List, [], ◌∷◌, ◌++◌, length, drop, filter, refl, sym, ap, ◌∙◌, subst, arith, append_assoc, length-append, Bool, true, false, cond, Some, None}
use Rattle.std.specs.Prelude.{slice_get, if◌then◌else◌, MatchBool}
use Rattle.std.specs.List.{enumerate_from}
use Rattle.std.proofs.lemmas.List.{append-nil, drop-append-le, length-drop, length_push}
use Rattle.std.proofs.{lemmas.List.Elements.filter-append, lemmas.Option.slice_get_within}
use Rattle.zk_records.specs.declared.profile.Profile.{Profile}
use Rattle.zk_waiting.specs.{declared.lane.Lane.Lane, Lane.same_lane}
use Rattle.zk_waiting.specs.declared.lane.Lane.TheVariants.{Ping, Auth, Watches, Plain}
use Rattle.zk_talk.specs.declared.message.Side.{Side}
use Rattle.zk_talk.specs.declared.message.Side.TheVariants.{Client, Server}
use Rattle.zk_talk.proofs.Loads.{lanes_same}
use Rattle.zk_through.specs.{declared.turn.Turn.Turn, Came.Came, Came.payloads}
use Rattle.zk_through.specs.LeftOut.{xid_of, has_turn, lane_in, is_on, asked, replied, IsForeign, IsLeftOut, KeptAfter}
use Rattle.zk_through.specs.Turns.{TurnsState, turn_of, IsRequest, AreRequests, waits_on, with_waits, IsLane, IsLacked, AreLacked, AreLeft, AreLanes, IsDue, and_turn}
use Rattle.zk_through.proofs.Frames.{payloads-same, payloads-other}

pub some_not_nil : {X : Type 0} (xs : List X) → 0 < length xs → xs ≢ []
some_not_nil xs some none = omega (arith, ap length none)

-- ---- Later frames
module _ {X : Type 0} (f : X → Bool) where
  later_push : (xs : List X) (x : X) → xs ≢ [] → filter f (drop 1 (xs ++ x ∷ [])) ≡ filter f (drop 1 xs) ++ cond (f x) (x ∷ []) []
  later_push [] x some = absurd (some refl)
  later_push (y ∷ xs) x some = filter-append f xs (x ∷ [])

  later_still : (xs : List X) (x : X) → (xs ≢ [] → f x ≡ false) → filter f (drop 1 (xs ++ x ∷ [])) ≡ filter f (drop 1 xs)
  later_still [] x other = refl
  later_still (y ∷ xs) x other = filter-append f xs (x ∷ []) ∙ ap (λ b. filter f xs ++ cond b (x ∷ []) []) (other (λ e. omega (arith, ap length e))) ∙ append-nil (filter f xs)

numbered_push : (n m : ℕ) (xs : List (List ℕ)) (p : List ℕ) → m ≡ n + length xs → enumerate_from n (xs ++ p ∷ []) ≡ enumerate_from n xs ++ (m, p) ∷ []
numbered_push n m [] p e =
    let same : n ≡ m = omega (arith, e) in
    ap (λ z. (z, p) ∷ []) same
numbered_push n m (x ∷ xs) p e = ap (λ z. (n, x) ∷ z) (numbered_push (n + 1) m xs p (omega (arith, e)))

numbered_some : (n : ℕ) (xs : List (List ℕ)) → xs ≢ [] → enumerate_from n xs ≢ []
numbered_some n [] some none = some refl
numbered_some n (x ∷ xs) some none = omega (arith, ap length none)

pub plus_none : (n : ℕ) → n + 0 ≡ n
plus_none n = omega arith

plus_one : (n : ℕ) → n + 1 ≡ suc n
plus_one n = omega arith

module _ (lane : Lane) (c : Came) (p : List ℕ) where
  asked_by_server : asked lane (c ++ (Server, p) ∷ []) ≡ asked lane c
  asked_by_server = ap (λ z. filter (λ (x : ℕ × List ℕ). is_on lane 8 x.1) (drop 1 (enumerate_from 0 z))) (payloads-other Server c p)

  pub replied_by_client : replied lane (c ++ (Client, p) ∷ []) ≡ replied lane c
  replied_by_client = ap (λ z. length (filter (is_on lane 16) (drop 1 z))) (payloads-other Client c p)

  numbered : enumerate_from 0 (payloads Client (c ++ (Client, p) ∷ [])) ≡ enumerate_from 0 (payloads Client c) ++ (length (payloads Client c), p) ∷ []
  numbered = ap (enumerate_from 0) (payloads-same Client c p) ∙ numbered_push 0 (length (payloads Client c)) (payloads Client c) p (omega arith)

  asked_more : payloads Client c ≢ [] → is_on lane 8 p ≡ true → asked lane (c ++ (Client, p) ∷ []) ≡ asked lane c ++ (length (payloads Client c), p) ∷ []
  asked_more some on =
      ap (λ z. filter (λ (x : ℕ × List ℕ). is_on lane 8 x.1) (drop 1 z)) numbered
      ∙ later_push (λ (x : ℕ × List ℕ). is_on lane 8 x.1) (enumerate_from 0 (payloads Client c)) (length (payloads Client c), p) (numbered_some 0 (payloads Client c) some)
      ∙ ap (λ z. asked lane c ++ cond z ((length (payloads Client c), p) ∷ []) []) on

  pub replied_more : payloads Server c ≢ [] → (b : Bool) → is_on lane 16 p ≡ b → replied lane (c ++ (Server, p) ∷ []) ≡ replied lane c + length (cond {A = List (List ℕ)} b (p ∷ []) [])
  replied_more some b e =
      ap length (ap (λ z. filter (is_on lane 16) (drop 1 z)) (payloads-same Server c p) ∙ later_push (is_on lane 16) (payloads Server c) p some ∙ ap (λ z. filter (is_on lane 16) (drop 1 (payloads Server c)) ++ cond z (p ∷ []) []) e)
      ∙ length-append (filter (is_on lane 16) (drop 1 (payloads Server c))) (cond b (p ∷ []) [])

  asked_still : (payloads Client c ≢ [] → is_on lane 8 p ≡ false) → asked lane (c ++ (Client, p) ∷ []) ≡ asked lane c
  asked_still other =
      ap (λ z. filter (λ (x : ℕ × List ℕ). is_on lane 8 x.1) (drop 1 z)) numbered
      ∙ later_still (λ (x : ℕ × List ℕ). is_on lane 8 x.1) (enumerate_from 0 (payloads Client c)) (length (payloads Client c), p) (λ some. other (λ none. some (ap (enumerate_from 0) none)))

  pub replied_still : (payloads Server c ≢ [] → is_on lane 16 p ≡ false) → replied lane (c ++ (Server, p) ∷ []) ≡ replied lane c
  replied_still other = ap length (ap (λ z. filter (is_on lane 16) (drop 1 z)) (payloads-same Server c p) ∙ later_still (is_on lane 16) (payloads Server c) p other)

-- ---- What is kept
module _ (profile : Profile) (x : Side × List ℕ) where
  pub kept_out : (before came kept : Came) → KeptAfter profile before came kept → IsLeftOut profile (before ++ came) x → KeptAfter profile before (came ++ x ∷ []) kept
  kept_out before [] kept e out = inl (subst (λ z. IsLeftOut profile z x) (append-nil before) out, e)
  kept_out before (y ∷ came) kept (inl a) out = inl (a.0, kept_out (before ++ y ∷ []) came kept a.1 (subst (λ z. IsLeftOut profile z x) (sym (append_assoc before (y ∷ []) came)) out))
  kept_out before (y ∷ came) kept (inr a) out = inr (a.0, a.1, a.2, kept_out (before ++ y ∷ []) came a.1 a.3 (subst (λ z. IsLeftOut profile z x) (sym (append_assoc before (y ∷ []) came)) out))

  pub kept_told : (before came kept : Came) → KeptAfter profile before came kept → (IsLeftOut profile (before ++ came) x → ⊥) → KeptAfter profile before (came ++ x ∷ []) (kept ++ x ∷ [])
  kept_told before [] kept e stays = inr ((λ out. stays (subst (λ z. IsLeftOut profile z x) (sym (append-nil before)) out)), [], ap (λ z. z ++ x ∷ []) e, refl)
  kept_told before (y ∷ came) kept (inl a) stays = inl (a.0, kept_told (before ++ y ∷ []) came kept a.1 (λ out. stays (subst (λ z. IsLeftOut profile z x) (append_assoc before (y ∷ []) came) out)))
  kept_told before (y ∷ came) kept (inr a) stays =
      inr (a.0, a.1 ++ x ∷ [], ap (λ z. z ++ x ∷ []) a.2, kept_told (before ++ y ∷ []) came a.1 a.3 (λ out. stays (subst (λ z. IsLeftOut profile z x) (append_assoc before (y ∷ []) came) out)))

-- ---- Those that wait
pub same_some : {X : Type 0} (a b : X) → Some a ≡ Some b → a ≡ b
same_some a b e = cc

cut_at : {X : Type 0} (n : ℕ) (xs : List X) → n < length xs → (x : X) × (slice_get xs n ≡ Some x) × (drop n xs ≡ x ∷ drop (suc n) xs)
cut_at n [] l = absurd (omega (arith, l))
cut_at zero (x ∷ xs) l = (x, refl, refl)
cut_at (suc n) (x ∷ xs) l = cut_at n xs (omega (arith, l))

none_first : (turns : List Turn) → slice_get turns 0 ≡ None → length turns ≡ 0
none_first [] e = refl
none_first (x ∷ xs) e = absurd (cc)

-- one more, where there is room
pub with_room : (room : ℕ) (turns : List Turn) (turn : Turn) → length turns < room → and_turn room turn turns ≡ turns ++ turn ∷ []
with_room room turns turn fits =
    let none : length (turns ++ turn ∷ []) - room ≡ 0 = omega (arith, fits, length_push turns turn) in
    ap (λ n. drop n (turns ++ turn ∷ [])) none

-- ---- Requests that wait, one by one
module _ (profile : Profile) where
  are_long : (turns : List Turn) (xs : List (ℕ × List ℕ)) → AreRequests profile turns xs → length turns ≡ length xs
  are_long [] [] a = refl
  are_long [] (x ∷ xs) a = absurd a
  are_long (t ∷ ts) [] a = absurd a
  are_long (t ∷ ts) (x ∷ xs) a = ap suc (are_long ts xs a.1)

  are_pushed : (turns : List Turn) (xs : List (ℕ × List ℕ)) (turn : Turn) (x : ℕ × List ℕ) → AreRequests profile turns xs → IsRequest profile turn x → AreRequests profile (turns ++ turn ∷ []) (xs ++ x ∷ [])
  are_pushed [] [] turn x a is = (is, tt)
  are_pushed [] (y ∷ ys) turn x a is = absurd a
  are_pushed (t ∷ ts) [] turn x a is = absurd a
  are_pushed (t ∷ ts) (y ∷ ys) turn x a is = (a.0, are_pushed ts ys turn x a.1 is)

  are_split : (turns : List Turn) (x : ℕ × List ℕ) (xs : List (ℕ × List ℕ)) → AreRequests profile turns (x ∷ xs) → (turn : Turn) × (rest : List Turn) × (turns ≡ turn ∷ rest) × IsRequest profile turn x × AreRequests profile rest xs
  are_split [] x xs a = absurd a
  are_split (t ∷ ts) x xs a = (t, ts, refl, a.0, a.1)

-- the request that waits is foreign exactly if it is left out
pub foreign_of : (profile : Profile) (turn : Turn) (x : ℕ × List ℕ) → IsRequest profile turn x → IsLacked turn → IsForeign profile x.1
foreign_of profile turn x r lacked = subst (λ b. MatchBool b (IsForeign profile x.1) (IsForeign profile x.1 → ⊥)) lacked r.out

pub native_of : (profile : Profile) (turn : Turn) (x : ℕ × List ℕ) → IsRequest profile turn x → (IsLacked turn → ⊥) → IsForeign profile x.1 → ⊥
native_of profile turn x r known = go turn.out refl
  where
    go : (b : Bool) → turn.out ≡ b → IsForeign profile x.1 → ⊥
    go true e = absurd (known e)
    go false e = subst (λ b. MatchBool b (IsForeign profile x.1) (IsForeign profile x.1 → ⊥)) e r.out

pub made_out : (profile : Profile) (turn : Turn) (x : ℕ × List ℕ) → turn ≡ turn_of true x → IsForeign profile x.1 → IsRequest profile turn x
made_out profile turn x is foreign = subst (λ (t : Turn). IsRequest profile t x) (sym is) (record { is = refl; out = foreign })

pub made_told : (profile : Profile) (turn : Turn) (x : ℕ × List ℕ) → turn ≡ turn_of false x → (IsForeign profile x.1 → ⊥) → IsRequest profile turn x
made_told profile turn x is native = subst (λ (t : Turn). IsRequest profile t x) (sym is) (record { is = refl; out = native })

-- ---- One lane
module _ (profile : Profile) (lane : Lane) (waits : List Turn) where
  lane_same : (a b : Came) → asked lane b ≡ asked lane a → replied lane b ≡ replied lane a → IsLane profile lane a waits → IsLane profile lane b waits
  lane_same a b e f x = record {
    paired = omega (arith, x.paired, f, ap length e);
    are = subst (AreRequests profile waits) (sym (λ i. drop (f i) (e i))) x.are;
  }

  module _ (c : Came) (p : List ℕ) (x : IsLane profile lane c waits) where
    pub lane_client : (payloads Client c ≢ [] → is_on lane 8 p ≡ false) → IsLane profile lane (c ++ (Client, p) ∷ []) waits
    lane_client other = lane_same c (c ++ (Client, p) ∷ []) (asked_still lane c p other) (replied_by_client lane c p) x

    pub lane_server : (payloads Server c ≢ [] → is_on lane 16 p ≡ false) → IsLane profile lane (c ++ (Server, p) ∷ []) waits
    lane_server other = lane_same c (c ++ (Server, p) ∷ []) (asked_by_server lane c p) (replied_still lane c p other) x

    module _ (some : payloads Client c ≢ []) (on : is_on lane 8 p ≡ true) where
      rests : drop (replied lane c) (asked lane (c ++ (Client, p) ∷ [])) ≡ drop (replied lane c) (asked lane c) ++ (length (payloads Client c), p) ∷ []
      rests = ap (drop (replied lane c)) (asked_more lane c p some on) ∙ drop-append-le (replied lane c) (asked lane c) ((length (payloads Client c), p) ∷ []) x.paired

      more : length (asked lane (c ++ (Client, p) ∷ [])) ≡ length (asked lane c) + 1
      more = ap length (asked_more lane c p some on) ∙ length_push (asked lane c) (length (payloads Client c), p)

      pub lane_request : (turn : Turn) → IsRequest profile turn (length (payloads Client c), p) → IsLane profile lane (c ++ (Client, p) ∷ []) (waits ++ turn ∷ [])
      lane_request turn is =
          let rs = replied_by_client lane c p in
          record {
            paired = omega (arith, rs, x.paired, more);
            are = subst (AreRequests profile (waits ++ turn ∷ [])) (sym rests ∙ ap (λ n. drop n (asked lane (c ++ (Client, p) ∷ []))) (sym rs))
                (are_pushed profile waits (drop (replied lane c) (asked lane c)) turn (length (payloads Client c), p) x.are is);
          }

  module _ (c : Came) (x : IsLane profile lane c waits) where
    pub waiting : length waits ≡ length (asked lane c) - replied lane c
    waiting = are_long profile waits (drop (replied lane c) (asked lane c)) x.are ∙ length-drop (replied lane c) (asked lane c)

    -- the request that the next reply answers
    first_of : 0 < length waits → (y : ℕ × List ℕ) × (slice_get (asked lane c) (replied lane c) ≡ Some y) × (turn : Turn) × (rest : List Turn) × (waits ≡ turn ∷ rest) × IsRequest profile turn y × AreRequests profile rest (drop (suc (replied lane c)) (asked lane c))
    first_of some =
        let k = cut_at (replied lane c) (asked lane c) (omega (arith, some, waiting)) in
        let s = are_split profile waits k.0 (drop (suc (replied lane c)) (asked lane c)) (subst (AreRequests profile waits) k.2 x.are) in
        (k.0, k.1, s.0, s.1, s.2, s.3, s.4)

    pub oldest_is : (turn : Turn) → slice_get waits 0 ≡ Some turn → (y : ℕ × List ℕ) × (slice_get (asked lane c) (replied lane c) ≡ Some y) × IsRequest profile turn y
    oldest_is turn e =
        let k = first_of (slice_get_within waits 0 turn e) in
        let same : turn ≡ k.2 = same_some turn k.2 (sym e ∙ ap (λ z. slice_get z 0) k.4) in
        (k.0, k.1, subst (λ (t : Turn). IsRequest profile t k.0) (sym same) k.5)

    pub none_is : slice_get waits 0 ≡ None → length (asked lane c) ≤ replied lane c
    none_is e = omega (arith, none_first waits e, waiting)

    module _ (p : List ℕ) (some : payloads Server c ≢ []) (on : is_on lane 16 p ≡ true) where
      replies_more : replied lane (c ++ (Server, p) ∷ []) ≡ suc (replied lane c)
      replies_more = replied_more lane c p some true on ∙ plus_one (replied lane c)

      pub lane_reply : 0 < length waits → IsLane profile lane (c ++ (Server, p) ∷ []) (drop 1 waits)
      lane_reply more =
          let as' = asked_by_server lane c p in
          let k = first_of more in
          record {
            paired = omega (arith, replies_more, more, waiting, ap length as');
            are =
                let rests : drop (suc (replied lane c)) (asked lane c) ≡ drop (replied lane (c ++ (Server, p) ∷ [])) (asked lane (c ++ (Server, p) ∷ [])) =
                ap (drop (suc (replied lane c))) (sym as') ∙ ap (λ n. drop n (asked lane (c ++ (Server, p) ∷ []))) (sym replies_more) in
                subst (AreRequests profile (drop 1 waits)) rests (subst (λ z. AreRequests profile z (drop (suc (replied lane c)) (asked lane c))) (sym (ap (drop 1) k.4)) k.6);
          }

-- ---- How many are left out
module _ (turn : Turn) where
  lacked_same : (turns : List Turn) (n : ℕ) → (IsLacked turn → ⊥) → AreLacked turns n → AreLacked (turns ++ turn ∷ []) n
  lacked_same [] n known a = inr (known, a)
  lacked_same (y ∷ ys) n known (inl a) = inl (a.0, a.1, a.2, lacked_same ys a.1 known a.3)
  lacked_same (y ∷ ys) n known (inr a) = inr (a.0, lacked_same ys n known a.1)

  lacked_more : (turns : List Turn) (n : ℕ) → IsLacked turn → AreLacked turns n → AreLacked (turns ++ turn ∷ []) (suc n)
  lacked_more [] n lacked a = inl (lacked, n, refl, a)
  lacked_more (y ∷ ys) n lacked (inl a) = inl (a.0, suc a.1, ap suc a.2, lacked_more ys a.1 lacked a.3)
  lacked_more (y ∷ ys) n lacked (inr a) = inr (a.0, lacked_more ys n lacked a.1)

  lacked_drop : (turns : List Turn) (n : ℕ) → slice_get turns 0 ≡ Some turn → (IsLacked turn → ⊥) → AreLacked turns n → AreLacked (drop 1 turns) n
  lacked_drop [] n e known a = absurd (cc)
  lacked_drop (y ∷ ys) n e known (inl a) = absurd (known (subst (IsLacked) (same_some y turn e) a.0))
  lacked_drop (y ∷ ys) n e known (inr a) = a.1

  lacked_less : (turns : List Turn) (n : ℕ) → slice_get turns 0 ≡ Some turn → IsLacked turn → AreLacked turns n → (m : ℕ) × (n ≡ suc m) × AreLacked (drop 1 turns) m
  lacked_less [] n e lacked a = absurd (cc)
  lacked_less (y ∷ ys) n e lacked (inl a) = (a.1, a.2, a.3)
  lacked_less (y ∷ ys) n e lacked (inr a) = absurd (a.0 (subst (IsLacked) (sym (same_some y turn e)) lacked))

-- ---- The lanes, with one changed
changed : (k l : Lane) (f : List Turn → List Turn) (t : TurnsState) → waits_on k (with_waits l f t) ≡ cond (same_lane k l) (f (waits_on k t)) (waits_on k t)
changed Ping Ping f t = refl
changed Auth Auth f t = refl
changed Watches Watches f t = refl
changed Plain Plain f t = refl
changed _ _ f t = refl

pub left_stays : (l : Lane) (f : List Turn → List Turn) (t : TurnsState) → with_waits l f t ≡ record (with_waits l f t) { left = t.left }
left_stays Ping f t = refl
left_stays _ f t = refl

-- the count beside the lanes is of no weight for them
waits_still : (k l : Lane) (f : List Turn → List Turn) (t : TurnsState) (n : ℕ) → waits_on k (record (with_waits l f t) { left = n }) ≡ waits_on k (with_waits l f t)
waits_still Ping l f t n = refl
waits_still _ l f t n = refl

abbrev left_on : (t : TurnsState) → AreLeft t → Lane → ℕ
left_on t a Ping = a.ping
left_on t a Auth = a.auth
left_on t a Watches = a.watches
left_on t a Plain = a.plain

are_on : (t : TurnsState) (a : AreLeft t) (l : Lane) → AreLacked (waits_on l t) (left_on t a l)
are_on t a Ping = a.pings
are_on t a Auth = a.auths
are_on t a Watches = a.of_watches
are_on t a Plain = a.of_plain

are_left : (t : TurnsState) (ping auth watches plain : ℕ) → AreLacked t.ping ping → AreLacked t.auth auth → AreLacked t.watches watches → AreLacked t.plain plain → t.left ≡ ping + auth + watches + plain → AreLeft t
are_left t ping auth watches plain pings auths of_watches of_plain all = record { ping = ping; auth = auth; watches = watches; plain = plain; pings = pings; auths = auths; of_watches = of_watches; of_plain = of_plain; all = all }

left_with : (l : Lane) (f : List Turn → List Turn) (t : TurnsState) (a : AreLeft t) (left n : ℕ) → AreLacked (f (waits_on l t)) n → left + left_on t a l ≡ t.left + n →
    AreLeft (record (with_waits l f t) { left = left })
left_with Ping f t a left n x e = are_left _ n a.auth a.watches a.plain x a.auths a.of_watches a.of_plain (omega (arith, a.all, e))
left_with Auth f t a left n x e = are_left _ a.ping n a.watches a.plain a.pings x a.of_watches a.of_plain (omega (arith, a.all, e))
left_with Watches f t a left n x e = are_left _ a.ping a.auth n a.plain a.pings a.auths x a.of_plain (omega (arith, a.all, e))
left_with Plain f t a left n x e = are_left _ a.ping a.auth a.watches n a.pings a.auths a.of_watches x (omega (arith, a.all, e))

-- ---- The frame's lane
pub on_none : (lane : Lane) (size : ℕ) (p : List ℕ) → has_turn size p ≡ false → is_on lane size p ≡ false
unfolding is_on
on_none lane size p e = ap (λ z. if z then same_lane lane (lane_in p) else false) e

module _ (size : ℕ) (p : List ℕ) (turn : has_turn size p ≡ true) where
  pub on_lane : (lane : Lane) → is_on lane size p ≡ same_lane lane (lane_in p)
  unfolding is_on
  on_lane lane = ap (λ z. if z then same_lane lane (lane_in p) else false) turn

  each_lane : (profile : Profile) (c c' : Came) (t : TurnsState) (f : List Turn → List Turn)
      (moves : (k : Lane) → k ≡ lane_in p → is_on k size p ≡ true → IsLane profile k c (waits_on k t) → IsLane profile k c' (f (waits_on k t)))
      (stays : (k : Lane) → is_on k size p ≡ false → IsLane profile k c (waits_on k t) → IsLane profile k c' (waits_on k t)) →
      ((k : Lane) → IsLane profile k c (waits_on k t)) → (k : Lane) → IsLane profile k c' (waits_on k (with_waits (lane_in p) f t))
  each_lane profile c c' t f moves stays b k = go (same_lane k (lane_in p)) refl
    where
      now : (d : Bool) → same_lane k (lane_in p) ≡ d → waits_on k (with_waits (lane_in p) f t) ≡ cond d (f (waits_on k t)) (waits_on k t)
      now d e = changed k (lane_in p) f t ∙ ap (λ z. cond z (f (waits_on k t)) (waits_on k t)) e

      go : (d : Bool) → same_lane k (lane_in p) ≡ d → IsLane profile k c' (waits_on k (with_waits (lane_in p) f t))
      go true e = subst (IsLane profile k c') (sym (now true e)) (moves k (lanes_same k (lane_in p) e) (on_lane k ∙ e) (b k))
      go false e = subst (IsLane profile k c') (sym (now false e)) (stays k (on_lane k ∙ e) (b k))

module _ (profile : Profile) (c : Came) (t : TurnsState) (p : List ℕ) (b : AreLanes profile c t) where
  pub lanes_client : (payloads Client c ≢ [] → has_turn 8 p ≡ false) → AreLanes profile (c ++ (Client, p) ∷ []) t
  lanes_client other = record { lane = λ k. lane_client profile k (waits_on k t) c p (b.lane k) (λ some. on_none k 8 p (other some)); left = b.left }

  pub lanes_server : (payloads Server c ≢ [] → has_turn 16 p ≡ false) → AreLanes profile (c ++ (Server, p) ∷ []) t
  lanes_server other = record { lane = λ k. lane_server profile k (waits_on k t) c p (b.lane k) (λ some. on_none k 16 p (other some)); left = b.left }

  module _ (some : payloads Client c ≢ []) (turn : has_turn 8 p ≡ true) (asks : Turn) (is : IsRequest profile asks (length (payloads Client c), p)) (fits : (k : Lane) → length (waits_on k t) < t.room) where
    pushed : (k : Lane) → IsLane profile k (c ++ (Client, p) ∷ []) (waits_on k (with_waits (lane_in p) (and_turn t.room asks) t))
    pushed =
        each_lane 8 p turn profile c (c ++ (Client, p) ∷ []) t (and_turn t.room asks)
        (λ k same on x. subst (IsLane profile k (c ++ (Client, p) ∷ [])) (sym (with_room t.room (waits_on k t) asks (fits k))) (lane_request profile k (waits_on k t) c p x some on asks is))
        (λ k off x. lane_client profile k (waits_on k t) c p x (λ more. off)) b.lane

    push_is : and_turn t.room asks (waits_on (lane_in p) t) ≡ waits_on (lane_in p) t ++ asks ∷ []
    push_is = with_room t.room (waits_on (lane_in p) t) asks (fits (lane_in p))

    pub lanes_request : (IsLacked asks → ⊥) → AreLanes profile (c ++ (Client, p) ∷ []) (with_waits (lane_in p) (and_turn t.room asks) t)
    lanes_request known = record {
      lane = pushed;
      left =
          let l = lane_in p in
          let n = left_on t b.left l in
          let x = subst (λ z. AreLacked z n) (sym push_is) (lacked_same asks (waits_on l t) n known (are_on t b.left l)) in
          subst (AreLeft) (sym (left_stays l (and_turn t.room asks) t)) (left_with l (and_turn t.room asks) t b.left t.left n x refl);
    }

    pub lanes_left : IsLacked asks → AreLanes profile (c ++ (Client, p) ∷ []) (record (with_waits (lane_in p) (and_turn t.room asks) t) { left = t.left + 1 })
    lanes_left lacked = record {
      lane = λ k. subst (IsLane profile k (c ++ (Client, p) ∷ [])) (sym (waits_still k (lane_in p) (and_turn t.room asks) t (t.left + 1))) (pushed k);
      left =
          let l = lane_in p in
          let n = left_on t b.left l in
          let x = subst (λ z. AreLacked z (suc n)) (sym push_is) (lacked_more asks (waits_on l t) n lacked (are_on t b.left l)) in
          left_with l (and_turn t.room asks) t b.left (t.left + 1) (suc n) x (omega arith);
    }

  module _ (turn : has_turn 16 p ≡ true) where
    -- the request that the reply is to answer
    pub turn_is : (due : Turn) → IsDue t (xid_of p) due → (y : ℕ × List ℕ) × (slice_get (asked (lane_in p) c) (replied (lane_in p) c) ≡ Some y) × IsRequest profile due y
    turn_is due is = oldest_is profile (lane_in p) (waits_on (lane_in p) t) c (b.lane (lane_in p)) due is

    pub none_due : slice_get (waits_on (lane_in p) t) 0 ≡ None → length (asked (lane_in p) c) ≤ replied (lane_in p) c
    none_due is = none_is profile (lane_in p) (waits_on (lane_in p) t) c (b.lane (lane_in p)) is

    module _ (some : payloads Server c ≢ []) (due : Turn) (is : IsDue t (xid_of p) due) where
      popped : (k : Lane) → IsLane profile k (c ++ (Server, p) ∷ []) (waits_on k (with_waits (lane_in p) (drop 1) t))
      popped =
          each_lane 16 p turn profile c (c ++ (Server, p) ∷ []) t (drop 1)
          (λ k same on x. lane_reply profile k (waits_on k t) c x p some on (subst (λ (z : Lane). 0 < length (waits_on z t)) (sym same) (slice_get_within (waits_on (lane_in p) t) 0 due is)))
          (λ k off x. lane_server profile k (waits_on k t) c p x (λ more. off)) b.lane

      pub lanes_reply : (IsLacked due → ⊥) → AreLanes profile (c ++ (Server, p) ∷ []) (with_waits (lane_in p) (drop 1) t)
      lanes_reply known = record {
        lane = popped;
        left =
            let l = lane_in p in
            let n = left_on t b.left l in
            let x = lacked_drop due (waits_on l t) n is known (are_on t b.left l) in
            subst (AreLeft) (sym (left_stays l (drop 1) t)) (left_with l (drop 1) t b.left t.left n x refl);
      }

      -- one of those that are left out
      pub some_left : IsLacked due → 0 < t.left
      some_left lacked =
          let l = lane_in p in
          let x = lacked_less due (waits_on l t) (left_on t b.left l) is lacked (are_on t b.left l) in
          omega (arith, x.1, no_more l)
        where
          no_more : (l : Lane) → left_on t b.left l ≤ t.left
          no_more Ping = omega (arith, b.left.all)
          no_more _ = omega (arith, b.left.all)

      pub lanes_answer : IsLacked due → AreLanes profile (c ++ (Server, p) ∷ []) (record (with_waits (lane_in p) (drop 1) t) { left = t.left - 1 })
      lanes_answer lacked = record {
        lane = λ k. subst (IsLane profile k (c ++ (Server, p) ∷ [])) (sym (waits_still k (lane_in p) (drop 1) t (t.left - 1))) (popped k);
        left =
            let l = lane_in p in
            let x = lacked_less due (waits_on l t) (left_on t b.left l) is lacked (are_on t b.left l) in
            left_with l (drop 1) t b.left (t.left - 1) x.0 x.2 (omega (arith, x.1, some_left lacked));
      }
