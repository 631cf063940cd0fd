-- The lanes by the numbers of frames.
use Rattle.std.proofs.Common.{◌≡◌, ◌≢◌, ℕ, ◌+◌, ◌<◌, ◌≤◌, List, [], ◌∷◌, ◌++◌, length, map, refl, sym, ◌∙◌, subst, Bool, true, false, arith}
use Rattle.std.specs.Prelude.{ℤ, negsuc, if◌then◌else◌}
use Rattle.std.specs.Ordering.{int_eq}
use Rattle.std.proofs.{lemmas.Bool.Decides.Decides-int_eq, lemmas.List.map-append, lemmas.List.Sums.sum_by-cons}
use Rattle.zk_records.specs.{declared.op.Op.Op, declared.op.PartOp.PartOp}
use Rattle.zk_records.specs.declared.op.Op.TheVariants as ops
use Rattle.zk_asks.specs.Codes.{ping_xid, auth_xid, watches_xid, IsAllowed}
use Rattle.zk_waiting.specs.{Lane.lane_of, declared.lane.Lane.Lane, Awaited.bare, Awaited.numbered}
use Rattle.zk_waiting.specs.declared.lane.Lane.TheVariants.{Ping, Auth, Watches, Plain}
use Rattle.zk_waiting.specs.Waiting.{Request, Lanes, request_weight, queue_weight, weight_of, IsPut, IsWeighed}
use Rattle.zk_waiting.proofs.Weights.{queue_weight_push}

-- ---- what requests without parts weigh

pub weight_alike : (xid : ℤ) (op : Op) (ns : List ℕ) → queue_weight (map (bare xid op) ns) ≡ length ns
weight_alike xid op [] = refl
weight_alike xid op (n ∷ ns) = omega (arith, sum_by-cons request_weight (bare xid op n) (map (bare xid op) ns), weight_alike xid op ns)

pub numbered_weight : (max : ℕ) (pings auths watches : List ℕ) (plain : List Request) → weight_of (numbered max pings auths watches plain) ≡ length pings + length auths + length watches + queue_weight plain
numbered_weight max pings auths watches plain =
    omega (arith, weight_alike ping_xid ops.Ping pings, weight_alike auth_xid ops.Auth auths, weight_alike watches_xid ops.SetWatches watches)

-- ---- a special lane's requests are alike

abbrev IsOn : Lane → ℤ → Type 0
IsOn Ping xid = xid ≡ ping_xid
IsOn Auth xid = xid ≡ auth_xid
IsOn Watches xid = xid ≡ watches_xid
IsOn Plain xid = Unit {0}

its_lane : (xid : ℤ) → IsOn (lane_of xid) xid
unfolding lane_of
its_lane xid = go (int_eq xid (negsuc 1)) (int_eq xid (negsuc 3)) (int_eq xid (negsuc 7)) (Decides-int_eq xid (negsuc 1)).0 (Decides-int_eq xid (negsuc 3)).0 (Decides-int_eq xid (negsuc 7)).0
  where
    go : (a b c : Bool) → (a ≡ true → xid ≡ ping_xid) → (b ≡ true → xid ≡ auth_xid) → (c ≡ true → xid ≡ watches_xid) → IsOn (if a then Ping else if b then Auth else if c then Watches else Plain) xid
    go true b c p q r = p refl
    go false true c p q r = q refl
    go false false true p q r = r refl
    go false false false p q r = tt

alike : (xid : ℤ) (op : Op) (parts : List PartOp) (frame : ℕ) (x : ℤ) (o : Op) → xid ≡ x → op ≡ o → parts ≡ [] → record { xid = xid; op = op; parts = parts; frame = frame } ≡ bare x o frame
alike xid op parts frame x o same is none = cc

-- what a special lane's requests are, but for their numbers
abbrev lane_bare : Lane → Request → ℕ → Request
lane_bare Ping r frame = bare ping_xid ops.Ping frame
lane_bare Auth r frame = bare auth_xid ops.Auth frame
lane_bare Watches r frame = bare watches_xid ops.SetWatches frame
lane_bare Plain r frame = r

is_bare : (lane : Lane) (r : Request) → IsAllowed r.xid r.op → (r.op ≢ ops.Multi → r.parts ≡ []) → lane ≡ lane_of r.xid → r ≡ lane_bare lane r r.frame
is_bare lane r may none e = go lane (subst (λ l. IsOn l r.xid) (sym e) (its_lane r.xid))
  where
    at : (x : ℤ) (o : Op) → o ≢ ops.Multi → r.xid ≡ x → r.op ≡ o → r ≡ bare x o r.frame
    at x o other same is = alike r.xid r.op r.parts r.frame x o same is (none (λ multi. other (sym is ∙ multi)))

    go : (lane : Lane) → IsOn lane r.xid → r ≡ lane_bare lane r r.frame
    go Ping same = at ping_xid ops.Ping (λ z. cc) same (may.1.1 same)
    go Auth same = at auth_xid ops.Auth (λ z. cc) same (may.2.1 same)
    go Watches same = at watches_xid ops.SetWatches (λ z. cc) same (may.3 same)
    go Plain same = refl

-- ---- one more

pub put_weighs : (lane : Lane) (r : Request) (old new : Lanes) (weight : ℕ) → IsWeighed weight old → weight_of old + request_weight r ≤ old.max → IsPut lane r old new → IsWeighed (weight + 1 + length r.parts) new
put_weighs Ping r old new weight was room e = rw e (record { is = omega (arith, was.is, queue_weight_push old.ping r); within = omega (arith, was.is, room); small = was.small })
put_weighs Auth r old new weight was room e = rw e (record { is = omega (arith, was.is, queue_weight_push old.auth r); within = omega (arith, was.is, room); small = was.small })
put_weighs Watches r old new weight was room e = rw e (record { is = omega (arith, was.is, queue_weight_push old.watches r); within = omega (arith, was.is, room); small = was.small })
put_weighs Plain r old new weight was room e = rw e (record { is = omega (arith, was.is, queue_weight_push old.plain r); within = omega (arith, was.is, room); small = was.small })

module _ (max : ℕ) (pings auths watches : List ℕ) (plain : List Request) where
  abbrev before : Lanes
  before = numbered max pings auths watches plain

  -- each special lane has room for one number more
  pub numbers_fit : (parts : List PartOp) (now : Lanes) → before ≡ now → weight_of now + (1 + length parts) ≤ now.max → length pings + length auths + length watches < max
  numbers_fit parts now is fits =
      let room : weight_of before + (1 + length parts) ≤ max = subst (λ (w : Lanes). weight_of w + (1 + length parts) ≤ w.max) (sym is) fits in
      omega (arith, room, numbered_weight max pings auths watches plain)

  module _ (r : Request) (may : IsAllowed r.xid r.op) (none : r.op ≢ ops.Multi → r.parts ≡ []) where
    pub put_ping : Ping ≡ lane_of r.xid → IsPut Ping r before (numbered max (pings ++ r.frame ∷ []) auths watches plain)
    put_ping e = rw (is_bare Ping r may none e, map-append) refl

    pub put_auth : Auth ≡ lane_of r.xid → IsPut Auth r before (numbered max pings (auths ++ r.frame ∷ []) watches plain)
    put_auth e = rw (is_bare Auth r may none e, map-append) refl

    pub put_watches : Watches ≡ lane_of r.xid → IsPut Watches r before (numbered max pings auths (watches ++ r.frame ∷ []) plain)
    put_watches e = rw (is_bare Watches r may none e, map-append) refl
