-- Whether a reply is to a request that wasn't seen, by what waits.
use Rattle.std.proofs.Common.{◌≡◌, ◌≢◌, ℕ, ◌≤◌, ℤ, List, [], ◌∷◌, ◌++◌, length, drop, refl, sym, ap, ◌∙◌, subst, arith, Bool, true, false, Some, None}
use Rattle.std.specs.Prelude.{slice_get, ◌||◌}
use Rattle.std.specs.{List.list_any, Ordering.int_eq}
use Rattle.std.proofs.{lemmas.Bool.false≢true, lemmas.List.nil_from_length}
use Rattle.zk_records.specs.declared.profile.Profile.{Profile}
use Rattle.zk_waiting.specs.{declared.lane.Lane.Lane, Lane.lane_of, Lane.same_lane}
use Rattle.zk_waiting.specs.declared.lane.Lane.TheVariants.{Ping, Auth, Watches, Plain}
use Rattle.zk_talk.specs.declared.message.Side.TheVariants.{Client, Server}
use Rattle.zk_through.specs.{declared.turn.Turn.Turn, Came.Came, Came.payloads, Unseen.IsToEarlier, Unseen.IsSeen, Unseen.TellsMatched}
use Rattle.zk_through.specs.LeftOut.{xid_of, has_turn, lane_in, is_on, asked, replied}
use Rattle.zk_through.specs.Turns.{TurnsState, AreLanes, AreRequests, waits_on, IsEarlierOn, IsEarlier, matched_on}
use Rattle.zk_through.proofs.Lanes.{none_is, waiting, replied_by_client, replied_more, replied_still, plus_none, on_none, on_lane}

-- ---- Whether a reply of the plain lane came
same_matched : (b : Bool) (c d : Came) → replied Plain d ≡ replied Plain c → TellsMatched b c → TellsMatched b d
same_matched true c d e x = λ zero. x (sym e ∙ zero)
same_matched false c d e x = e ∙ x

module _ (b : Bool) (c : Came) (p : List ℕ) (x : TellsMatched b c) where
  pub matched_client : TellsMatched b (c ++ (Client, p) ∷ [])
  matched_client = same_matched b c (c ++ (Client, p) ∷ []) (replied_by_client Plain c p) x

  pub matched_other : (payloads Server c ≢ [] → has_turn 16 p ≡ false) → TellsMatched b (c ++ (Server, p) ∷ [])
  matched_other off = same_matched b c (c ++ (Server, p) ∷ []) (replied_still Plain c p (λ some. on_none Plain 16 p (off some))) x

  module _ (turn : has_turn 16 p ≡ true) (some : payloads Server c ≢ []) where
    on_plain : (lane : Lane) → lane ≡ lane_in p → is_on Plain 16 p ≡ same_lane Plain lane
    on_plain lane e = on_lane 16 p turn Plain ∙ ap (same_lane Plain) (sym e)

    other_lane : (lane : Lane) → lane ≡ lane_in p → same_lane Plain lane ≡ false → TellsMatched b (c ++ (Server, p) ∷ [])
    other_lane lane e off = same_matched b c (c ++ (Server, p) ∷ []) (replied_more Plain c p some false (on_plain lane e ∙ off) ∙ plus_none (replied Plain c)) x

    by_lane : (lane : Lane) → lane ≡ lane_in p → TellsMatched (matched_on lane b) (c ++ (Server, p) ∷ [])
    by_lane Ping e = other_lane Ping e refl
    by_lane Auth e = other_lane Auth e refl
    by_lane Watches e = other_lane Watches e refl
    by_lane Plain e = λ zero. omega (arith, zero, replied_more Plain c p some true (on_plain Plain e))

    pub matched_reply : TellsMatched (matched_on (lane_in p) b) (c ++ (Server, p) ∷ [])
    matched_reply = by_lane (lane_in p) refl

-- ---- Whether a request was seen
any_turn : (profile : Profile) (xid : ℤ) (turns : List Turn) (xs : List (ℕ × List ℕ)) → AreRequests profile turns xs → list_any (λ (turn : Turn). int_eq turn.xid xid) turns ≡ list_any (λ (x : ℕ × List ℕ). int_eq (xid_of x.1) xid) xs
any_turn profile xid [] [] a = refl
any_turn profile xid [] (x ∷ xs) a = absurd a
any_turn profile xid (t ∷ ts) [] a = absurd a
any_turn profile xid (t ∷ ts) (x ∷ xs) a = λ i. int_eq (a.0.is i).xid xid || any_turn profile xid ts xs a.1 i

flag_is : (b : Bool) (c : Came) → TellsMatched b c → replied Plain c ≡ 0 → b ≡ false
flag_is true c x none = absurd (x none)
flag_is false c x none = refl

module _ (profile : Profile) (c : Came) (t : TurnsState) (b : AreLanes profile c t) (flag : Bool) where
  plain_any : (xid : ℤ) → replied Plain c ≡ 0 → list_any (λ (turn : Turn). int_eq turn.xid xid) t.plain ≡ list_any (λ (x : ℕ × List ℕ). int_eq (xid_of x.1) xid) (asked Plain c)
  plain_any xid none = any_turn profile xid t.plain (asked Plain c) (subst (λ n. AreRequests profile t.plain (drop n (asked Plain c))) none (b.lane Plain).are)

  nothing : (lane : Lane) → length (asked lane c) ≤ replied lane c → slice_get (waits_on lane t) 0 ≡ None
  nothing lane few = ap (λ z. slice_get z 0) (nil_from_length (waits_on lane t) (omega (arith, few, waiting profile lane (waits_on lane t) c (b.lane lane))))

  pub to_earlier : TellsMatched flag c → (q : List ℕ) (lane : Lane) → IsEarlierOn lane flag t (xid_of q) → IsToEarlier lane c q
  to_earlier r q Ping x = none_is profile Ping t.ping c (b.lane Ping) x
  to_earlier r q Auth x = none_is profile Auth t.auth c (b.lane Auth) x
  to_earlier r q Watches x = none_is profile Watches t.watches c (b.lane Watches) x
  to_earlier r q Plain x =
      let zero : replied Plain c ≡ 0 = subst (λ z. TellsMatched z c) x.0 r in
      (zero, sym (plain_any (xid_of q) zero) ∙ x.1)

  earlier_on : TellsMatched flag c → (q : List ℕ) (lane : Lane) → IsToEarlier lane c q → IsEarlierOn lane flag t (xid_of q)
  earlier_on r q Ping x = nothing Ping x
  earlier_on r q Auth x = nothing Auth x
  earlier_on r q Watches x = nothing Watches x
  earlier_on r q Plain x = (flag_is flag c r x.0, plain_any (xid_of q) x.0 ∙ x.1)

  -- what isn't passed over is seen
  module _ (late : Bool) (r : late ≡ true → TellsMatched flag c) (q : List ℕ) where
    pub seen_other : (payloads Server c ≢ [] → has_turn 16 q ≡ false) → IsSeen late c (Server, q)
    seen_other off e u = false≢true (sym (off u.0) ∙ u.1)

    pub seen_reply : (xid : ℤ) → xid ≡ xid_of q → (late ≡ true → IsEarlier flag t (Some xid) → ⊥) → IsSeen late c (Server, q)
    seen_reply xid is none e u = none e (subst (λ z. IsEarlierOn (lane_of z) flag t z) (sym is) (earlier_on (r e) q (lane_in q) u.2))
