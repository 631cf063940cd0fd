-- A talk that is at the end of a frame on both sides takes a whole frame to its end.
use Rattle.std.proofs.Common.{◌≡◌, ℕ, ◌<◌, ◌≤◌, ◌^◌, List, [], ◌∷◌, ◌++◌, length, take, drop, refl, sym, ap, ◌∙◌, subst, arith, append_assoc, length-append, Bool, true, false}
use Rattle.std.specs.List.{AllByRecursion}
use Rattle.std.proofs.lemmas.List.{append-nil, take-append-drop, length-take-le, nil_from_length, take_all}
use Rattle.zk_frames.specs.Framing.{frame, frames, IsCut}
use Rattle.zk_frames.proofs.Cuts.{strip, same_frame, same_cut, whole_frame, length-frame, AllByRecursion-right}
use Rattle.zk_talk.specs.{declared.message.Side.Side, declared.limits.Limits.Limits, History.History, History.side_bytes, History.on, Good.client_payloads, Good.server_payloads, Good.clients, Good.servers, Held.Message}
use Rattle.zk_talk.specs.declared.message.Side.TheVariants.{Client, Server}
use Rattle.zk_talk.specs.{Stands.TalkState, Stands.Stands, Stands.held_on, Viewed.other_side, Conversation.Conversation, Taking.StepsOn, Fault.side_limit}
use Rattle.zk_talk.proofs.{Histories.side_bytes-append, Standing.other-on, Small.AreSmall, Replays.own_bytes}
use Rattle.zk_through.specs.Runs.{IsTold}

-- ---- Bytes that are told
pub bytes_more : (side : Side) (h : History) (bs : List ℕ) → side_bytes side (h ++ on side bs) ≡ side_bytes side h ++ bs
bytes_more side h bs = side_bytes-append side h (on side bs) ∙ ap (λ z. side_bytes side h ++ z) (own_bytes side bs)

-- ---- One frame
module _ (limit : ℕ) (bytes p : List ℕ) (P P' : List (List ℕ)) (small : limit < 2 ^ 31) (fits : length p ≤ limit) (x : IsCut limit bytes P []) where
  -- what ends with a frame, and is a front of one, is that frame
  all_of_it : (used : ℕ) → 0 < used → used ≤ length (frame p) → IsCut limit (bytes ++ take used (frame p)) P' [] → take used (frame p) ≡ frame p
  all_of_it used some part y =
      let t = take used (frame p) in
      let e : frames P ++ t ≡ frames P' ++ [] = ap (λ z. z ++ t) (sym (append-nil (frames P)) ∙ sym x.whole) ∙ y.whole in
      let r = strip limit P P' t [] small x.within y.within y.beginning e in
      go r.0 (AllByRecursion-right (λ q. length q ≤ limit) P r.0 (subst (AllByRecursion (λ q. length q ≤ limit)) r.1 y.within)) r.2
    where
      go : (more : List (List ℕ)) → AllByRecursion (λ q. length q ≤ limit) more → take used (frame p) ≡ frames more ++ [] → take used (frame p) ≡ frame p
      go [] a e = absurd (omega (arith, ap length e, length-take-le used (frame p) part))
      go (q ∷ more) a e =
          let rest = (frames more ++ []) ++ drop used (frame p) in
          let whole : frame p ++ [] ≡ frame q ++ rest =
          append-nil (frame p) ∙ sym (take-append-drop used (frame p)) ∙ ap (λ z. z ++ drop used (frame p)) (e ∙ append_assoc (frame q) (frames more) []) ∙ append_assoc (frame q) (frames more ++ []) (drop used (frame p)) in
          let s = same_frame limit p q [] rest small fits a.0 whole in
          let none : length (drop used (frame p)) ≡ 0 = omega (arith, ap length s.1, length-append (frames more ++ []) (drop used (frame p))) in
          sym (append-nil (take used (frame p))) ∙ ap (λ z. take used (frame p) ++ z) (sym (nil_from_length (drop used (frame p)) none)) ∙ take-append-drop used (frame p)

  -- a frame more is one payload more
  not_same : (c : List ℕ) → P ≡ P' → IsCut limit (bytes ++ frame p) P' c → ⊥
  not_same c same y =
      let y' = subst (λ z. IsCut limit z P' c) (ap (λ z. z ++ frame p) (x.whole ∙ append-nil (frames P))) y in
      let r = whole_frame limit bytes P P' [] p c small x fits y' in
      omega (arith, ap length (same ∙ r.0), length-append P (p ∷ []))

-- ---- The talk
abbrev payloads_on : Side → Conversation → List (List ℕ)
payloads_on Client v = client_payloads v.client
payloads_on Server v = server_payloads v.server

both_held : (side : Side) (t : TalkState) → held_on side t ≡ [] → held_on (other_side side) t ≡ [] → (t.client_held ≡ []) × (t.server_held ≡ [])
both_held Client t own other = (own, other)
both_held Server t own other = (other, own)

module _ (old new : TalkState) (p : List ℕ) (used : ℕ) (same : new.limits ≡ old.limits) where
  cut_on : (side : Side) (h : History) (M : List Message) (st : Stands new h M) → IsCut (side_limit old.limits side) (side_bytes side h) (payloads_on side st.conversation) (held_on side new)
  cut_on Client h M st = subst (λ (l : Limits). IsCut l.client (side_bytes Client h) (client_payloads st.conversation.client) new.client_held) same st.good.whole.client_cut
  cut_on Server h M st = subst (λ (l : Limits). IsCut l.server (side_bytes Server h) (server_payloads st.conversation.server) new.server_held) same st.good.whole.server_cut

  small_on : AreSmall old.limits → (side : Side) → side_limit old.limits side < 2 ^ 31
  small_on small Client = small.0
  small_on small Server = small.1

  module _ (small : AreSmall old.limits) (h : History) (M : List Message) (st : Stands old h M) (ce : old.client_held ≡ []) (se : old.server_held ≡ []) where
    old_on : (side : Side) → IsCut (side_limit old.limits side) (side_bytes side h) (payloads_on side st.conversation) []
    old_on Client = subst (λ z. IsCut old.limits.client (side_bytes Client h) (client_payloads st.conversation.client) z) ce st.good.whole.client_cut
    old_on Server = subst (λ z. IsCut old.limits.server (side_bytes Server h) (server_payloads st.conversation.server) z) se st.good.whole.server_cut

    -- the other side is still at the end of a frame
    still : (side : Side) (bs : List ℕ) (N : List Message) → Stands new (h ++ on side bs) N → held_on (other_side side) new ≡ []
    still side bs N st' =
        let other = other_side side in
        let y = subst (λ z. IsCut (side_limit old.limits other) z (payloads_on other st'.conversation) (held_on other new)) (other-on side bs h) (cut_on other (h ++ on side bs) N st') in
        (same_cut (side_limit old.limits other) _ _ _ _ _ (small_on small other) y (old_on other)).1

    module _ (side : Side) (fits : length p ≤ side_limit old.limits side) where
      cut_more : (bs : List ℕ) (N : List Message) (st' : Stands new (h ++ on side bs) N) → IsCut (side_limit old.limits side) (side_bytes side h ++ bs) (payloads_on side st'.conversation) (held_on side new)
      cut_more bs N st' = subst (λ z. IsCut (side_limit old.limits side) z (payloads_on side st'.conversation) (held_on side new)) (bytes_more side h bs) (cut_on side (h ++ on side bs) N st')

      all_on : 0 < used → used ≤ length (frame p) → (N : List Message) → held_on side new ≡ [] → Stands new (h ++ on side (take used (frame p))) N → take used (frame p) ≡ frame p
      all_on some part N none st' =
          let t = take used (frame p) in
          all_of_it (side_limit old.limits side) (side_bytes side h) p (payloads_on side st.conversation) (payloads_on side st'.conversation) (small_on small side) fits (old_on side) used some part
          (subst (λ z. IsCut (side_limit old.limits side) (side_bytes side h ++ t) (payloads_on side st'.conversation) z) none (cut_more t N st'))

      not_on : Stands new (h ++ on side (frame p)) (M ++ []) → ⊥
      not_on st' =
          not_same (side_limit old.limits side) (side_bytes side h) p (payloads_on side st.conversation) (payloads_on side st'.conversation) (small_on small side) fits (old_on side) (held_on side new) (alike side) (cut_more (frame p) (M ++ []) st')
        where
          alike : (side : Side) → payloads_on side st.conversation ≡ payloads_on side st'.conversation
          alike Client = ap client_payloads (sym st.order.client ∙ ap clients (sym (append-nil M)) ∙ st'.order.client)
          alike Server = ap server_payloads (sym st.order.server ∙ ap servers (sym (append-nil M)) ∙ st'.order.server)

  take_whole : used ≡ length (frame p) → take used (frame p) ≡ frame p
  take_whole e = take_all used (frame p) (omega (arith, e))

  -- a whole frame is told to its end
  pub told_whole : AreSmall old.limits → (side : Side) (whole : Bool) → length p ≤ side_limit old.limits side → StepsOn old side (frame p) used whole new → (whole ≡ false → used ≡ length (frame p)) → IsTold old side p new
  told_whole small side true fits s _ h M st ce se =
      let m = s.2 in
      let st' = m.1 h M st in
      let held = both_held side new m.3 (still small h M st ce se side (take used (frame p)) (M ++ m.0 ∷ []) st') in
      let all = all_on small h M st ce se side fits (s.1 (omega (arith, length-frame p))) s.0 (M ++ m.0 ∷ []) m.3 st' in
      (m.0, m.2, subst (λ z. Stands new (h ++ on side z) (M ++ m.0 ∷ [])) all st', held.0, held.1)
  told_whole small side false fits s all h M st ce se =
      absurd (not_on small h M st ce se side fits (subst (λ z. Stands new (h ++ on side z) (M ++ [])) (take_whole (all refl)) (s.2.0 h M st)))
