-- What becomes of a whole frame: it is told, or left out.
use Rattle.std.proofs.Common.{◌≡◌, ◌≢◌, ℕ, ◌<◌, ◌-◌, inl, inr, List, [], ◌∷◌, ◌++◌, length, drop, take, Some, None, refl, sym, ap, ◌∙◌, subst, arith, true, false, ◌≤◌, ◌+◌, zero, suc}
use Rattle.std.proofs.{lemmas.Bool.false≢true, lemmas.List.append-nil, lemmas.Option.slice_get_within}
use Rattle.zk_frames.specs.Framing.{frame}
use Rattle.zk_waiting.specs.Waiting.{count_of}
use Rattle.zk_talk.specs.{declared.message.Side.Side, Held.Message, History.History, History.on, Conversation.Conversation, Conversation.load, Good.Good, Stands.TalkState, Stands.Stands, Stands.WhereItStands, Viewed.Shows}
use Rattle.zk_talk.specs.declared.message.Side.TheVariants.{Client, Server}
use Rattle.zk_through.specs.{declared.turn.Turn.Turn, Came.Came, Came.payloads, Came.told, Unseen.IsUnseen, Unseen.IsSeen, Unseen.TellsMatched}
use Rattle.zk_through.specs.LeftOut.{xid_of, has_turn, lane_in, IsForeign, IsLeftOut, Kept, AnswersAfter, NewestAnswers}
use Rattle.zk_through.specs.Turns.{AreLanes, IsDue, IsLacked, IsEarlier, matched_on, turn_of, waits_on, with_waits, and_turn, left_out, number_of_turns}
use Rattle.zk_through.specs.Runs.{ThroughState, Runs, GoesOn, GoesOnTold, PassesOver, IsTold, IsRequestOf}
use Rattle.zk_through.proofs.{Frames.told-push, Fitting.its_good, Seen.client_counts, Seen.none_counts, Seen.server_some, Seen.some_counts, Steps.FrameCame, Steps.frame_came, Steps.over_came, Newest.newest_client, Newest.newest_server}
use Rattle.zk_through.proofs.Lanes.{some_not_nil, same_some, kept_out, kept_told, lanes_client, lanes_server, lanes_request, lanes_left, lanes_reply, lanes_answer, some_left, turn_is, foreign_of, native_of, made_out, made_told}
use Rattle.zk_through.proofs.Rooms.{with_one, without_one, waits_fit, kept_client, one_more, weighs_some, load_client, one_less, kept_server, load_server}
use Rattle.zk_through.proofs.Earlier.{to_earlier, seen_other, seen_reply, matched_client, matched_other, matched_reply}

pub counted : (n : ℕ) (P : List (List ℕ)) → n ≡ length P → P ≢ [] → 0 < n
counted n [] e some = absurd (some refl)
counted n (p ∷ P) e some = omega (arith, e)

fitting : (a b left n m : ℕ) → a ≤ b + n → b + left ≤ m → (0 < n → b + left + n ≤ m) → a + left ≤ m
fitting a b left zero m less before after = omega (arith, less, before)
fitting a b left (suc n) m less before after = omega (arith, less, after (omega arith))

-- the talk was told the side's frame, which isn't left out
module _ (side : Side) (old new : ThroughState) (used : List ℕ) (p : List ℕ) (tells : IsTold old.talk side p new.talk) where
  told_on : ((h : History) (c k : Came) (M : List Message) (r : Runs old h c k M) (m : Message) → Shows new.talk side m → (st : Stands new.talk (told k ++ on side (frame p)) (M ++ m ∷ [])) →
      (new.talk.client_held ≡ []) → (new.talk.server_held ≡ []) →
      (IsLeftOut old.talk.limits.profile c (side, p) → ⊥) × (Kept old.talk.limits.profile (c ++ (side, p) ∷ []) (k ++ (side, p) ∷ []) → Stands new.talk (told (k ++ (side, p) ∷ [])) (M ++ m ∷ []) →
      Runs new (h ++ on side used) (c ++ (side, p) ∷ []) (k ++ (side, p) ∷ []) (M ++ m ∷ []))) → GoesOnTold old side used p new
  told_on more h c k M r =
      let t = tells (told k) M r.stands r.alone.0 r.alone.1 in
      let y = more h c k M r t.0 t.1 t.2 t.3 t.4 in
      (t.0, t.1, y.1 (kept_told old.talk.limits.profile (side, p) [] c k r.kept y.0) (subst (λ z. Stands new.talk z (M ++ t.0 ∷ [])) (sym (told-push k (side, p))) t.2))

-- no more frames or messages are as those so far
unchanged : (new : ThroughState) (h : History) (c k : Came) (M : List Message) → Runs new h c k M → Runs new h c (k ++ []) (M ++ [])
unchanged new h c k M runs = subst (λ z. Runs new h c z (M ++ [])) (sym (append-nil k)) (subst (λ z. Runs new h c k z) (sym (append-nil M)) runs)

-- ---- The client's
module _ (old new : ThroughState) (piece : List ℕ) (used : ℕ) (p : List ℕ) (x : FrameCame Client old new piece used p) (matched : new.matched ≡ old.matched) (answered : new.answered ≡ old.answered) where
  client_came : (h : History) (c k : Came) (M : List Message) → Runs old h c k M → (k' : Came) (M' : List Message) →
      Kept old.talk.limits.profile (c ++ (Client, p) ∷ []) k' → Stands new.talk (told k') M' → (new.talk.client_held ≡ []) × (new.talk.server_held ≡ []) → AreLanes old.talk.limits.profile (c ++ (Client, p) ∷ []) new.turns →
      ((v : Conversation) → Good old.talk.limits (told k') v [] [] → load v.client v.server + left_out new.turns ≤ old.talk.limits.waiting) → number_of_turns new.turns ≤ count_of new.talk.waiting + left_out new.turns →
      Runs new (h ++ on Client (take used piece)) (c ++ (Client, p) ∷ []) k' M'
  client_came h c k M r k' M' kept stands alone lanes room few =
      frame_came old new piece used p Client x h c k M r k' M' kept stands alone lanes room few (subst (NewestAnswers (c ++ (Client, p) ∷ [])) (sym answered) (newest_client c old.answered p r.answered)) (λ e u. u)
      (λ e. subst (λ z. TellsMatched z (c ++ (Client, p) ∷ [])) (sym matched) (matched_client old.matched c p (r.matched (sym x.late ∙ e))))

  -- the talk is told the frame, which isn't left out
  module _ (size : ℕ) (only : 0 < old.client.count → (n : ℕ) → IsRequestOf old.talk.limits.profile p n → n ≤ size)
      (fits : 0 < size → WhereItStands old.talk (λ v client_rest server_rest. load v.client v.server + left_out old.turns + size ≤ old.talk.limits.waiting))
      (tells : IsTold old.talk Client p new.talk) (left : left_out new.turns ≡ left_out old.turns) where
    told_client : ((h : History) (c k : Came) (M : List Message) (r : Runs old h c k M) (m : Message) → Shows new.talk Client m → (st : Stands new.talk (told k ++ on Client (frame p)) (M ++ m ∷ [])) →
        (new.talk.client_held ≡ []) → (new.talk.server_held ≡ []) →
        (IsLeftOut old.talk.limits.profile c (Client, p) → ⊥) × AreLanes old.talk.limits.profile (c ++ (Client, p) ∷ []) new.turns × (number_of_turns new.turns ≤ count_of new.talk.waiting + left_out new.turns)) →
        GoesOnTold old Client (take used piece) p new
    told_client more =
        told_on Client old new (take used piece) p tells (λ h c k M r m shows st ch sh.
        let y = more h c k M r m shows st ch sh in (
          y.0,
          λ kept stands. client_came h c k M r (k ++ (Client, p) ∷ []) (M ++ m ∷ []) kept stands (ch, sh) y.1
              (λ v g.
              let w = r.stands.conversation in
              let g' = subst (λ z. Good old.talk.limits z v [] []) (told-push k (Client, p)) g in
              let less = load_client old h c k M r new.talk x.limits ch sh p x.fits m shows st size only v g' in
              omega (
                arith,
                left,
                fitting (load v.client v.server) (load w.client w.server) (left_out old.turns) size old.talk.limits.waiting less (r.room w (its_good old h c k M r))
                    (λ some. fits some (told k) M w [] [] r.stands (its_good old h c k M r)),
              ))
              y.2,
        ))

    -- one that is the first, or of no lane
    pub client_other : new.turns ≡ old.turns → (0 < old.client.count → has_turn 8 p ≡ false) → GoesOnTold old Client (take used piece) p new
    client_other same other =
        told_client (λ h c k M r m shows st ch sh.
        let off : payloads Client c ≢ [] → has_turn 8 p ≡ false = λ some. other (counted old.client.count (payloads Client c) (client_counts old h c k M r) some) in (
          (λ out. false≢true (sym (off out.0) ∙ out.1)),
          subst (AreLanes old.talk.limits.profile (c ++ (Client, p) ∷ [])) (sym same) (lanes_client old.talk.limits.profile c old.turns p r.lanes off),
          omega (arith, r.few, left, ap number_of_turns same, kept_client old h c k M r new.talk x.limits ch sh p x.fits m shows st),
        ))

    -- or a request of the profile
    pub client_asks : has_turn 8 p ≡ true → 0 < old.client.count → old.turns.room ≡ old.talk.limits.waiting → (asks : Turn) → asks ≡ turn_of false (old.client.count, p) → new.turns ≡ with_waits (lane_in p) (and_turn old.turns.room asks) old.turns →
        (IsForeign old.talk.limits.profile p → ⊥) → GoesOnTold old Client (take used piece) p new
    client_asks turn later room asks is more native =
        told_client (λ h c k M r m shows st ch sh.
        let some = weighs_some old h c k M r new.talk x.limits ch sh p x.fits m shows st later size (only later) in
        let loads = fits some (told k) M r.stands.conversation [] [] r.stands (its_good old h c k M r) in
        let is' = made_told old.talk.limits.profile asks (length (payloads Client c), p) (is ∙ ap (λ (z : ℕ). turn_of false (z, p)) (client_counts old h c k M r)) native in
        let known : IsLacked asks → ⊥ = λ lacked. native (foreign_of old.talk.limits.profile asks (length (payloads Client c), p) is' lacked) in (
          (λ out. native out.2),
          subst (AreLanes old.talk.limits.profile (c ++ (Client, p) ∷ [])) (sym more)
              (lanes_request old.talk.limits.profile c old.turns p r.lanes (some_not_nil (payloads Client c) (omega (arith, later, client_counts old h c k M r))) turn asks is' (waits_fit old h c k M r size some loads room) known),
          omega (arith, r.few, left, ap number_of_turns more, with_one (lane_in p) asks old.turns, one_more old h c k M r new.talk x.limits ch sh p x.fits m shows st later),
        ))

  -- another is left out
  pub client_lacks : has_turn 8 p ≡ true → 0 < old.client.count → old.turns.room ≡ old.talk.limits.waiting → new.talk ≡ old.talk → (asks : Turn) → asks ≡ turn_of true (old.client.count, p) →
      new.turns ≡ record (with_waits (lane_in p) (and_turn old.turns.room asks) old.turns) { left = old.turns.left + 1 } → IsForeign old.talk.limits.profile p →
      WhereItStands old.talk (λ v client_rest server_rest. load v.client v.server + left_out old.turns + 1 ≤ old.talk.limits.waiting) → GoesOn old Client (take used piece) ((Client, p) ∷ []) [] [] new
  client_lacks turn later room same asks is more foreign fits h c k M r =
      let some = some_not_nil (payloads Client c) (omega (arith, later, client_counts old h c k M r)) in
      let is' = made_out old.talk.limits.profile asks (length (payloads Client c), p) (is ∙ ap (λ (z : ℕ). turn_of true (z, p)) (client_counts old h c k M r)) foreign in
      let lacked : IsLacked asks = ap (λ (z : Turn). z.out) is in
      let loads = fits (told k) M r.stands.conversation [] [] r.stands (its_good old h c k M r) in
      let lanes = subst (AreLanes old.talk.limits.profile (c ++ (Client, p) ∷ [])) (sym more)
      (lanes_left old.talk.limits.profile c old.turns p r.lanes some turn asks is' (waits_fit old h c k M r 1 (omega arith) loads room) lacked) in
      let left : left_out new.turns ≡ left_out old.turns + 1 = ap left_out more in
      let kept = kept_out old.talk.limits.profile (Client, p) [] c k r.kept (some, turn, foreign) in
      let stands = subst (λ (z : TalkState). Stands z (told k) M) (sym same) r.stands in
      let alone : (new.talk.client_held ≡ []) × (new.talk.server_held ≡ []) = (ap (λ (z : TalkState). z.client_held) same ∙ r.alone.0, ap (λ (z : TalkState). z.server_held) same ∙ r.alone.1) in
      let few : number_of_turns new.turns ≤ count_of new.talk.waiting + left_out new.turns =
      omega (arith, r.few, left, ap number_of_turns more, with_one (lane_in p) asks old.turns, ap (λ (z : TalkState). count_of z.waiting) same) in
      unchanged new (h ++ on Client (take used piece)) (c ++ (Client, p) ∷ []) k M (client_came h c k M r k M kept stands alone lanes (λ v g. omega (arith, left, fits (told k) M v [] [] r.stands g)) few)

-- ---- The server's
module _ (old new : ThroughState) (piece : List ℕ) (used : ℕ) (q : List ℕ) (x : FrameCame Server old new piece used q) where
  its_late : new.late ≡ true → old.late ≡ true
  its_late e = sym x.late ∙ e

  -- the talk is told the frame, which isn't left out
  module _ (tells : IsTold old.talk Server q new.talk) (left : left_out new.turns ≡ left_out old.turns) where
    told_server : ((h : History) (c k : Came) (M : List Message) (r : Runs old h c k M) (m : Message) → Shows new.talk Server m → (st : Stands new.talk (told k ++ on Server (frame q)) (M ++ m ∷ [])) →
        (new.talk.client_held ≡ []) → (new.talk.server_held ≡ []) →
        (IsLeftOut old.talk.limits.profile c (Server, q) → ⊥) × AreLanes old.talk.limits.profile (c ++ (Server, q) ∷ []) new.turns × (number_of_turns new.turns ≤ count_of new.talk.waiting + left_out new.turns) × AnswersAfter c q new.answered × IsSeen old.late c (Server, q) ×
        (new.late ≡ true → TellsMatched new.matched (c ++ (Server, q) ∷ []))) →
        GoesOnTold old Server (take used piece) q new
    told_server more =
        told_on Server old new (take used piece) q tells (λ h c k M r m shows st ch sh.
        let y = more h c k M r m shows st ch sh in (
          y.0,
          λ kept stands. frame_came old new piece used q Server x h c k M r (k ++ (Server, q) ∷ []) (M ++ m ∷ []) kept stands (ch, sh) y.1
              (λ v g.
              let g' = subst (λ z. Good old.talk.limits z v [] []) (told-push k (Server, q)) g in
              omega (arith, load_server old h c k M r new.talk x.limits ch sh q x.fits m shows st v g', left, r.room r.stands.conversation (its_good old h c k M r)))
              y.2 (newest_server c new.answered q y.3) y.4 y.5,
        ))

    -- a frame that is the first, or no reply
    pub server_other : new.turns ≡ old.turns → (old.late ≡ true → new.matched ≡ old.matched) → (0 < old.server.count → has_turn 16 q ≡ false) → (old.server.count ≡ 0 → new.answered ≡ Some 0) → (old.server.count ≢ 0 → new.answered ≡ None) → GoesOnTold old Server (take used piece) q new
    server_other same replies other first later =
        told_server (λ h c k M r m shows st ch sh.
        let off : payloads Server c ≢ [] → has_turn 16 q ≡ false = λ some. other (some_counts old h c k M r some) in (
          (λ out. false≢true (sym (off out.0) ∙ out.1)),
          subst (AreLanes old.talk.limits.profile (c ++ (Server, q) ∷ [])) (sym same) (lanes_server old.talk.limits.profile c old.turns q r.lanes off),
          omega (arith, r.few, left, ap number_of_turns same, kept_server old h c k M r new.talk x.limits ch sh q x.fits m shows st other),
          answers c (payloads Server c) refl (none_counts old h c k M r) (some_counts old h c k M r) off,
          seen_other old.talk.limits.profile c old.turns r.lanes old.matched old.late r.matched q off,
          λ e. subst (λ z. TellsMatched z (c ++ (Server, q) ∷ [])) (sym (replies (its_late e))) (matched_other old.matched c q (r.matched (its_late e)) off),
        ))
      where
        answers : (c : Came) (P : List (List ℕ)) → payloads Server c ≡ P → (payloads Server c ≡ [] → old.server.count ≡ 0) → (payloads Server c ≢ [] → 0 < old.server.count) → (payloads Server c ≢ [] → has_turn 16 q ≡ false) →
            AnswersAfter c q new.answered
        answers c [] e none more off = subst (AnswersAfter c q) (sym (first (none e))) (inl (e, refl))
        answers c (y ∷ P) e none more off =
            let some : payloads Server c ≢ [] = λ empty. omega (arith, ap length (sym e ∙ empty)) in
            subst (AnswersAfter c q) (sym (later (λ zero. omega (arith, zero, more some)))) (some, off some)

    -- a reply to a request that the talk got
    pub server_answers : has_turn 16 q ≡ true → 0 < old.server.count → (due : Turn) → IsDue old.turns (xid_of q) due → (IsLacked due → ⊥) → new.turns ≡ with_waits (lane_in q) (drop 1) old.turns → new.answered ≡ Some due.frame →
        (old.late ≡ true → IsEarlier old.matched old.turns (Some (xid_of q)) → ⊥) → (old.late ≡ true → new.matched ≡ matched_on (lane_in q) old.matched) → GoesOnTold old Server (take used piece) q new
    server_answers turn later due is known less answered stays replies =
        told_server (λ h c k M r m shows st ch sh.
        let some = server_some old h c k M r later in
        let y = turn_is old.talk.limits.profile c old.turns q r.lanes turn due is in
        let waits = slice_get_within (waits_on (lane_in q) old.turns) 0 due is in (
          (λ out. native_of old.talk.limits.profile due y.0 y.2 known (subst (λ (z : ℕ × List ℕ). IsForeign old.talk.limits.profile z.1) (same_some out.2 y.0 (sym out.3 ∙ y.1)) out.4)),
          subst (AreLanes old.talk.limits.profile (c ++ (Server, q) ∷ [])) (sym less) (lanes_reply old.talk.limits.profile c old.turns q r.lanes turn some due is known),
          omega (arith, r.few, left, ap number_of_turns less, without_one (lane_in q) old.turns waits, one_less old h c k M r new.talk x.limits ch sh q x.fits m shows st),
          subst (AnswersAfter c q) (sym answered) (inr (some, turn, y.0, y.1, ap (λ (z : Turn). z.frame) y.2.is)),
          seen_reply old.talk.limits.profile c old.turns r.lanes old.matched old.late r.matched q (xid_of q) refl stays,
          λ e. subst (λ z. TellsMatched z (c ++ (Server, q) ∷ [])) (sym (replies (its_late e))) (matched_reply old.matched c q (r.matched (its_late e)) turn some),
        ))

  -- a reply to one that was left out is left out
  pub server_lacks : has_turn 16 q ≡ true → 0 < old.server.count → new.talk ≡ old.talk → (due : Turn) → IsDue old.turns (xid_of q) due → IsLacked due →
      new.turns ≡ record (with_waits (lane_in q) (drop 1) old.turns) { left = old.turns.left - 1 } → xid_of q ≡ due.xid → new.answered ≡ Some due.frame →
      (old.late ≡ true → IsEarlier old.matched old.turns (Some (xid_of q)) → ⊥) → (old.late ≡ true → new.matched ≡ matched_on (lane_in q) old.matched) → GoesOn old Server (take used piece) ((Server, q) ∷ []) [] [] new
  server_lacks turn later same due is lacked less xid answered stays replies h c k M r =
      let some = server_some old h c k M r later in
      let y = turn_is old.talk.limits.profile c old.turns q r.lanes turn due is in
      let waits = slice_get_within (waits_on (lane_in q) old.turns) 0 due is in
      let foreign : IsForeign old.talk.limits.profile y.0.1 = foreign_of old.talk.limits.profile due y.0 y.2 lacked in
      let lanes = subst (AreLanes old.talk.limits.profile (c ++ (Server, q) ∷ [])) (sym less) (lanes_answer old.talk.limits.profile c old.turns q r.lanes turn some due is lacked) in
      let left : left_out new.turns ≡ left_out old.turns - 1 = ap left_out less in
      let kept = kept_out old.talk.limits.profile (Server, q) [] c k r.kept (some, turn, y.0, y.1, foreign, xid ∙ ap (λ (z : Turn). z.xid) y.2.is) in
      let stands = subst (λ (z : TalkState). Stands z (told k) M) (sym same) r.stands in
      let alone : (new.talk.client_held ≡ []) × (new.talk.server_held ≡ []) = (ap (λ (z : TalkState). z.client_held) same ∙ r.alone.0, ap (λ (z : TalkState). z.server_held) same ∙ r.alone.1) in
      let few : number_of_turns new.turns ≤ count_of new.talk.waiting + left_out new.turns =
      omega (arith, r.few, left, ap number_of_turns less, without_one (lane_in q) old.turns waits, some_left old.talk.limits.profile c old.turns q r.lanes turn some due is lacked, ap (λ (z : TalkState). count_of z.waiting) same) in
      unchanged new (h ++ on Server (take used piece)) (c ++ (Server, q) ∷ []) k M
      (frame_came old new piece used q Server x h c k M r k M kept stands alone lanes (λ v g. omega (arith, left, r.room v g)) few
      (newest_server c new.answered q (subst (AnswersAfter c q) (sym answered) (inr (some, turn, y.0, y.1, ap (λ (z : Turn). z.frame) y.2.is))))
      (seen_reply old.talk.limits.profile c old.turns r.lanes old.matched old.late r.matched q (xid_of q) refl stays)
      (λ e. subst (λ z. TellsMatched z (c ++ (Server, q) ∷ [])) (sym (replies (its_late e))) (matched_reply old.matched c q (r.matched (its_late e)) turn some)))

  -- a reply to a request that wasn't seen is passed over
  pub server_unseen : old.late ≡ true → has_turn 16 q ≡ true → 0 < old.server.count → IsEarlier old.matched old.turns (Some (xid_of q)) → new.talk ≡ old.talk → new.turns ≡ old.turns → new.matched ≡ old.matched →
      new.answered ≡ old.answered → PassesOver old (take used piece) q new
  server_unseen late turn begun earlier talk turns matched answered = (
    late,
    λ h c k M r.
        let u : IsUnseen c (Server, q) = (server_some old h c k M r begun, turn, to_earlier old.talk.limits.profile c old.turns r.lanes old.matched (r.matched late) q (lane_in q) earlier) in
        let o = over_came old new piece used q x talk turns matched answered late h c k M r u in
        (u, o.0, o.1),
  )
