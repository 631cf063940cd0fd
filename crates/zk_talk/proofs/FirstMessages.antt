-- The messages of a good front stand first among those of its history.
use Rattle.std.proofs.Common.{◌≡◌, ℕ, ◌<◌, ◌⊎◌, inl, inr, List, [], ◌∷◌, ◌++◌, length, refl, sym, ap, ◌∙◌, subst, append_assoc}
use Rattle.std.proofs.{lemmas.Bool.cases_order, lemmas.List.append-nil, lemmas.List.append_cancel_left}
use Rattle.zk_asks.specs.{Held.ClientFrame, declared.frame.ClientFrameOf.TheVariants.Ask}
use Rattle.zk_answers.specs.Held.{ServerFrame}
use Rattle.zk_answers.specs.declared.frame.ServerFrameOf.TheVariants.{Connected, Answered, Event}
use Rattle.zk_frames.proofs.Cuts.{same_fronts}
use Rattle.zk_talk.specs.{declared.limits.Limits.Limits, Held.Message, declared.message.Fault.Fault, declared.message.Ending.Ending, Splits.EachAfter, History.History}
use Rattle.zk_talk.specs.declared.message.Ending.TheVariants.{Whole, Cut, Refused}
use Rattle.zk_talk.specs.{Conversation.ClientMay, Conversation.ServerMay, Conversation.Conversation, Good.Good, Good.IsGood, Good.IsOrder, Good.AreWholeIn, Good.clients, Good.servers, Fault.IsFaultOf, Answer.AreMessages}
use Rattle.zk_talk.proofs.{Small.AreSmall, Small.small_limits, Lists.EachAfter-left, Turns.same_clients, Turns.same_servers, Steps.same_whole, Standing.clients-append, Standing.servers-append, GoodFronts.good_front, FaultOnce.fronts_nested}
use Rattle.zk_talk.proofs.OrderOnce.{same_first, order_whole}

-- What the server may send, it may send where the client has sent more.
may_with_more : (C more : List ClientFrame) (before : List ServerFrame) (s : ServerFrame) → ServerMay C before s → ServerMay (C ++ more) before s
may_with_more [] more [] (Connected u k) m = absurd (m.1 refl)
may_with_more (c ∷ cs) more [] (Connected u k) m = (m.0, λ e. absurd (cc))
may_with_more C more [] (Answered r) m = absurd m
may_with_more C more [] (Event z k) m = absurd m
may_with_more C more (y ∷ ys) (Connected u k) m = absurd m
may_with_more C more (y ∷ ys) (Event z k) m = m
may_with_more C more (y ∷ ys) (Answered r) m = (
  m.0,
  record {
    asked = m.1.asked;
    ask = m.1.ask;
    after = m.1.after ++ more;
    stands = ap (λ z. z ++ more) m.1.stands ∙ append_assoc m.1.asked (Ask r.xid m.1.ask ∷ m.1.after) more;
    fits = m.1.fits;
    counts = m.1.counts;
  },
)

module _ (limits : Limits) (small : AreSmall limits) (g r : History) (v w : Conversation) (cb sb db tb : List ℕ) (M N : List Message) (front : Good limits g v cb sb) (a : IsOrder limits g v M) (all : Good limits (g ++ r) w db tb) (b : IsOrder limits (g ++ r) w N) where
  -- The messages whose frames are whole in the front are its messages, if they have the same frames.
  by_frames : (first more : List Message) → N ≡ first ++ more → (clients first ≡ v.client) → (servers first ≡ v.server) → N ≡ M ++ more
  by_frames first more e c s =
      let nc : clients N ≡ clients M ++ clients more = ap clients e ∙ clients-append first more ∙ ap (λ z. z ++ clients more) (c ∙ sym a.client) in
      let ns : servers N ≡ servers M ++ servers more = ap servers e ∙ servers-append first more ∙ ap (λ z. z ++ servers more) (s ∙ sym a.server) in
      let whole = order_whole limits g v M a cb sb front.whole in
      let same = same_first limits small g N M (λ f t h. b.fronts f (t ++ r) (ap (λ z. z ++ r) h ∙ append_assoc f t r)) a.fronts (clients more) (servers more) nc ns
      first more e (subst (λ z. AreWholeIn limits g z (servers first)) (a.client ∙ sym c) (subst (λ z. AreWholeIn limits g (clients M) z) (a.server ∙ sym s) whole)) whole in
      e ∙ ap (λ z. z ++ more) same

  pub front_first : (more : List Message) × (N ≡ M ++ more)
  front_first =
      let p = b.fronts g r refl in
      let s = same_whole limits small g (clients p.0) v.client (servers p.0) v.server p.3.0 cb p.3.1 sb p.3.2 front.whole in
      let all_c : w.client ≡ clients p.0 ++ clients p.1 = sym b.client ∙ ap clients p.2 ∙ clients-append p.0 p.1 in
      let all_s : w.server ≡ servers p.0 ++ servers p.1 = sym b.server ∙ ap servers p.2 ∙ servers-append p.0 p.1 in
      let each_c = EachAfter-left (ClientMay limits.profile) (clients p.0) (clients p.1) (subst (EachAfter (ClientMay limits.profile)) all_c all.conversation.client) in
      let c = same_clients limits.profile (clients p.0) v.client each_c front.conversation.client s.0 in
      let more_c : w.client ≡ v.client ++ clients p.1 = all_c ∙ ap (λ z. z ++ clients p.1) c in
      let each_s = EachAfter-left (ServerMay w.client) (servers p.0) (servers p.1) (subst (EachAfter (ServerMay w.client)) all_s all.conversation.server) in
      let each_v : EachAfter (ServerMay w.client) v.server =
      λ before x after e. subst (λ z. ServerMay z before x) (sym more_c) (may_with_more v.client (clients p.1) before x (front.conversation.server before x after e)) in
      let t = same_servers w.client (servers p.0) v.server each_s each_v s.1 in
      (p.1, by_frames p.0 p.1 p.2 c t)

-- A good front ends before the byte of a fault.
ends_before : (limits : Limits) (h g r : History) → h ≡ g ++ r → IsGood limits g → (f : Fault) (is : IsFaultOf limits h f) → (more : History) × (is.before ≡ g ++ more)
ends_before limits h g r e good f is = go (cases_order (length g) (length is.before))
  where
    go : ((length g ≡ length is.before) ⊎ ((length g < length is.before) ⊎ (length is.before < length g))) → (more : History) × (is.before ≡ g ++ more)
    go (inl l) = ([], sym (same_fronts g is.before r _ l (sym e ∙ is.stands)).0 ∙ sym (append-nil g))
    go (inr (inl l)) =
        let n = fronts_nested g r is.before ((f.side, is.byte) ∷ is.after) (sym e ∙ is.stands) l in
        (n.0 ∷ n.1, n.2)
    go (inr (inr l)) =
        let n = fronts_nested is.before ((f.side, is.byte) ∷ is.after) g r (sym is.stands ∙ e) l in
        let same : (f.side, is.byte) ∷ is.after ≡ n.0 ∷ (n.1 ++ r) =
        append_cancel_left is.before ((f.side, is.byte) ∷ is.after) (n.0 ∷ (n.1 ++ r)) (sym is.stands ∙ e ∙ ap (λ z. z ++ r) n.2 ∙ append_assoc is.before (n.0 ∷ n.1) r) in
        let first : (f.side, is.byte) ≡ n.0 = cc in
        let front : g ≡ (is.before ++ (f.side, is.byte) ∷ []) ++ n.1 = n.2 ∙ ap (λ z. is.before ++ z ∷ n.1) (sym first) ∙ sym (append_assoc is.before ((f.side, is.byte) ∷ []) n.1) in
        absurd (is.bad (good_front limits (is.before ++ (f.side, is.byte) ∷ []) n.1 (subst (IsGood limits) front good)))

module _ (limits : Limits) (h g r : History) (v : Conversation) (cb sb : List ℕ) (M N : List Message) (e : h ≡ g ++ r) (front : Good limits g v cb sb) (a : IsOrder limits g v M) where
  pub first_of_good : (w : Conversation) (db tb : List ℕ) → Good limits h w db tb → IsOrder limits h w N → (more : List Message) × (N ≡ M ++ more)
  first_of_good w db tb all b =
      front_first limits (small_limits limits) g r v w cb sb db tb M N front a (subst (λ z. Good limits z w db tb) e all) (subst (λ z. IsOrder limits z w N) e b)

  pub first_of_any : (ending : Ending) → AreMessages limits h N ending → (more : List Message) × (N ≡ M ++ more)
  first_of_any (Refused f) i =
      let k = ends_before limits h g r e (v, cb, sb, front) f i.0 in
      front_first limits (small_limits limits) g k.0 v i.0.conversation cb sb i.0.client_rest i.0.server_rest M N front a
      (subst (λ z. Good limits z i.0.conversation i.0.client_rest i.0.server_rest) k.1 i.0.good) (subst (λ z. IsOrder limits z i.0.conversation N) k.1 i.1)
  first_of_any (Cut side n k) i = first_of_good i.0 i.1 i.2 i.3 i.4
  first_of_any (Whole n) i = first_of_good i.0 i.1 i.2 i.3 i.4
