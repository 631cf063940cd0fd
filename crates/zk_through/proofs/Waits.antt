-- What waits after a refusal.
use Rattle.std.proofs.Common.{◌≡◌, ℕ, ◌+◌, inl, inr, List, [], sym, ◌∙◌}
use Rattle.zk_asks.specs.Held.{ClientFrame}
use Rattle.zk_answers.specs.Held.{ServerFrame}
use Rattle.zk_talk.specs.{declared.message.Fault.Fault, Good.clients, Good.servers, Held.Message, History.History, Stands.TalkState, Stands.Refuses, Stands.WhereItStands}
use Rattle.zk_talk.proofs.{Headline.same_good, Small.small_limits}
use Rattle.zk_through.specs.{Came.told, Turns.left_out, Runs.ThroughState, Runs.WhereItRuns, Runs.WaitsAfter, Runs.KeepsWaiting}
use Rattle.zk_through.proofs.Fitting.{its_good}

-- what is said by all frames, of the weight or the number of the requests that wait
module _ (of : List ClientFrame → List ServerFrame → ℕ) where
  -- by the messages alone
  pub said_after : (t : TalkState) (n : ℕ) (h : History) (M : List Message) → WhereItStands t (λ v client_rest server_rest. n ≡ of v.client v.server) →
      ((h : History) (M : List Message) (f : Fault) (r : Refuses t h M f) → n ≡ of r.is.conversation.client r.is.conversation.server) → WaitsAfter t h M → n ≡ of (clients M) (servers M)
  said_after t n h M stands refuses (inl st) = stands h M st.conversation t.client_held t.server_held st st.good ∙ sym (λ i. of (st.order.client i) (st.order.server i))
  said_after t n h M stands refuses (inr (bad, f, r)) = refuses _ M f r ∙ sym (λ i. of (r.order.client i) (r.order.server i))

  pub waited : (old new : ThroughState) (n : ℕ) → KeepsWaiting old new → ((h : History) (M : List Message) → WaitsAfter new.talk h M → n ≡ of (clients M) (servers M) + left_out new.turns) →
      WhereItRuns old (λ v. n ≡ of v.client v.server + left_out old.turns)
  waited old new n keeps is h c k M r v g =
      let limits = old.talk.limits in
      let same = (same_good limits (small_limits limits) (told k) r.stands.conversation v [] [] [] [] (its_good old h c k M r) g).0 in
      is (told k) M (keeps.1 (told k) M r.stands) ∙ (λ i. of (r.stands.order.client i) (r.stands.order.server i) + keeps.0 i) ∙ (λ i. of (same i).client (same i).server + left_out old.turns)
