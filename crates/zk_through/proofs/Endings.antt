-- How a connection ends.
use Rattle.std.proofs.Common.{◌≡◌, ℕ, ◌+◌, List, [], length, refl, arith}
use Rattle.std.proofs.lemmas.List.{nil_from_length}
use Rattle.zk_talk.specs.{declared.message.Ending.TheVariants.Whole, Conversation.number_waiting, Held.Message, History.History, Ending.unwelcomed, Stands.WhereItStands}
use Rattle.zk_through.specs.{Came.Came, Came.told, Turns.left_out, Runs.ThroughState, Runs.Runs, Runs.IsEndOf}
use Rattle.zk_through.proofs.Fitting.{its_good}

module _ (t : ThroughState) (h : History) (c k : Came) (M : List Message) (r : Runs t h c k M) where
  pub ends_whole : (n requests connects : ℕ) → length t.client.held ≡ 0 → length t.server.held ≡ 0 →
      WhereItStands t.talk (λ v client_rest server_rest. requests ≡ number_waiting v.client v.server) →
      connects ≡ unwelcomed r.stands.conversation.client r.stands.conversation.server → n ≡ requests + left_out t.turns + connects → IsEndOf t r.all k (Whole n)
  ends_whole n requests connects a b waits welcomes all =
      let v = r.stands.conversation in
      let w : requests ≡ number_waiting v.client v.server = waits (told k) M v [] [] r.stands (its_good t h c k M r) in
      let m = unwelcomed v.client v.server + number_waiting v.client v.server in (
        nil_from_length t.client.held a,
        nil_from_length t.server.held b,
        m,
        (v, its_good t h c k M r, refl),
        omega (arith, all, w, welcomes),
      )
