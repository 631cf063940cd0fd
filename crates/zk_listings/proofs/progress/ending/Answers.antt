use Rattle.std.proofs.Common.{◌+◌, ◌∙◌, ap, sym, subst, []}
use Rattle.zk_talk.specs.{Conversation.sum_waiting, Ending.IsEnding, Ending.unwelcomed, Good.Good}
use Rattle.zk_talk.proofs.Start.{start}
use Rattle.zk_listings.specs.Following.{Has}
use Rattle.zk_listings.proofs.progress.ending.Goals as goal

pub returns-in-Some : goal.returns-in-Some
returns-in-Some c = λ limits h messages has.
    let i = subst (λ t. Has limits t h messages) c.in-Some.is has in
    subst (λ l. IsEnding l h c.finish.result) i.1 (c.finish.ensures.stands h messages i.0)

pub returns-in-None : goal.returns-in-None
returns-in-None c = λ limits h messages has.
    let i = subst (λ t. Has limits t h messages) c.in-None.is has in
    let s = start limits in
    let v = s.conversation in (
      v,
      subst (λ z. Good limits z v [] []) (sym i.0) s.good,
      ap (λ client. unwelcomed client [] + sum_waiting (λ f. 1) [] client []) s.order.client
          ∙ ap (λ server. unwelcomed v.client server + sum_waiting (λ f. 1) [] v.client server) s.order.server,
    )
