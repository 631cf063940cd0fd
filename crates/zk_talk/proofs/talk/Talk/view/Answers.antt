use Rattle.std.specs.Prelude.{ℕ}
use Rattle.zk_talk.specs.Viewed.{ShowsClient, ShowsServer}
use Rattle.zk_talk.proofs.Viewing.{nothing_shown, not_none, lies, made}
use Rattle.zk_talk.proofs.talk.Talk.view.Goals as goal

pub returns-in_err-payload-in-Client-clause-only : goal.returns-in_err-payload-in-Client-clause-only
returns-in_err-payload-in-Client-clause-only c = λ m k. absurd (nothing_shown c.args.side c.args.self.now m (rw (c.in-Client.is, ← c.self.view_is) c.in_err-payload-in-Client.ensures) k)

pub shown_client-requires : goal.shown_client-requires
shown_client-requires c =
    let p = c.in_ok-payload-in-Client in
    lies c.self.inside.client.count c.self.inside.client.kept p.payload.now p.ensures ShowsClient c.self.invariant.4 c.count.result c.count.ensures

pub returns-in_ok-payload-in-Client-clause-shown : goal.returns-in_ok-payload-in-Client-clause-shown
returns-in_ok-payload-in-Client-clause-shown c =
    let x = c.self.inside.client in
    let p = c.in_ok-payload-in-Client in
    rw (c.in-Client.is, ← c.self.view_is) (made x.count x.kept p.payload.now p.ensures ShowsClient c.self.invariant.4 c.count.result c.count.ensures c.shown_client.result c.shown_client.ensures)

pub returns-in_err-payload-in-Server-clause-only : goal.returns-in_err-payload-in-Server-clause-only
returns-in_err-payload-in-Server-clause-only c = λ m k. absurd (nothing_shown c.args.side c.args.self.now m (rw (c.in-Server.is, ← c.self.view_is) c.in_err-payload-in-Server.ensures) k)

pub shown_server-requires : goal.shown_server-requires
shown_server-requires c =
    let p = c.in_ok-payload-in-Server in
    let shown = λ (n : ℕ). ShowsServer n c.self.inside.answered in
    lies c.self.inside.server.count c.self.inside.server.kept p.payload.now p.ensures shown c.self.invariant.5 c.count-in-Server.result c.count-in-Server.ensures

pub returns-in_ok-payload-in-Server-clause-shown : goal.returns-in_ok-payload-in-Server-clause-shown
returns-in_ok-payload-in-Server-clause-shown c =
    let x = c.self.inside.server in
    let p = c.in_ok-payload-in-Server in
    let shown = λ (n : ℕ). ShowsServer n c.self.inside.answered in
    rw (c.in-Server.is, ← c.self.view_is) (made x.count x.kept p.payload.now p.ensures shown c.self.invariant.5 c.count-in-Server.result c.count-in-Server.ensures c.shown_server.result c.shown_server.ensures)

pub returns-in_ok-payload-in-Client-clause-none : goal.returns-in_ok-payload-in-Client-clause-none
returns-in_ok-payload-in-Client-clause-none c =
    let x = c.self.inside.client in
    let p = c.in_ok-payload-in-Client in
    rw (c.in-Client.is, ← c.self.view_is) (λ none. absurd (not_none x.count x.kept p.payload.now p.ensures none))

pub returns-in_ok-payload-in-Server-clause-none : goal.returns-in_ok-payload-in-Server-clause-none
returns-in_ok-payload-in-Server-clause-none c =
    let x = c.self.inside.server in
    let p = c.in_ok-payload-in-Server in
    rw (c.in-Server.is, ← c.self.view_is) (λ none. absurd (not_none x.count x.kept p.payload.now p.ensures none))
