use Rattle.std.proofs.Common.{◌≡◌, ◌≤◌, ℕ, List, drop, refl, subst, take, arith}
use Rattle.std.proofs.lemmas.List.{length-take-le}
use Rattle.zk_talk.specs.{contracts.talk.Talk.the_view, declared.stream.Advance.TheVariants.Whole, Advance.IsAdvance, Streams.StreamState, Streams.IsAtFrame, Streams.held_in}
use Rattle.zk_talk.specs.declared.message.Side.TheVariants.{Client, Server}
use Rattle.zk_talk.specs.declared.message.MessageOf.TheVariants.{Client as FromClient, Server as FromServer}
use Rattle.zk_talk.specs.Judged.{IsNextClient, IsNextServer}
use Rattle.zk_talk.proofs.{Answering.makes, Answering.none_kept, Seen.payload_small, Seen.client_passes, Seen.server_passes}
use Rattle.zk_talk.proofs.talk.Talk.pass_whole_frame.Goals as goal

-- a side to which the frame at the front of a piece is lent
at_frame : (s : StreamState) (most : ℕ) → s.limit ≡ most → most ≤ 16777216 → s.count ≤ s.size → (piece : List ℕ) (used : ℕ) → IsAdvance s.limit s.size s.held piece (Whole used) (take used piece) → IsAtFrame (held_in s (take used piece)) used
at_frame s most same small count piece used a = record { whole = a.4; limit = omega (arith, same, small); part = omega (arith, length-take-le used piece a.1); size = a.2; count = count }

pub await_ask-requires : goal.await_ask-requires
await_ask-requires c =
    let used = c.in_ok-used-in-Client.used in
    let s = held_in c.self.inside.client (take used c.args.piece.now) in
    let whole = at_frame c.self.inside.client c.self.inside.limits.client c.self.invariant.0.same (omega (arith, c.self.inside.limits.in_range)) c.self.invariant.0.count c.args.piece.now used c.in_ok-used-in-Client.ensures.1 in
    payload_small s used c.count-count.result whole c.carried.result.now c.carried.ensures c.count-count.ensures c.self.inside.waiting

pub returns-in-Ok-clause-some : goal.returns-in-Ok-clause-some
returns-in-Ok-clause-some c =
    let T = the_view c.self.inside in
    let used = c.in_ok-used-in-Client.used in
    let s = held_in c.self.inside.client (take used c.args.piece.now) in
    let whole = at_frame c.self.inside.client c.self.inside.limits.client c.self.invariant.0.same (omega (arith, c.self.inside.limits.in_range)) c.self.invariant.0.count c.args.piece.now used c.in_ok-used-in-Client.ensures.1 in
    let k = c.in-Ok.ensures.found in
    let f = client_passes s used c.count-count.result whole c.carried.result.now c.carried.ensures c.count-count.ensures T.waiting c.profile.result c.await_ask.new.waiting k in
    let a = c.in_ok-used-in-Client.ensures.1 in
    let next = subst (λ z. IsNextClient z s.count T.waiting (drop 4 s.held) k.0) c.profile.ensures f.0 in
    rw (c.in-Client.is, ← c.self.view_is) (FromClient k.0, (a.1, (λ l. a.0), makes Client T c.args.piece.now s c.pass_whole.new.self c.self.invariant.0.same refl used a c.self.invariant.2 (FromClient k.0) c.await_ask.new.waiting (next, f.1) (none_kept c.self.view_is c.in-Client.is c.requires.dropped) c.pass_whole.ensures))

pub returns-in-Ok-settle-clause-some : goal.returns-in-Ok-settle-clause-some
returns-in-Ok-settle-clause-some c =
    let T = the_view c.self.inside in
    let used = c.in_ok-used-in-Server.used in
    let s = held_in c.self.inside.server (take used c.args.piece.now) in
    let whole = at_frame c.self.inside.server c.self.inside.limits.server c.self.invariant.1.same (omega (arith, c.self.inside.limits.in_range)) c.self.invariant.1.count c.args.piece.now used c.in_ok-used-in-Server.ensures.1 in
    let k = c.in-Ok-settle.ensures.found in
    let f = server_passes s used c.count-frames.result whole c.carried-in-Server.result.now c.carried-in-Server.ensures c.count-frames.ensures T.waiting c.count.result _ c.settle.new.waiting k in
    let a = c.in_ok-used-in-Server.ensures.1 in
    let next = subst (λ z. IsNextServer z s.count T.waiting (drop 4 s.held) k.0) c.count.ensures f.0 in
    rw (c.in-Server.is, ← c.self.view_is) (FromServer k.0, (a.1, (λ l. a.0), makes Server T c.args.piece.now s c.pass_whole-in-Ok-settle.new.self c.self.invariant.1.same refl used a c.self.invariant.2 (FromServer k.0) c.settle.new.waiting (next, f.1) (none_kept c.self.view_is c.in-Server.is c.requires.dropped) c.pass_whole-in-Ok-settle.ensures))
