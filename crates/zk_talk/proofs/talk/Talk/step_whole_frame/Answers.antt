use Rattle.std.proofs.Common.{refl, ◌∙◌, ap, arith, drop, inl, subst, sym}
use Rattle.zk_talk.specs.{contracts.talk.Talk.the_view, Sound.IsSide, Streams.StreamState, Judged.IsNextClient, Judged.IsNextServer}
use Rattle.zk_talk.specs.declared.message.Side.TheVariants.{Client, Server}
use Rattle.zk_talk.specs.declared.message.MessageOf.TheVariants.{Client as FromClient, Server as FromServer}
use Rattle.zk_talk.proofs.Answering.{keeps}
use Rattle.zk_talk.proofs.talk.Talk.step_whole_frame.Goals as goal

pub returns-in-Ok-clause-some : goal.returns-in-Ok-clause-some
returns-in-Ok-clause-some c =
    let T = the_view c.self.inside in
    let s = c.take_whole.new.self in
    let k = c.in-Ok.ensures in
    let f = k.found in
    let t = c.in_ok-used-in-Client.ensures in
    let a = t.some.1 in
    let next = subst (λ z. IsNextClient z s.count T.waiting (drop 4 s.held) f.0) c.profile-profile.ensures f.1.0 in
    rw (c.in-Client.is, ← c.self.view_is) (a.1, (λ l. a.0), keeps Client T c.args.piece.now s c.keep_client.new.stream c.self.invariant.0.same t.stays c.in_ok-used-in-Client.used a c.self.invariant.2 T.answered (FromClient f.0) c.keep_client.new.waiting (next, f.1.1) refl f.1.2 k.kept)

pub invariant_of-self-in-Ok-keep_server : goal.invariant_of-self-in-Ok-keep_server
invariant_of-self-in-Ok-keep_server c =
    let x = c.self.inside in
    let i = c.self.invariant in
    let k = c.in-Ok-keep_server.ensures in
    let f = k.found in
    let t = c.in_ok-used-in-Server.ensures in
    let a = t.some.1 in
    let sizes = ap (λ (z : StreamState). z.size) t.stays in
    let counts = ap (λ (z : StreamState). z.count) t.stays in
    let side = subst (IsSide x.limits.server x.fault) (sym k.kept) (record {
      begins = λ e. inl (omega arith);
      same = ap (λ (z : StreamState). z.limit) t.stays ∙ i.1.same;
      size = omega (arith, sizes, a.2);
      count = omega (arith, sizes, counts, i.1.count, a.0);
    }) in
    (i.0, side, k.max ∙ i.2, i.3, i.4, λ held. (f.0, f.1.2))

pub returns-in-Ok-keep_server-clause-some : goal.returns-in-Ok-keep_server-clause-some
returns-in-Ok-keep_server-clause-some c =
    let T = the_view c.self.inside in
    let s = c.take_whole-in-Server.new.self in
    let k = c.in-Ok-keep_server.ensures in
    let f = k.found in
    let t = c.in_ok-used-in-Server.ensures in
    let a = t.some.1 in
    let next = subst (λ z. IsNextServer z s.count T.waiting (drop 4 s.held) f.0) c.count-asked.ensures f.1.0 in
    rw (c.in-Server.is, ← c.self.view_is) (a.1, (λ l. a.0), keeps Server T c.args.piece.now s c.keep_server.new.stream c.self.invariant.1.same t.stays c.in_ok-used-in-Server.used a c.self.invariant.2 c.in-Ok-keep_server.answered (FromServer f.0) c.keep_server.new.waiting (next, f.1.1) (λ kept. f.1.3) f.1.2 k.kept)
