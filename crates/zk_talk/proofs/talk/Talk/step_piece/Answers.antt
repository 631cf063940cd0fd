use Rattle.std.proofs.Common.{refl, ◌∙◌, drop, sym, ap, subst, arith}
use Rattle.std.proofs.lemmas.Result.{err_from_is_err_and}
use Rattle.zk_talk.specs.{contracts.talk.Talk.the_view, Stands.TalkState, Streams.StreamState, Describes.Describes, Judged.IsNextClient, Judged.IsNextServer}
use Rattle.zk_talk.specs.declared.message.Side.TheVariants.{Client, Server}
use Rattle.zk_talk.specs.declared.message.MessageOf.TheVariants.{Client as FromClient, Server as FromServer}
use Rattle.zk_talk.proofs.Answering.{none_kept, received, goes, keeps, bad, stops}
use Rattle.zk_talk.proofs.talk.Talk.step_piece.Goals as goal

pub returns-in_default-clause-ok : goal.returns-in_default-clause-ok
returns-in_default-clause-ok c =
    let T = the_view c.self.inside in
    let r = received c.args.side _ _ _ _ _ c.in_default.is c.in_ok-used-in-Client.ensures.received in
    let more = goes Client T c.args.piece.now (record c.self.inside.client { held = r.0.held }) c.receive.new.stream c.self.invariant.0.same refl r.0.advance r.0.is in
    rw (c.in-Client.is, ← c.self.view_is, r.1) (ap (λ (z : TalkState). z.fault) c.self.view_is ∙ c.requires.good, (omega arith, (λ l. l), (more, ap (λ (z : StreamState). z.kept) r.0.is ∙ (none_kept c.self.view_is c.in-Client.is c.requires.dropped))))

pub returns-in-Ok-clause-ok : goal.returns-in-Ok-clause-ok
returns-in-Ok-clause-ok c =
    let T = the_view c.self.inside in
    let s = c.receive.new.stream in
    let r = received c.args.side _ _ _ _ _ c.in-Some.is c.in_ok-used-in-Client.ensures.received in
    let f = c.in-Ok.ensures.found in
    let next = subst (λ z. IsNextClient z s.count T.waiting (drop 4 s.held) f.0) c.profile.ensures f.1.0 in
    rw (c.in-Client.is, ← c.self.view_is, r.1) (ap (λ (z : TalkState). z.fault) c.self.view_is ∙ c.requires.good, (r.0.advance.1, (λ l. r.0.advance.0), keeps Client T c.args.piece.now s c.keep_client.new.stream c.self.invariant.0.same r.0.stays c.in-Some.used r.0.advance c.self.invariant.2 T.answered (FromClient f.0) c.keep_client.new.waiting (next, f.1.1) refl f.1.2 c.in-Ok.ensures.kept))

pub returns-in-Err-clause-err : goal.returns-in-Err-clause-err
returns-in-Err-clause-err c =
    let T = the_view c.self.inside in
    let s = c.receive.new.stream in
    let r = received c.args.side _ _ _ _ _ c.in-Some.is c.in_ok-used-in-Client.ensures.received in
    let b = bad Client T c.args.piece.now s c.keep_client.new.stream c.self.invariant.0.same r.0.stays c.in-Some.used r.0.advance c.self.invariant.2 c.in-Client.is c.keep_client.new.waiting c.refuse.new.kept c.in-Err.item c.refuse.result c.refuse.ensures.told c.in-Err.ensures.same.0 c.in-Err.ensures.fault.0 c.in-Err.ensures.same.1 (λ limits m v q o d. c.in-Err.ensures.fault.1 limits m v q (o ∙ sym c.profile.ensures) d) in
    rw (c.in-Client.is, ← c.self.view_is) ((c.refuse.ensures.told c.in-Err.ensures.fault.0).1, b.0, b.1)

pub returns-in_err-used-in-Client-clause-err : goal.returns-in_err-used-in-Client-clause-err
returns-in_err-used-in-Client-clause-err c =
    let T = the_view c.self.inside in
    let r = c.in_err-used-in-Client.ensures.received in
    let p = err_from_is_err_and c.from_residual.result c.from_residual.ensures.1 in
    let b = stops Client T c.args.piece.now c.receive.new.stream c.receive.new.stream c.self.invariant.0.same r.0.stays c.in-Client.is c.receive.new.kept c.in_err-used-in-Client.field-0.0 r.0.used r.0.reason r.0.advance r.0.told r.1 in
    rw (p.1, p.2, c.in-Client.is, ← c.self.view_is) (r.1, b.0, b.1)

pub returns-in_default-2-clause-ok : goal.returns-in_default-2-clause-ok
returns-in_default-2-clause-ok c =
    let T = the_view c.self.inside in
    let r = received c.args.side _ _ _ _ _ c.in_default-2.is c.in_ok-used-in-Server.ensures.received in
    let more = goes Server T c.args.piece.now (record c.self.inside.server { held = r.0.held }) c.receive-in-Server.new.stream c.self.invariant.1.same refl r.0.advance r.0.is in
    rw (c.in-Server.is, ← c.self.view_is, r.1) (ap (λ (z : TalkState). z.fault) c.self.view_is ∙ c.requires.good, (omega arith, (λ l. l), (more, ap (λ (z : StreamState). z.kept) r.0.is ∙ (none_kept c.self.view_is c.in-Server.is c.requires.dropped))))

pub returns-in-Ok-keep_server-clause-ok : goal.returns-in-Ok-keep_server-clause-ok
returns-in-Ok-keep_server-clause-ok c =
    let T = the_view c.self.inside in
    let s = c.receive-in-Server.new.stream in
    let r = received c.args.side _ _ _ _ _ c.in-Some-2.is c.in_ok-used-in-Server.ensures.received in
    let f = c.in-Ok-keep_server.ensures.found in
    let next = subst (λ z. IsNextServer z s.count T.waiting (drop 4 s.held) f.0) c.count.ensures f.1.0 in
    rw (c.in-Server.is, ← c.self.view_is, r.1) (ap (λ (z : TalkState). z.fault) c.self.view_is ∙ c.requires.good, (r.0.advance.1, (λ l. r.0.advance.0), keeps Server T c.args.piece.now s c.keep_server.new.stream c.self.invariant.1.same r.0.stays c.in-Some-2.used r.0.advance c.self.invariant.2 c.in-Ok-keep_server.answered (FromServer f.0) c.keep_server.new.waiting (next, f.1.1) (λ kept. f.1.3) f.1.2 c.in-Ok-keep_server.ensures.kept))

pub returns-in-Err-keep_server-clause-err : goal.returns-in-Err-keep_server-clause-err
returns-in-Err-keep_server-clause-err c =
    let T = the_view c.self.inside in
    let s = c.receive-in-Server.new.stream in
    let r = received c.args.side _ _ _ _ _ c.in-Some-2.is c.in_ok-used-in-Server.ensures.received in
    let b = bad Server T c.args.piece.now s c.keep_server.new.stream c.self.invariant.1.same r.0.stays c.in-Some-2.used r.0.advance c.self.invariant.2 c.in-Server.is c.keep_server.new.waiting c.refuse-in-Err-keep_server.new.kept c.in-Err-keep_server.item c.refuse-in-Err-keep_server.result c.refuse-in-Err-keep_server.ensures.told c.in-Err-keep_server.ensures.same.0 c.in-Err-keep_server.ensures.fault.0 c.in-Err-keep_server.ensures.same.1 (λ v d. c.in-Err-keep_server.ensures.fault.1 v (subst (λ z. Describes z s.count T.waiting v) (sym c.count.ensures) d)) in
    rw (c.in-Server.is, ← c.self.view_is) ((c.refuse-in-Err-keep_server.ensures.told c.in-Err-keep_server.ensures.fault.0).1, b.0, b.1)

pub returns-in_err-used-in-Server-clause-err : goal.returns-in_err-used-in-Server-clause-err
returns-in_err-used-in-Server-clause-err c =
    let T = the_view c.self.inside in
    let r = c.in_err-used-in-Server.ensures.received in
    let p = err_from_is_err_and c.from_residual-in_err-used-in-Server.result c.from_residual-in_err-used-in-Server.ensures.1 in
    let b = stops Server T c.args.piece.now c.receive-in-Server.new.stream c.receive-in-Server.new.stream c.self.invariant.1.same r.0.stays c.in-Server.is c.receive-in-Server.new.kept c.in_err-used-in-Server.field-0.0 r.0.used r.0.reason r.0.advance r.0.told r.1 in
    rw (p.1, p.2, c.in-Server.is, ← c.self.view_is) (r.1, b.0, b.1)
