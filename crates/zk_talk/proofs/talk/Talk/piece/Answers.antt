use Rattle.std.proofs.Common.{refl, ◌∙◌, inr, drop, sym, subst, arith}
use Rattle.std.proofs.lemmas.Result.{err_from_is_err_and}
use Rattle.zk_talk.specs.{contracts.talk.Talk.the_view, Describes.Describes, Judged.IsNextClient, Judged.IsNextServer}
use Rattle.zk_talk.specs.declared.message.Side.TheVariants.{Client, Server}
use Rattle.zk_talk.specs.declared.message.MessageOf.TheVariants.{Client as FromClient, Server as FromServer}
use Rattle.zk_talk.proofs.Answering.{none_kept, received, goes, makes, fails, stops}
use Rattle.zk_talk.proofs.{Lanes.remembered_there, Lanes.forgotten_there, Empty.no_bytes_whole, Empty.no_bytes_refused}
use Rattle.zk_talk.proofs.talk.Talk.piece.Goals as goal

pub returns-in_default-clause-ok : goal.returns-in_default-clause-ok
returns-in_default-clause-ok c =
    let T = the_view c.self.inside in
    let r = received c.args.side _ _ _ _ _ c.in_default.is c.in_ok-used-in-Client.ensures.received in
    rw (c.in-Client.is, ← c.self.view_is, r.1) (omega arith, (λ l. l), goes Client T c.args.piece.now (record c.self.inside.client { held = r.0.held }) c.receive.new.stream c.self.invariant.0.same refl r.0.advance r.0.is)

pub returns-in-Ok-clause-ok : goal.returns-in-Ok-clause-ok
returns-in-Ok-clause-ok c =
    let k = c.in-Ok.ensures in
    let T = the_view c.self.inside in
    let s = c.receive.new.stream in
    let r = received c.args.side _ _ _ _ _ c.in-Some.is c.in_ok-used-in-Client.ensures.received in
    let next = subst (λ z. IsNextClient z s.count T.waiting (drop 4 s.held) c.in-Ok.frame) c.profile.ensures k.found.0 in
    rw (c.in-Client.is, ← c.self.view_is, r.1) (r.0.advance.1, (λ l. r.0.advance.0), makes Client T c.args.piece.now s c.client_frame.new.stream c.self.invariant.0.same r.0.stays c.in-Some.used r.0.advance c.self.invariant.2 (FromClient c.in-Ok.frame) c.client_frame.new.waiting (next, k.found.1) (none_kept c.self.view_is c.in-Client.is c.requires.dropped) k.passed)

pub returns-in-Err-clause-err : goal.returns-in-Err-clause-err
returns-in-Err-clause-err c =
    let T = the_view c.self.inside in
    let s = c.receive.new.stream in
    let w = received c.args.side _ _ _ _ _ c.in-Some.is c.in_ok-used-in-Client.ensures.received in
    let k = c.in-Err.ensures in
    rw (c.in-Client.is, ← c.self.view_is) (fails Client T c.args.piece.now s c.client_frame.new.stream c.self.invariant.0.same w.0.stays c.in-Some.used w.0.advance c.self.invariant.2 c.in-Client.is c.client_frame.new.waiting c.refuse.new.kept c.in-Err.item c.refuse.result c.refuse.ensures.told k.same (none_kept c.self.view_is c.in-Client.is c.requires.dropped) (λ n. (let r = c.refuse.ensures.wanting n in (r.0, r.1 ∙ w.1))) (λ n. (let f = k.lacks n in let x = remembered_there s.count f.0 T.waiting f.1.room in (FromClient f.0, x.0, (subst (λ z. IsNextClient z s.count T.waiting (drop 4 s.held) f.0) c.profile.ensures f.1, x.1)))) k.back k.stays (λ n limits m v q o d. k.fault n limits m v q (o ∙ sym c.profile.ensures) d))

pub returns-in_err-used-in-Client-clause-err : goal.returns-in_err-used-in-Client-clause-err
returns-in_err-used-in-Client-clause-err c =
    let T = the_view c.self.inside in
    let r = c.in_err-used-in-Client.ensures.received in
    let p = err_from_is_err_and c.from_residual.result c.from_residual.ensures.1 in
    rw (p.1, p.2, c.in-Client.is, ← c.self.view_is) (inr (stops Client T c.args.piece.now c.receive.new.stream c.receive.new.stream c.self.invariant.0.same r.0.stays c.in-Client.is c.receive.new.kept c.in_err-used-in-Client.field-0.0 r.0.used r.0.reason r.0.advance r.0.told r.1).1)

pub returns-in-Err-clause-empty : goal.returns-in-Err-clause-empty
returns-in-Err-clause-empty c = λ none. absurd (let a = (received c.args.side _ _ _ _ _ c.in-Some.is c.in_ok-used-in-Client.ensures.received).0.advance in no_bytes_whole a.0 a.1 none)

pub returns-in_err-used-in-Client-clause-empty : goal.returns-in_err-used-in-Client-clause-empty
returns-in_err-used-in-Client-clause-empty c = λ none. absurd (let a = c.in_err-used-in-Client.ensures.received.0.advance in no_bytes_refused a.0 a.1 none)

pub returns-in_default-2-clause-ok : goal.returns-in_default-2-clause-ok
returns-in_default-2-clause-ok c =
    let T = the_view c.self.inside in
    let r = received c.args.side _ _ _ _ _ c.in_default-2.is c.in_ok-used-in-Server.ensures.received in
    rw (c.in-Server.is, ← c.self.view_is, r.1) (omega arith, (λ l. l), goes Server T c.args.piece.now (record c.self.inside.server { held = r.0.held }) c.receive-in-Server.new.stream c.self.invariant.1.same refl r.0.advance r.0.is)

pub returns-in-Ok-server_frame-clause-ok : goal.returns-in-Ok-server_frame-clause-ok
returns-in-Ok-server_frame-clause-ok c =
    let k = c.in-Ok-server_frame.ensures in
    let T = the_view c.self.inside in
    let s = c.receive-in-Server.new.stream in
    let r = received c.args.side _ _ _ _ _ c.in-Some-2.is c.in_ok-used-in-Server.ensures.received in
    let next = subst (λ z. IsNextServer z s.count T.waiting (drop 4 s.held) c.in-Ok-server_frame.frame) c.count.ensures k.found.0 in
    rw (c.in-Server.is, ← c.self.view_is, r.1) (r.0.advance.1, (λ l. r.0.advance.0), makes Server T c.args.piece.now s c.server_frame.new.stream c.self.invariant.1.same r.0.stays c.in-Some-2.used r.0.advance c.self.invariant.2 (FromServer c.in-Ok-server_frame.frame) c.server_frame.new.waiting (next, k.found.1) (none_kept c.self.view_is c.in-Server.is c.requires.dropped) k.passed)

pub returns-in-Err-server_frame-clause-err : goal.returns-in-Err-server_frame-clause-err
returns-in-Err-server_frame-clause-err c =
    let T = the_view c.self.inside in
    let s = c.receive-in-Server.new.stream in
    let w = received c.args.side _ _ _ _ _ c.in-Some-2.is c.in_ok-used-in-Server.ensures.received in
    let k = c.in-Err-server_frame.ensures in
    rw (c.in-Server.is, ← c.self.view_is) (fails Server T c.args.piece.now s c.server_frame.new.stream c.self.invariant.1.same w.0.stays c.in-Some-2.used w.0.advance c.self.invariant.2 c.in-Server.is c.server_frame.new.waiting c.refuse-in-Err-server_frame.new.kept c.in-Err-server_frame.item c.refuse-in-Err-server_frame.result c.refuse-in-Err-server_frame.ensures.told k.same (none_kept c.self.view_is c.in-Server.is c.requires.dropped) (λ n. (let r = c.refuse-in-Err-server_frame.ensures.wanting n in (r.0, r.1 ∙ w.1))) (λ n. (let f = k.lacks n in let x = forgotten_there f.0 T.waiting in (FromServer f.0, x.0, (subst (λ z. IsNextServer z s.count T.waiting (drop 4 s.held) f.0) c.count.ensures f.1, x.1)))) k.back k.stays (λ n v d. k.fault n v (subst (λ z. Describes z s.count T.waiting v) (sym c.count.ensures) d)))

pub returns-in_err-used-in-Server-clause-err : goal.returns-in_err-used-in-Server-clause-err
returns-in_err-used-in-Server-clause-err c =
    let T = the_view c.self.inside in
    let r = c.in_err-used-in-Server.ensures.received in
    let p = err_from_is_err_and c.from_residual-in_err-used-in-Server.result c.from_residual-in_err-used-in-Server.ensures.1 in
    rw (p.1, p.2, c.in-Server.is, ← c.self.view_is) (inr (stops Server T c.args.piece.now c.receive-in-Server.new.stream c.receive-in-Server.new.stream c.self.invariant.1.same r.0.stays c.in-Server.is c.receive-in-Server.new.kept c.in_err-used-in-Server.field-0.0 r.0.used r.0.reason r.0.advance r.0.told r.1).1)

pub returns-in-Err-server_frame-clause-empty : goal.returns-in-Err-server_frame-clause-empty
returns-in-Err-server_frame-clause-empty c = λ none. absurd (let a = (received c.args.side _ _ _ _ _ c.in-Some-2.is c.in_ok-used-in-Server.ensures.received).0.advance in no_bytes_whole a.0 a.1 none)

pub returns-in_err-used-in-Server-clause-empty : goal.returns-in_err-used-in-Server-clause-empty
returns-in_err-used-in-Server-clause-empty c = λ none. absurd (let a = c.in_err-used-in-Server.ensures.received.0.advance in no_bytes_refused a.0 a.1 none)
