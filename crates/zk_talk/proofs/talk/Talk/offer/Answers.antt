use Rattle.std.proofs.Common.{◌≡◌, ◌+◌, ◌∙◌, refl, sym, ap, subst, arith, drop, inl, Some}
use Rattle.zk_frames.specs.Framing.{frame}
use Rattle.zk_talk.specs.{contracts.talk.Talk.the_view, Sound.IsKnown, Sound.IsSide, Stands.TalkState, Streams.StreamState, Streams.held_in, Streams.kept_now, Viewed.ShowsClient, Viewed.ShowsServer, Describes.Describes, Judged.IsNextClient, Judged.IsNextServer}
use Rattle.zk_talk.specs.declared.message.Side.TheVariants.{Client, Server}
use Rattle.zk_talk.specs.declared.message.MessageOf.TheVariants.{Client as FromClient, Server as FromServer}
use Rattle.zk_talk.proofs.{Answering.keeps, Answering.bad, Answering.stops, Stepping.known_fault, Viewing.client_shown, Viewing.server_shown}
use Rattle.zk_talk.proofs.Seen.{payload_small, client_passes, client_told, server_passes, server_told}
use Rattle.zk_talk.proofs.Offers.{lent, carries, steps_all, would, at_item}
use Rattle.zk_talk.proofs.talk.Talk.offer.Goals as goal

pub returns-in-Some-clause-err : goal.returns-in-Some-clause-err
returns-in-Some-clause-err c =
    let old = c.args.self.now in
    let kept : old.fault ≡ Some c.in-Some.fault = ap (λ (t : TalkState). t.fault) (sym c.self.view_is) ∙ c.in-Some.is in
    (subst IsKnown c.in-Some.is c.self.invariant.3, (old, refl, known_fault old c.in-Some.fault c.args.side kept old c.args.frame.now))

pub await_ask-requires : goal.await_ask-requires
await_ask-requires c =
    let x = c.self.inside.client in
    let bytes = c.args.frame.now in
    let used = c.in-Whole.used in
    let w = c.in-Whole.ensures in
    let at' = lent x c.self.inside.limits.client c.self.invariant.0.same (omega (arith, c.self.inside.limits.in_range)) c.self.invariant.0.count bytes used w.2 w.3 in
    payload_small (held_in x bytes) used c.count-count.result at' c.carried-payload.result.now (carries bytes c.carried-payload.result.now used w.2 c.carried-payload.ensures) c.count-count.ensures c.self.inside.waiting

pub invariant_of-self-in-Ok-settle : goal.invariant_of-self-in-Ok-settle
invariant_of-self-in-Ok-settle c =
    let i = c.self.invariant in
    let x = c.self.inside.server in
    let bytes = c.args.frame.now in
    let used = c.in-Whole-offered.used in
    let w = c.in-Whole-offered.ensures in
    let p = c.carried-payload-in-Whole-offered.result.now in
    let k = c.in-Ok-settle.ensures.found in
    let keep = c.keep_whole-in-Ok-settle.ensures in
    let is = carries bytes p used w.2 c.carried-payload-in-Whole-offered.ensures in
    let side = subst (IsSide c.self.inside.limits.server c.self.inside.fault) (sym keep) (record {
      begins = λ e. inl (omega arith);
      same = i.1.same;
      size = omega (arith, w.2, w.3.2);
      count = omega (arith, w.2, i.1.count, w.3.0);
    }) in
    let shows = server_shown c.count-count-in-Server.result bytes k.0 c.self.inside.waiting c.in-Ok-settle.answered k.1.told k.1.due k.1.turn k.1.sent (is ∙ ap frame (sym k.1.is)) in
    let counted = subst (λ n. ShowsServer (n + 1) c.in-Ok-settle.answered bytes k.0) c.count-count-in-Server.ensures shows in
    (i.0, side, c.settle.ensures.max ∙ i.2, i.3, i.4, λ held. (k.0, subst (λ (z : StreamState). ShowsServer z.count c.in-Ok-settle.answered z.kept k.0) (sym keep) counted))

pub returns-in-Refused-clause-err : goal.returns-in-Refused-clause-err
returns-in-Refused-clause-err c =
    let T = the_view c.self.inside in
    let x = c.self.inside.client in
    let w = c.in-Refused.ensures in
    let used = c.in-Refused.used in
    let reason = c.in-Refused.reason in
    let s = held_in x w.1 in
    let result = c.next_fault.result in
    let told = at_item c.args.side x.count (x.size + used) reason c.at-item.result result c.at-item.ensures c.next_fault.ensures in
    rw (c.in-Client.is, ← c.self.view_is) (would Client T c.args.frame.now s result (stops Client T c.args.frame.now s s c.self.invariant.0.same refl c.in-Client.is (Some result) result used reason w.2 told refl))

pub returns-in-Ok-clause-taken : goal.returns-in-Ok-clause-taken
returns-in-Ok-clause-taken c =
    let T = the_view c.self.inside in
    let x = c.self.inside.client in
    let bytes = c.args.frame.now in
    let used = c.in-Whole.used in
    let w = c.in-Whole.ensures in
    let s = held_in x bytes in
    let p = c.carried-payload.result.now in
    let count = c.count-count in
    let k = c.in-Ok.ensures.found in
    let at' = lent x c.self.inside.limits.client c.self.invariant.0.same (omega (arith, c.self.inside.limits.in_range)) c.self.invariant.0.count bytes used w.2 w.3 in
    let is = carries bytes p used w.2 c.carried-payload.ensures in
    let f = client_passes s used count.result at' p is count.ensures T.waiting c.profile-profile.result c.await_ask.new.waiting k in
    let next = subst (λ z. IsNextClient z s.count T.waiting (drop 4 s.held) k.0) c.profile-profile.ensures f.0 in
    let shows = client_shown count.result bytes k.0 c.profile-profile.result k.1.turn k.1.sent (is ∙ ap frame (sym k.1.is)) in
    let counted = subst (λ n. ShowsClient (n + 1) bytes k.0) count.ensures shows in
    let kept = subst (λ (z : StreamState). ShowsClient z.count z.kept k.0) (sym c.keep_whole.ensures) counted in
    let keep = c.keep_whole.ensures ∙ ap (kept_now s) (sym w.2) in
    rw (c.in-Client.is, ← c.self.view_is) (λ took. steps_all T _ Client bytes used w.2 (keeps Client T bytes s c.keep_whole.new.self c.self.invariant.0.same refl used w.3 c.self.invariant.2 T.answered (FromClient k.0) c.await_ask.new.waiting (next, f.1) refl kept keep))

pub returns-in-Err-clause-err : goal.returns-in-Err-clause-err
returns-in-Err-clause-err c =
    let T = the_view c.self.inside in
    let x = c.self.inside.client in
    let bytes = c.args.frame.now in
    let used = c.in-Whole.used in
    let w = c.in-Whole.ensures in
    let s = held_in x bytes in
    let p = c.carried-payload.result.now in
    let count = c.count-count in
    let result = c.next_fault-in-Err.result in
    let at' = lent x c.self.inside.limits.client c.self.invariant.0.same (omega (arith, c.self.inside.limits.in_range)) c.self.invariant.0.count bytes used w.2 w.3 in
    let is = carries bytes p used w.2 c.carried-payload.ensures in
    let g = client_told s used count.result at' p is count.ensures T.waiting c.profile-profile.result c.in-Err.item c.in-Err.ensures.fault in
    let b = bad Client T bytes s s c.self.invariant.0.same refl used w.3 c.self.invariant.2 c.in-Client.is T.waiting (Some result) c.in-Err.item result (λ known. (c.next_fault-in-Err.ensures, refl)) refl g.0 refl (λ limits m v q o d. g.1 limits m v q (o ∙ sym c.profile-profile.ensures) d) in
    rw (c.in-Client.is, ← c.self.view_is) (would Client T bytes s result b)

pub returns-in-Refused-offered-clause-err : goal.returns-in-Refused-offered-clause-err
returns-in-Refused-offered-clause-err c =
    let T = the_view c.self.inside in
    let x = c.self.inside.server in
    let w = c.in-Refused-offered.ensures in
    let used = c.in-Refused-offered.used in
    let reason = c.in-Refused-offered.reason in
    let s = held_in x w.1 in
    let result = c.next_fault-in-Refused-offered.result in
    let told = at_item c.args.side x.count (x.size + used) reason c.at-item-in-Refused-offered.result result c.at-item-in-Refused-offered.ensures c.next_fault-in-Refused-offered.ensures in
    rw (c.in-Server.is, ← c.self.view_is) (would Server T c.args.frame.now s result (stops Server T c.args.frame.now s s c.self.invariant.1.same refl c.in-Server.is (Some result) result used reason w.2 told refl))

pub returns-in-Ok-settle-clause-taken : goal.returns-in-Ok-settle-clause-taken
returns-in-Ok-settle-clause-taken c =
    let T = the_view c.self.inside in
    let x = c.self.inside.server in
    let bytes = c.args.frame.now in
    let used = c.in-Whole-offered.used in
    let w = c.in-Whole-offered.ensures in
    let s = held_in x bytes in
    let p = c.carried-payload-in-Whole-offered.result.now in
    let count = c.count-count-in-Server in
    let answered = c.in-Ok-settle.answered in
    let k = c.in-Ok-settle.ensures.found in
    let at' = lent x c.self.inside.limits.server c.self.invariant.1.same (omega (arith, c.self.inside.limits.in_range)) c.self.invariant.1.count bytes used w.2 w.3 in
    let is = carries bytes p used w.2 c.carried-payload-in-Whole-offered.ensures in
    let f = server_passes s used count.result at' p is count.ensures T.waiting c.count-asked.result answered c.settle.new.waiting k in
    let next = subst (λ z. IsNextServer z s.count T.waiting (drop 4 s.held) k.0) c.count-asked.ensures f.0 in
    let shows = server_shown count.result bytes k.0 T.waiting answered k.1.told k.1.due k.1.turn k.1.sent (is ∙ ap frame (sym k.1.is)) in
    let counted = subst (λ n. ShowsServer (n + 1) answered bytes k.0) count.ensures shows in
    let kept = subst (λ (z : StreamState). ShowsServer z.count answered z.kept k.0) (sym c.keep_whole-in-Ok-settle.ensures) counted in
    let keep = c.keep_whole-in-Ok-settle.ensures ∙ ap (kept_now s) (sym w.2) in
    rw (c.in-Server.is, ← c.self.view_is) (λ took. steps_all T _ Server bytes used w.2 (keeps Server T bytes s c.keep_whole-in-Ok-settle.new.self c.self.invariant.1.same refl used w.3 c.self.invariant.2 answered (FromServer k.0) c.settle.new.waiting (next, f.1) (λ held. k.1.told) kept keep))

pub returns-in-Err-settle-clause-err : goal.returns-in-Err-settle-clause-err
returns-in-Err-settle-clause-err c =
    let T = the_view c.self.inside in
    let x = c.self.inside.server in
    let bytes = c.args.frame.now in
    let used = c.in-Whole-offered.used in
    let w = c.in-Whole-offered.ensures in
    let s = held_in x bytes in
    let p = c.carried-payload-in-Whole-offered.result.now in
    let count = c.count-count-in-Server in
    let result = c.next_fault-in-Err-settle.result in
    let at' = lent x c.self.inside.limits.server c.self.invariant.1.same (omega (arith, c.self.inside.limits.in_range)) c.self.invariant.1.count bytes used w.2 w.3 in
    let is = carries bytes p used w.2 c.carried-payload-in-Whole-offered.ensures in
    let g = server_told s used count.result at' p is count.ensures T.waiting c.count-asked.result c.in-Err-settle.item c.in-Err-settle.ensures.fault in
    let b = bad Server T bytes s s c.self.invariant.1.same refl used w.3 c.self.invariant.2 c.in-Server.is T.waiting (Some result) c.in-Err-settle.item result (λ known. (c.next_fault-in-Err-settle.ensures, refl)) refl g.0 refl (λ v d. g.1 v (subst (λ z. Describes z s.count T.waiting v) (sym c.count-asked.ensures) d)) in
    rw (c.in-Server.is, ← c.self.view_is) (would Server T bytes s result b)
