use Rattle.std.proofs.Common.{rules, ◌≡◌, ◌∙◌, ℤ, true, ap, subst, Option, Ok, w32, w64, SFits}
use Rattle.std.specs.Option.{IfSome, IfNone}
use Rattle.std.proofs.lemmas.Int.{to_z-of_z}
use Rattle.zk_through.specs.{declared.turns.Due.Due, LeftOut.xid_of, LeftOut.zxid_of, LeftOut.err_of, Turns.Judges, Turns.IsEarlier, Turns.matched_after, Fates.TellsReply}
use Rattle.zk_through.proofs.Carried.{reply_header}
use Rattle.zk_through.proofs.fate.server_fate.Goals as goal

pub unseen-requires : goal.unseen-requires
unseen-requires c = record { ahead = reply_header c.args.number c.args.payload.now c.replied-ahead.result c.replied-ahead.ensures }

pub returns-in-Some : goal.returns-in-Some
returns-in-Some c =
    let q = c.args.payload.now in
    let u = subst (λ (z : Option (ℤ × ℤ × ℤ)). IfSome z (λ head. IsEarlier c.args.matched.now c.args.turns.now c.replied-ahead.result × (head ≡ (xid_of q, zxid_of q, err_of q)))) c.in-Some.is c.unseen.ensures.some in
    let late = subst (λ (z : Option (ℤ × ℤ × ℤ)). IfSome z (λ head. c.args.late ≡ true)) c.in-Some.is c.unseen.ensures.late in
    let xid : SFits w32 c.in-Some.xid = search rules in
    let zxid : SFits w64 c.in-Some.zxid = search rules in
    let err : SFits w32 c.in-Some.err = search rules in (
      c.replied-ahead.result,
      c.replied-ahead.ensures,
      late,
      u.0,
      to_z-of_z w32 c.in-Some.xid xid ∙ ap (λ (z : ℤ × ℤ × ℤ). z.0) u.1,
      to_z-of_z w64 c.in-Some.zxid zxid ∙ ap (λ (z : ℤ × ℤ × ℤ). z.1) u.1,
      to_z-of_z w32 c.in-Some.err err ∙ ap (λ (z : ℤ × ℤ × ℤ). z.2) u.1,
      c.unseen.ensures.same late u.0,
    )

pub returns-in-Err : goal.returns-in-Err
returns-in-Err c =
    let bad = c.in-Err.ensures in
    let stays = subst (λ (z : Option (ℤ × ℤ × ℤ)). IfNone z (c.args.late ≡ true → IsEarlier c.args.matched.now c.args.turns.now c.replied-ahead.result → ⊥)) c.in_default.is c.unseen.ensures.none in (
      bad.0,
      subst (TellsReply c.args.number c.args.payload.now) bad.1 c.replied-ahead.ensures,
      subst (λ (z : Option ℤ). c.args.late ≡ true → IsEarlier c.args.matched.now c.args.turns.now z → ⊥) bad.1 stays,
      bad.2,
    )

pub returns-in-LeftOut : goal.returns-in-LeftOut
returns-in-LeftOut c =
    let d = subst (λ (z : Due). Judges c.args.turns.now c.replied-ahead.result (Ok z)) c.in-LeftOut.is c.in-Ok.ensures in
    let stays = subst (λ (z : Option (ℤ × ℤ × ℤ)). IfNone z (c.args.late ≡ true → IsEarlier c.args.matched.now c.args.turns.now c.replied-ahead.result → ⊥)) c.in_default.is c.unseen.ensures.none in (
      subst (TellsReply c.args.number c.args.payload.now) d.0 c.replied-ahead.ensures,
      subst (λ (z : Option ℤ). c.args.late ≡ true → IsEarlier c.args.matched.now c.args.turns.now z → ⊥) d.0 stays,
      d.1,
      d.2,
      λ e. c.unseen.ensures.counts e (stays e) ∙ ap (λ (z : Option ℤ). matched_after z c.args.matched.now) d.0,
    )

pub returns : goal.returns
returns c =
    let stays = subst (λ (z : Option (ℤ × ℤ × ℤ)). IfNone z (c.args.late ≡ true → IsEarlier c.args.matched.now c.args.turns.now c.replied-ahead.result → ⊥)) c.in_default.is c.unseen.ensures.none in
    (c.replied-ahead.ensures, stays, c.in-Ok.due, c.in_default-due.not-LeftOut, c.in-Ok.ensures, c.frame_answered-frame.ensures, λ e. c.unseen.ensures.counts e (stays e))
