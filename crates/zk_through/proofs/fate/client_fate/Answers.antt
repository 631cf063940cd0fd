use Rattle.std.proofs.Common.{◌≡◌, ◌∙◌, ap, subst, Option, arith}
use Rattle.std.specs.Option.{IfSome}
use Rattle.zk_talk.specs.declared.limits.Limits.{Limits}
use Rattle.zk_through.specs.{declared.turn.Turn.Turn, Fates.TellsLacking}
use Rattle.zk_through.proofs.Carried.{request_header, out_ahead, told_ahead, weighs_itself_or, weighs_most}
use Rattle.zk_through.proofs.fate.client_fate.Goals as goal

pub lacking-out-requires-clause-header : goal.lacking-out-requires-clause-header
lacking-out-requires-clause-header c = request_header c.args.number c.args.payload.now c.asked-turn.result c.asked-turn.ensures

pub returns-then-weight-room : goal.returns-then-weight-room
returns-then-weight-room c =
    let n = c.args.number in
    let p = c.args.payload.now in
    let profile = c.profile-profile.ensures ∙ ap (λ (l : Limits). l.profile) c.requires.limits in
    let more = c.if-weight-room.true in
    let most = c.waiting.ensures ∙ ap (λ (l : Limits). l.waiting) c.requires.limits in
    let w = weighs_itself_or n p c.profile-profile.result _ profile c.asked-turn.result c.lacking-out.result c.room-room.result c.weight-weight.result c.asked-turn.ensures c.lacking-out.ensures c.weight-weight.ensures.out c.weight-weight.ensures.ask more in
    (w.0, c.weight-weight.result, w.1, λ h M v cr sr st g. omega (arith, more, c.room-room.ensures.stands h M v cr sr st g, most))

pub returns-in-Some : goal.returns-in-Some
returns-in-Some c =
    let n = c.args.number in
    let p = c.args.payload.now in
    let profile = c.profile-profile.ensures ∙ ap (λ (l : Limits). l.profile) c.requires.limits in
    let most = c.waiting.ensures ∙ ap (λ (l : Limits). l.waiting) c.requires.limits in
    let lacking = subst (λ (z : Option Turn). TellsLacking c.profile-profile.result p c.asked-turn.result z) c.in-Some.is c.lacking-out.ensures in
    let a = out_ahead n p c.profile-profile.result _ profile c.asked-turn.result c.in-Some.turn c.asked-turn.ensures lacking in
    let one : c.weight-weight.result ≡ 1 = subst (λ (z : Option Turn). IfSome z (λ t. c.weight-weight.result ≡ 1)) c.in-Some.is c.weight-weight.ensures.out in
    let fits = c.if-weight-room.false in (
      a.0,
      a.1,
      a.2,
      (λ h M v cr sr st g. omega (arith, fits, c.room-room.ensures.stands h M v cr sr st g, most, one)),
      omega (arith, fits, c.room-room.ensures.left, most, one),
    )

pub returns-in-None : goal.returns-in-None
returns-in-None c =
    let n = c.args.number in
    let p = c.args.payload.now in
    let profile = c.profile-profile.ensures ∙ ap (λ (l : Limits). l.profile) c.requires.limits in
    let most = c.waiting.ensures ∙ ap (λ (l : Limits). l.waiting) c.requires.limits in
    let size = weighs_most n p c.profile-profile.result _ profile c.lacking-out.result c.room-room.result c.weight-weight.result c.in-None.is c.weight-weight.ensures.ask in
    let fits = c.if-weight-room.false in (
      c.asked-turn.ensures,
      told_ahead n p c.profile-profile.result _ profile c.asked-turn.result c.lacking-out.result c.in-None.is c.asked-turn.ensures c.lacking-out.ensures,
      c.weight-weight.result,
      size,
      λ more h M v cr sr st g. omega (arith, more, fits, c.room-room.ensures.stands h M v cr sr st g, most),
    )
