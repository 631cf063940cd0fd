use Rattle.std.proofs.Common.{◌<◌, ◌^◌, length, arith, subst}
use Rattle.zk_talk.specs.{Held.Message, Stands.TalkState, Stands.kept_on, Viewed.Shows}
use Rattle.zk_c.specs.Handle.{IsFields}
use Rattle.zk_c.proofs.Keeping.{has_fields}
use Rattle.zk_c.proofs.conversation.Conversation.fields.Goals as goal

pub returns : goal.returns
returns c =
    let t = c.self.inside.talk in
    let few : length (kept_on c.args.side t) < 2 ^ 32 = omega (arith, c.held-held.ensures.value, c.held-held.type_inv) in
    let tells = λ (m : Message) (shows : Shows t c.args.side m). c.read_shown.ensures.some m (c.view.ensures.only m shows) (has_fields t c.args.side m shows few) in
    subst (λ (u : TalkState). IsFields u c.args.side c.args.room.now c.read_shown.new.room c.read_shown.result) c.self.view_is
    (record { none = λ e. c.read_shown.ensures.none (c.view.ensures.none e); some = tells })
