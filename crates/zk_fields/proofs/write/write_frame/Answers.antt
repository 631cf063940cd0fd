use Rattle.zk_fields.proofs.Saying.{refused, crowded, framed}
use Rattle.zk_fields.proofs.write.write_frame.Goals as goal

pub returns-in-Err : goal.returns-in-Err
returns-in-Err c = λ a b front back. refused c.args.heads a b c.args.front.now c.args.behind.now c.args.content.now c.args.fields.now c.args.room.now front back c.in-Err.why c.in-Err.ensures

pub returns-then-size-room : goal.returns-then-size-room
returns-then-size-room c = λ a b front back. crowded c.args.heads a b c.args.front.now c.args.behind.now c.args.content.now c.args.fields.now c.args.room.now front back c.in-Ok.payload c.in-Ok.ensures c.if-size-room.true

pub returns : goal.returns
returns c = λ a b front back.
    framed c.args.heads a b c.args.front.now c.args.behind.now c.args.content.now c.args.fields.now c.args.room.now front back c.in-Ok.payload c.fill_length-at.result c.fill-at.result c.fill_all-at.result c.fill.result c.fill_length-at.new.room c.fill-at.new.room c.fill_all-at.new.room c.fill.new.room c.in-Ok.ensures c.if-size-room.false c.fill_length-at.ensures c.fill-at.ensures c.fill_all-at.ensures c.fill.ensures
