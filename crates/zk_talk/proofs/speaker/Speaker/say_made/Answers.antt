use Rattle.std.proofs.Common.{◌≡◌, ◌∙◌}
use Rattle.zk_talk.specs.{Held.Message, Written.IsWritten}
use Rattle.zk_talk.proofs.SayingWritten.{made_said, made_there, made_small, made_refused, made_exact}
use Rattle.zk_talk.proofs.speaker.Speaker.say_made.Goals as goal

pub returns-in-Ok-say_alone-clause-said : goal.returns-in-Ok-say_alone-clause-said
returns-in-Ok-say_alone-clause-said c =
    let only : (n : Message) → IsWritten c.args.kind c.args.payload.now n → c.in-Ok.message.value ≡ n = c.in-Ok.ensures in
    made_said c.args.self.now c.args.kind c.args.payload.now c.in-Ok.message.value only c.say_alone.new.self c.in-Ok-say_alone.ensures.said

pub returns-in-Ok-say_alone-clause-there : goal.returns-in-Ok-say_alone-clause-there
returns-in-Ok-say_alone-clause-there c =
    let only : (n : Message) → IsWritten c.args.kind c.args.payload.now n → c.in-Ok.message.value ≡ n = c.in-Ok.ensures in
    made_there c.args.self.now c.args.kind c.args.payload.now c.in-Ok.message.value only c.say_alone.new.self c.requires.written.0 c.requires.written.1 c.in-Ok-say_alone.ensures.said

pub returns-in-Ok-say_alone-clause-small : goal.returns-in-Ok-say_alone-clause-small
returns-in-Ok-say_alone-clause-small c =
    let only : (n : Message) → IsWritten c.args.kind c.args.payload.now n → c.in-Ok.message.value ≡ n = c.in-Ok.ensures in
    made_small c.args.self.now c.args.kind c.args.payload.now c.in-Ok.message.value only c.requires.written.0 c.requires.written.1 c.in-Ok-say_alone.ensures.within

pub returns-clause-err : goal.returns-clause-err
returns-clause-err c =
    let only : (n : Message) → IsWritten c.args.kind c.args.payload.now n → c.in-Ok.message.value ≡ n = c.in-Ok.ensures in
    made_refused c.args.self.now c.args.kind c.args.payload.now c.in-Ok.message.value only c.in-Err.e c.in-Err.ensures.err

pub returns-clause-exact : goal.returns-clause-exact
returns-clause-exact c = λ other.
    let only : (n : Message) → IsWritten c.args.kind c.args.payload.now n → c.in-Ok.message.value ≡ n = c.in-Ok.ensures in
    made_exact c.args.self.now c.args.kind c.args.payload.now c.in-Ok.message.value only (c.in-Err.ensures.exact other)
