use Rattle.zk_items.proofs.{Forms.word_sound, Texts.past_plain, Encoding.plain_whole, Encoding.plain_run_text}
use Rattle.zk_items.proofs.reader.Reader.encode_plain.Goals as goal

pub returns-clause-whole : goal.returns-clause-whole
returns-clause-whole c = λ yes.
    plain_whole c.args.out.now.items c.append.new.out.items c.plain.result.now c.args.self.now c.plain.new.self c.passes.new.self c.in_ok-append.ensures.appended c.plain.ensures.run c.plain.ensures.rest
    (word_sound _ c.plain.new.self c.passes.new.self (rw yes at c.passes.ensures))

pub returns-clause-plain : goal.returns-clause-plain
returns-clause-plain c = λ yes. plain_run_text c.args.out.now.items c.append.new.out.items c.plain.result.now c.args.self.now c.in_ok-append.ensures.appended c.plain.ensures.run

pub returns-clause-more : goal.returns-clause-more
returns-clause-more c = λ no.
    let passed = rw no at c.passes.ensures in
    rw passed.1 (past_plain c.args.out.now.items c.append.new.out.items c.plain.result.now c.args.self.now c.plain.new.self c.in_ok-append.ensures.appended c.plain.ensures.run c.plain.ensures.rest)
