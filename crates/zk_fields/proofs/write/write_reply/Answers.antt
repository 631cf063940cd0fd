use Rattle.std.proofs.Common.{rules, List, subst, sym, ap, ◌∙◌, ◌≡◌}
use Rattle.zk_jute.specs.Item.{Item}
use Rattle.zk_records.specs.{declared.header.ReplyHeader.ReplyHeader, Records.reply_header}
use Rattle.zk_answers.specs.Frames.{err_of, header_of}
use Rattle.zk_answers.specs.declared.frame.ServerFrameOf.TheVariants as server
use Rattle.zk_fields.specs.declared.value.Heads.TheVariants as head
use Rattle.zk_fields.specs.{Frames.rest_behind, Written.done_behind, Written.answer_front, Written.Writes}
use Rattle.zk_fields.proofs.Again.{server_again, rests_alike}
use Rattle.zk_fields.proofs.write.write_reply.Goals as goal

pub returns-clause-frame : goal.returns-clause-frame
returns-clause-frame c =
    search (c.write_frame.ensures (answer_front c.args.xid c.args.zxid c.args.err) (done_behind c.args.err c.args.operation), c.reply_header-front.ensures, c.reply_end-behind.ensures.exact, rules)

pub returns-clause-again : goal.returns-clause-again
returns-clause-again c = λ r is.
    let before = c.args.room.now in
    let after = c.write_frame.new.room in
    let result = c.write_frame.result in
    let err : c.args.err ≡ err_of r.outcome = ap (λ (z : ReplyHeader). z.err) (sym is.0) in
    server_again (server.Answered r) c.args.content.now c.args.fields.now before after result (λ sent.
    let end : done_behind c.args.err c.args.operation ≡ rest_behind r.outcome = (λ k. done_behind (err k) (is.1 k)) ∙ rests_alike r.outcome sent.1 in
    subst (λ (z : List Item). Writes head.Results (reply_header.items (header_of r)) z c.args.content.now c.args.fields.now before result after) end
    (subst (λ (z : ReplyHeader). Writes head.Results (reply_header.items z) (done_behind c.args.err c.args.operation) c.args.content.now c.args.fields.now before result after) (sym is.0) (returns-clause-frame c)))
