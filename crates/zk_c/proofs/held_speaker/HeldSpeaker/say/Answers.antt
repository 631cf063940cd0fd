use Rattle.std.proofs.Common.{◌≡◌, ℕ, List, [], ◌∷◌, ◌++◌, ◌∙◌, ap, sym, subst, length}
use Rattle.zk_c.specs.{contracts.held_speaker.HeldSpeaker.the_view, declared.say_result.SayAnswer.SayAnswer, HeldSpeaker.HeldSpeakerState, Saying.TellsSay, Saying.say_answer, Saying.no_line}
use Rattle.zk_c.proofs.{Handles.say_of, Encoded.with_frame, Encoded.encoded_said, Encoded.encoded_refused, Encoded.encoded_written}
use Rattle.zk_c.proofs.held_speaker.HeldSpeaker.say.Goals as goal

pub say_written-requires-clause-written : goal.say_written-requires-clause-written
say_written-requires-clause-written c =
    let empty = c.clear.ensures.items in
    let four : length c.extend_from_slice.new.self.items ≡ 4 = ap length (c.in-Ok.ensures.items ∙ ap (λ (xs : List ℕ). xs ++ 0 ∷ 0 ∷ 0 ∷ 0 ∷ []) empty) in
    encoded_written _ c.extend_from_slice.new.self.items c.encode_line.new.out.items c.in-Ok-encode_line.kind four c.in-Ok-encode_line.ensures.encoded

pub returns-in-Ok-say_written : goal.returns-in-Ok-say_written
returns-in-Ok-say_written c =
    let empty = c.clear.ensures.items in
    let four : length c.extend_from_slice.new.self.items ≡ 4 = ap length (c.in-Ok.ensures.items ∙ ap (λ (xs : List ℕ). xs ++ 0 ∷ 0 ∷ 0 ∷ 0 ∷ []) empty) in
    let told = c.said.ensures ∙ ap (λ (n : ℕ). say_answer 0 n 0) (c.len.ensures ∙ c.say_written.new.out.ok.0) in
    say_of c.self.view_is (subst (λ (a : SayAnswer). TellsSay (the_view c.self.inside) c.args.line.now (record { speaker = c.say_written.new.self; frame = c.say_written.new.out.items }) a) (sym told)
    (encoded_said (the_view c.self.inside) _ c.args.line.now c.extend_from_slice.new.self.items c.encode_line.new.out.items c.in-Ok-encode_line.kind
    four c.in-Ok-encode_line.ensures.encoded c.in-Ok-say_written.ensures.limits c.in-Ok-say_written.ensures.bytes c.in-Ok-say_written.ensures.said))

pub returns-in-Err-say_written : goal.returns-in-Err-say_written
returns-in-Err-say_written c =
    let empty = c.clear.ensures.items in
    let four : length c.extend_from_slice.new.self.items ≡ 4 = ap length (c.in-Ok.ensures.items ∙ ap (λ (xs : List ℕ). xs ++ 0 ∷ 0 ∷ 0 ∷ 0 ∷ []) empty) in
    let failed = c.in-Err-say_written.ensures in
    say_of c.self.view_is (encoded_refused (the_view c.self.inside) _ c.args.line.now c.extend_from_slice.new.self.items c.encode_line.new.out.items c.in-Ok-encode_line.kind four c.in-Ok-encode_line.ensures.encoded
    (λ i. record { speaker = failed.same.0 i; frame = c.clear-in-Err-say_written.ensures.items i }) c.in-Err-say_written.fault failed.err failed.exact c.refused.result c.refused.ensures)

pub returns-in-Err-encode_line : goal.returns-in-Err-encode_line
returns-in-Err-encode_line c =
    say_of c.self.view_is (no_line c.in-Err-encode_line.fault (ap (with_frame (the_view c.self.inside)) c.clear-in-Err-encode_line.ensures.items) c.no_line-in-Err-encode_line.ensures c.in-Err-encode_line.ensures.only)

pub returns-in-Err : goal.returns-in-Err
returns-in-Err c =
    let empty = c.clear.ensures.items in
    say_of c.self.view_is (no_line c.from.result (ap (with_frame (the_view c.self.inside)) (c.in-Err.ensures.items ∙ empty)) c.no_line.ensures (λ m fits is. c.from.ensures))
