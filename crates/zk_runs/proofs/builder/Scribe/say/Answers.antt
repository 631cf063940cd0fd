use Rattle.std.proofs.Common.{◌≡◌, ◌≢◌, ◌++◌, ◌∷◌, [], ◌+◌, ◌⊎◌, inl, inr, List, ℕ, length, drop, false, sym, ap, ◌∙◌, refl, subst}
use Rattle.std.specs.Io.KnownBytes.{append_known}
use Rattle.zk_listings.specs.declared.listing.RunFault.TheVariants.{Memory}
use Rattle.zk_listings.proofs.Exits.{if-err}
use Rattle.zk_talk.specs.{Held.Message, Written.IsWritten}
use Rattle.zk_runs.specs.{declared.builder.Halt.TheVariants.Fails, Building.built_bytes, Building.piece_of, Accepting.Took, Accepting.HaltsAt, Accepting.say_halt}
use Rattle.zk_runs.proofs.{Known.known-more, Accepted.stops-here, Accepted.took-message, Accepted.halts-unread, Accepted.halts-unsaid, Encoded.payload_there, Encoded.piece_there, Encoded.payload_written, Encoded.refused_alone}
use Rattle.zk_runs.proofs.builder.Scribe.say.Goals as goal

pub returns-in_err-extend_from_slice-clause-halts : goal.returns-in_err-extend_from_slice-clause-halts
returns-in_err-extend_from_slice-clause-halts c =
    if-err _ (Fails Memory) _ c.from_residual.ensures.1 (λ limits lines before now t. stops-here limits lines before now _ _ (rw c.requires.going at t))

pub returns-in-Err-clause-halts : goal.returns-in-Err-clause-halts
returns-in-Err-clause-halts c = λ limits lines before now t.
    rw c.at_line.ensures (halts-unread limits lines before now _ _ (rw c.requires.going at t) c.args.line.now c.in-Err.fault c.requires.plain (λ m fits e. c.in-Err.ensures.only m fits e))

pub say_written-requires-clause-written : goal.say_written-requires-clause-written
say_written-requires-clause-written c =
    let k = c.in-Ok.ensures.encoded in
    let after = k.2 ∙ ap (λ (xs : List ℕ). xs ++ k.0) c.in_ok-extend_from_slice.ensures.items in
    (k.1, payload_written c.args.due.now.items _ k.0 c.encode_line.new.out.items refl after c.len-before.result (c.len-before.ensures ∙ c.args.due.now.ok.0) c.in-Ok.kind k.1 k.5)

pub returns-in-Err-say_written-clause-halts : goal.returns-in-Err-say_written-clause-halts
returns-in-Err-say_written-clause-halts c = λ limits lines before now t.
    let k = c.in-Ok.ensures.encoded in
    let after = k.2 ∙ ap (λ (xs : List ℕ). xs ++ k.0) c.in_ok-extend_from_slice.ensures.items in
    let is = payload_written c.args.due.now.items _ k.0 c.encode_line.new.out.items refl after c.len-before.result (c.len-before.ensures ∙ c.args.due.now.ok.0) c.in-Ok.kind k.1 k.5 in
    rw c.at_message.ensures (subst (λ text. HaltsAt limits lines text before (say_halt (c.args.self.now.lines + 1) c.in-Err-say_written.fault) now) (sym k.3)
    (halts-unsaid limits lines before now _ _ (rw c.requires.going at t) k.1 k.4 c.in-Err-say_written.fault (refused_alone c.args.self.now.speaker c.in-Ok.kind _ k.1 is c.in-Err-say_written.fault c.in-Err-say_written.ensures.err)))

pub returns-clause-goes_on : goal.returns-clause-goes_on
returns-clause-goes_on c = λ limits lines before written t.
    let due = c.args.due.now.items in
    let room : List ℕ = 0 ∷ 0 ∷ 0 ∷ 0 ∷ 0 ∷ 0 ∷ 0 ∷ 0 ∷ 0 ∷ [] in
    let encoded = c.encode_line.new.out.items in
    let k = c.in-Ok.ensures.encoded in
    let after : encoded ≡ (due ++ room) ++ k.0 = k.2 ∙ ap (λ (xs : List ℕ). xs ++ k.0) c.in_ok-extend_from_slice.ensures.items in
    let start : c.len-before.result ≡ length due = c.len-before.ensures ∙ c.args.due.now.ok.0 in
    let is = payload_written due room k.0 encoded refl after c.len-before.result start c.in-Ok.kind k.1 k.5 in
    let says = c.in-Ok-say_written.ensures.said k.1 is in
    let may = (says t.messages t.knows.says).0 in
    let now = append_known written due in
    let put : c.put_head.new.due.items ≡ due ++ built_bytes (piece_of k.1) =
    piece_there due room k.0 encoded refl after _ start c.args.self.now.speaker.limits t.messages k.1 c.side.result c.say_written.new.out.items c.put_head.new.due.items may k.5.is (c.side.ensures k.1 k.5.kind_is) c.in-Ok-say_written.ensures.bytes c.put_head.ensures in
    subst (λ ended. Took limits (lines ++ c.args.line.now ∷ []) before (append_known written c.put_head.new.due.items) (c.args.self.now.lines + 1) ended c.say_written.new.self) (sym c.requires.going)
    (subst (λ text. Took limits (lines ++ text ∷ []) before (append_known written c.put_head.new.due.items) (c.args.self.now.lines + 1) false c.say_written.new.self) (sym k.3)
    (took-message limits lines before now _ _ (rw c.requires.going at t) k.1 k.4 _ c.in-Ok-say_written.ensures.limits says _ (known-more written _ _ _ put)))
