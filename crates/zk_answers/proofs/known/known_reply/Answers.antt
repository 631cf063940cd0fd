use Rattle.std.proofs.Common.{refl, sym, ◌∙◌, arith}
use Rattle.std.specs.Int.{w32, w64}
use Rattle.std.proofs.lemmas.Int.{to_z-of_z}
use Rattle.zk_records.specs.Records.{reply_header}
use Rattle.zk_asks.proofs.Knowing.{found_there, ends_within}
use Rattle.zk_answers.proofs.{Knowing.header_stands, Knowing.stands_behind, Knowing.is_failed, Knowing.is_done, known.known_reply.Goals.in-Some, known.known_reply.Goals.in-None}
use Rattle.zk_answers.proofs.known.known_reply.Goals as goal

pub known_at-place-requires : goal.known_at-place-requires
known_at-place-requires g c κs = let k = c.requires in ((refl, tt), (omega arith, header_stands c.args.payload.now c.args.op k.0 (k.1, k.2, k.3)))

pub known_body-requires-clause-within : goal.known_body-requires-clause-within
known_body-requires-clause-within g c =
    let src = c.args.payload.now in
    let k = c.requires in
    let x = c.known_at-place in
    let found = found_there reply_header src 0 x.result x.ensures (header_stands src c.args.op k.0 (k.1, k.2, k.3)) in
    ends_within (reply_header.items x.result.0) src 0 x.result.1 (omega arith) found.1

pub known_body-requires-clause-stands : goal.known_body-requires-clause-stands
known_body-requires-clause-stands g c =
    let src = c.args.payload.now in
    let k = c.requires in
    let x = c.known_at-place in
    let h = x.result.0 in
    let found = found_there reply_header src 0 x.result x.ensures (header_stands src c.args.op k.0 (k.1, k.2, k.3)) in
    stands_behind src h x.result.1 found c.args.op k.0 (k.1, k.2, k.3) (sym (to_z-of_z w32 h.err found.0.1.1.1.0) ∙ c.in-None.ensures.none)

pub returns : goal.returns
returns g c = λ s fits sent is.
    let src = c.args.payload.now in
    let x = c.known_at-place in
    let h = x.result.0 in
    let place = x.result.1 in
    let found = found_there reply_header src 0 x.result x.ensures (header_stands src c.args.op s (fits, sent, is)) in
    let err = to_z-of_z w32 h.err found.0.1.1.1.0 in
    elim c.match-new.branch [
      | in-Some w ↦
          let e = w.in-Some.ensures.some in
          rw (to_z-of_z w32 h.xid found.0.1.0, to_z-of_z w64 h.zxid found.0.1.1.0, w.outcome-is) (is_failed src h place found c.args.op w.in-Some.failure (λ z. e.1 (sym e.0 ∙ z)) (e.0 ∙ err) s (fits, sent, is))
      | in-None w ↦
          rw (to_z-of_z w32 h.xid found.0.1.0, to_z-of_z w64 h.zxid found.0.1.1.0, w.outcome-is) (is_done src h place found c.args.op (sym err ∙ w.in-None.ensures.none) w.known_body.result w.known_body.ensures s (fits, sent, is))
    ]
