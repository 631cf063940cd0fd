use Rattle.std.proofs.Common.{refl, arith}
use Rattle.std.specs.Int.{w64}
use Rattle.std.proofs.lemmas.Int.{to_z-of_z}
use Rattle.zk_records.specs.Records.{reply_header, watcher_event}
use Rattle.zk_asks.proofs.Knowing.{found_there, ends_within}
use Rattle.zk_answers.proofs.Knowing.{event_header_stands, event_stands, event_is_it}
use Rattle.zk_answers.proofs.known.event_ref.Goals as goal

pub known_at-place-requires : goal.known_at-place-requires
known_at-place-requires c κs = let s = c.requires in ((refl, tt), (omega arith, event_header_stands c.args.payload.now s.0 (s.1, s.2, s.3)))

pub known_at-event-requires : goal.known_at-event-requires
known_at-event-requires c κs =
    let src = c.args.payload.now in
    let s = c.requires in
    let x = c.known_at-place in
    let found = found_there reply_header src 0 x.result x.ensures (event_header_stands src s.0 (s.1, s.2, s.3)) in
    ((refl, tt), (ends_within (reply_header.items x.result.0) src 0 x.result.1 (omega arith) found.1, event_stands src x.result.0 x.result.1 found s.0 (s.1, s.2, s.3)))

pub returns : goal.returns
returns c = λ s is_event sent is.
    let src = c.args.payload.now in
    let x = c.known_at-place in
    let h = x.result.0 in
    let e = c.known_at-event in
    let found = found_there reply_header src 0 x.result x.ensures (event_header_stands src s (is_event, sent, is)) in
    let event = found_there watcher_event src x.result.1 e.result e.ensures (event_stands src h x.result.1 found s (is_event, sent, is)) in
    rw (to_z-of_z w64 h.zxid found.0.1.1.0) (event_is_it src h x.result.1 found e.result.0 e.result.1 event.0 event.1 s (is_event, sent, is))
