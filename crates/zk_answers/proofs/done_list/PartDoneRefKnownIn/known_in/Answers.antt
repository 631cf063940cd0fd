use Rattle.std.proofs.Common.{Ok, refl, sym, ap, ◌∙◌}
use Rattle.std.specs.Int.{w32}
use Rattle.std.proofs.lemmas.Int.{to_z-of_z}
use Rattle.std.specs.Prelude.{◌≢◌}
use Rattle.zk_jute.specs.Wired.{int}
use Rattle.zk_records.specs.{declared.op.PartOp.PartOp, Codes.part_number, Records.multi_header}
use Rattle.zk_asks.proofs.Knowing.{found_there}
use Rattle.zk_answers.proofs.Lying.{number_only, error_there, mark_stands, own_there, result_there, done_read}
use Rattle.zk_answers.proofs.done_list.PartDoneRefKnownIn.known_in.Goals as goal

pub known_at-after-requires : goal.known_at-after-requires
known_at-after-requires c κs = let d = c.requires.known in ((refl, tt), (c.requires.place, mark_stands c.args.payload.now d.0 c.args.place d.1 c.requires.place d.2 d.3))

pub result_in-requires : goal.result_in-requires
result_in-requires c =
    let src = c.args.payload.now in
    let d = c.requires.known in
    let x = c.known_at-after in
    let h = x.result in
    let f = found_there multi_header src c.args.place h x.ensures (mark_stands src d.0 c.args.place d.1 c.requires.place d.2 d.3) in
    let kind = sym (to_z-of_z w32 h.0.kind f.0.1.0) ∙ c.in-Some.ensures in
    record {
      place = (own_there src d.0 c.args.place d.1 c.requires.place d.2 d.3 h.0 h.1 f.0 f.1 c.in-Some.op kind).3;
      known = result_there src d.0 c.args.place d.1 c.requires.place d.2 d.3 h.0 h.1 f.0 f.1 c.in-Some.op kind;
    }

pub known_at-number-requires : goal.known_at-number-requires
known_at-number-requires c κs =
    let src = c.args.payload.now in
    let d = c.requires.known in
    let x = c.known_at-after in
    let h = x.result in
    let f = found_there multi_header src c.args.place h x.ensures (mark_stands src d.0 c.args.place d.1 c.requires.place d.2 d.3) in
    ((refl, tt), error_there src d.0 c.args.place d.1 c.requires.place d.2 d.3 h.0 h.1 f.0 f.1 (λ op k. c.in-None.ensures op (to_z-of_z w32 h.0.kind f.0.1.0 ∙ k)))

pub returns-in-Some-clause-only : goal.returns-in-Some-clause-only
returns-in-Some-clause-only c = λ d end have stands.
    let src = c.args.payload.now in
    let x = c.known_at-after in
    let h = x.result in
    let f = found_there multi_header src c.args.place h x.ensures (mark_stands src d c.args.place end c.requires.place have stands) in
    let kind = sym (to_z-of_z w32 h.0.kind f.0.1.0) ∙ c.in-Some.ensures in
    let own = own_there src d c.args.place end c.requires.place have stands h.0 h.1 f.0 f.1 c.in-Some.op kind in
    c.result_in.ensures d end own.0 own.1 own.2

pub returns-in-None-clause-only : goal.returns-in-None-clause-only
returns-in-None-clause-only c = λ d end have stands.
    let src = c.args.payload.now in
    let x = c.known_at-after in
    let h = x.result in
    let f = found_there multi_header src c.args.place h x.ensures (mark_stands src d c.args.place end c.requires.place have stands) in
    let not : (op : PartOp) → h.0.kind ≢ part_number op = λ op k. c.in-None.ensures op (to_z-of_z w32 h.0.kind f.0.1.0 ∙ k) in
    let n = c.known_at-number in
    let g = found_there int src h.1 n.result n.ensures (error_there src d c.args.place end c.requires.place have stands h.0 h.1 f.0 f.1 not).1 in
    rw (to_z-of_z w32 n.result.0 g.0.1.0) (number_only src d c.args.place end c.requires.place have stands h.0 h.1 f.0 f.1 not n.result.0 n.result.1 g.0.1 g.1)

pub returns-in-Some-clause-value : goal.returns-in-Some-clause-value
returns-in-Some-clause-value c = let d = c.requires.known in done_read c.args.payload.now d.0 c.args.place d.1 c.requires.place d.2 d.3 ∙ ap Ok (sym (returns-in-Some-clause-only c d.0 d.1 d.2 d.3))

pub returns-in-None-clause-value : goal.returns-in-None-clause-value
returns-in-None-clause-value c = let d = c.requires.known in done_read c.args.payload.now d.0 c.args.place d.1 c.requires.place d.2 d.3 ∙ ap Ok (sym (returns-in-None-clause-only c d.0 d.1 d.2 d.3))
