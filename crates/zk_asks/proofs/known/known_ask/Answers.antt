use Rattle.std.proofs.Common.{◌≡◌, ℤ, Option, Some, None, to_z, of_z, refl, sym, ◌∙◌, arith}
use Rattle.std.specs.Prelude.{MatchOption}
use Rattle.std.specs.{Option.IsSome, Int.w32}
use Rattle.std.proofs.lemmas.Int.{to_z-of_z}
use Rattle.zk_records.specs.{Codes.HasOp, Codes.IsNoOp, Codes.op_number, declared.op.Op.Op}
use Rattle.zk_records.proofs.Numbers.{newest_has}
use Rattle.zk_records.specs.declared.profile.TheConstants.{NEWEST}
use Rattle.zk_asks.proofs.Knowing.{of_some, ask_header, ask_front, ask_op, ask_body, ask_is}
use Rattle.zk_asks.proofs.known.known_ask.Goals as goal

pub known_at-place-requires : goal.known_at-place-requires
known_at-place-requires g c κs = let f = c.requires in ((refl, tt), (omega arith, ask_header c.args.payload.now f.0 (f.1, f.2, f.3)))

some_op : (o : Option Op) (kind : ℤ) → MatchOption o (IsNoOp NEWEST kind) (λ op. HasOp NEWEST op × (kind ≡ op_number op)) → (op : Op) → kind ≡ op_number op → IsSome o
some_op (Some op) kind told p e = refl
some_op None kind told p e = absurd (told p (newest_has p) e)

pub unwrap-op-requires : goal.unwrap-op-requires
unwrap-op-requires g c =
    let f = c.requires in
    let x = c.known_at-place in
    let front = ask_front c.args.payload.now x.result x.ensures f.0 (f.1, f.2, f.3) in
    let op = ask_op c.args.payload.now x.result.0 x.result.1 front.0 front.1 f.0 (f.1, f.2, f.3) in
    some_op c.op_of.result (to_z w32 (of_z w32 x.result.0.kind)) c.op_of.ensures op.0 (to_z-of_z w32 x.result.0.kind front.0.1.1.0 ∙ op.1)

pub body_there-ask-requires : goal.body_there-ask-requires
body_there-ask-requires g c =
    let f = c.requires in
    let x = c.known_at-place in
    let front = ask_front c.args.payload.now x.result x.ensures f.0 (f.1, f.2, f.3) in
    let kind = sym (to_z-of_z w32 x.result.0.kind front.0.1.1.0) ∙ (of_some _ _ c.op_of.result c.unwrap-op.result c.unwrap-op.ensures c.op_of.ensures).1 in
    record { within = front.2; stands = ask_body c.args.payload.now x.result.0 x.result.1 front.0 front.1 c.unwrap-op.result kind f.0 (f.1, f.2, f.3) front.2 }

pub returns : goal.returns
returns g c = λ f later sent is.
    let x = c.known_at-place in
    let front = ask_front c.args.payload.now x.result x.ensures f (later, sent, is) in
    let kind = sym (to_z-of_z w32 x.result.0.kind front.0.1.1.0) ∙ (of_some _ _ c.op_of.result c.unwrap-op.result c.unwrap-op.ensures c.op_of.ensures).1 in
    rw (to_z-of_z w32 x.result.0.xid front.0.1.0) (ask_is c.args.payload.now x.result.0 x.result.1 front.0 front.1 c.unwrap-op.result kind front.2 f (later, sent, is) c.body_there-ask.result c.body_there-ask.ensures)
