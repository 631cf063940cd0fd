-- A request has no more parts than its payload has bytes.
use Rattle.std.proofs.Common.{◌≡◌, ℤ, ◌<◌, ◌≤◌, List, [], ◌∷◌, ◌++◌, length, refl, ap, ◌∙◌, arith, append_assoc, length-append}
use Rattle.std.specs.List.{flat_map}
use Rattle.std.proofs.lemmas.List.{length-map}
use Rattle.zk_jute.specs.Item.{Item, AnInt, ABoolean, item_bytes, bytes_of}
use Rattle.zk_jute.proofs.Layouts.{bytes_both}
use Rattle.zk_records.specs.{declared.header.MultiHeader.MultiHeader, Codes.op_number}
use Rattle.zk_asks.specs.{Held.Part, Held.Ask, Forms.header_items, Rows.body_items, Rows.op_of_ask, Frames.parts_of_ask, Frames.ops_of_ask, Frames.payload}
use Rattle.zk_asks.specs.declared.frame.AskOf.TheVariants as ask
use Rattle.zk_asks.specs.declared.frame.ClientFrameOf.TheVariants as frame
use Rattle.zk_asks.specs.Parts.{marked, part_header, end_header, op_of_part, record_of, part_items}

-- each part has a byte
pub parts_long : (ps : List Part) (more : List Item) → length ps ≤ length (bytes_of (flat_map part_items ps ++ more))
parts_long [] more = omega arith
parts_long (p ∷ ps) more =
    let mark = marked (part_header (op_of_part p)) in
    let rest = record_of p ++ (flat_map part_items ps ++ more) in
    let split : flat_map part_items (p ∷ ps) ++ more ≡ mark ++ rest = append_assoc (mark ++ record_of p) (flat_map part_items ps) more ∙ append_assoc mark (record_of p) (flat_map part_items ps ++ more) in
    let bytes = ap bytes_of split ∙ bytes_both mark rest ∙ ap (λ z. bytes_of mark ++ z) (bytes_both (record_of p) (flat_map part_items ps ++ more)) in
    let some : 0 < length (bytes_of mark) = mark_long (part_header (op_of_part p)) in
    omega (arith, some, ap length bytes, length-append (bytes_of mark) (bytes_of (record_of p) ++ bytes_of (flat_map part_items ps ++ more)), length-append (bytes_of (record_of p)) (bytes_of (flat_map part_items ps ++ more)), parts_long ps more)
  where
    mark_long : (h : MultiHeader) → 0 < length (bytes_of (marked h))
    mark_long h = omega (arith, length-append (item_bytes (AnInt h.kind)) (bytes_of (ABoolean h.done ∷ AnInt h.err ∷ [])), int_long h.kind)
      where
        int_long : (z : ℤ) → length (item_bytes (AnInt z)) ≡ 4
        int_long z = refl

pub few_parts : (xid : ℤ) (a : Ask) → length (ops_of_ask a) ≤ length (payload (frame.Ask xid a))
few_parts xid a =
    let head = header_items xid (op_number (op_of_ask a)) in
    omega (arith, length-map (parts_of_ask a) op_of_part, in_body a, ap length (bytes_both head (body_items a)), length-append (bytes_of head) (bytes_of (body_items a)))
  where
    in_body : (a : Ask) → length (parts_of_ask a) ≤ length (bytes_of (body_items a))
    in_body (ask.Multi ps) = parts_long ps (marked end_header)
    in_body _ = omega arith
