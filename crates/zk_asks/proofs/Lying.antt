-- Parts that lie in a payload: what stands there is their value, and where they are passed.
use Rattle.std.proofs.Common.{◌≡◌, ℕ, ◌+◌, ◌≤◌, ◌<◌, List, [], ◌∷◌, ◌++◌, length, drop, Some, Ok, refl, sym, ap, subst, ◌∙◌, arith, to_z, of_z}
use Rattle.std.specs.Prelude.{ℤ, negsuc, false, Option, None, MatchOption, map, slice_get, get_or, ◌≢◌}
use Rattle.std.specs.{Int.w32, List.flat_map, Option.option_map}
use Rattle.std.proofs.lemmas.Int.{to_z-of_z}
use Rattle.std.proofs.lemmas.List.{append-nil, length-drop, length-map, drop-drop, get_or-drop}
use Rattle.std.proofs.lemmas.Option.{slice_get_past, slice_get-map, slice_get-get_or}
use Rattle.zk_jute.specs.{Item.Item, Item.AnInt, Item.ABoolean, Item.bytes_of, Item.HaveBytes, Layout.IsValueOf, Told.StandsAt, Standing.OneStands}
use Rattle.zk_jute.specs.Reading.{Read, ◌>>=◌, read_map, int_at, items_at}
use Rattle.zk_jute.specs.Wired.{int, ustring, buffer, vector, ◌and◌}
use Rattle.zk_jute.specs.Shown.{text_value, blob_value, list_value, both_at, text_is_value, Stretch, Begins, AreThere, values_at}
use Rattle.zk_jute.proofs.{Layouts.items_again, Layouts.have_both, Layouts.have_parts, Sequels.stands_then, Sequels.none_left, Stretches.stands_split, Stretches.values_counted, Stretches.one_passed}
use Rattle.zk_jute.proofs.Valued.{IsValued, int_valued, blob_valued, both_valued, list_valued, value_read, recast}
use Rattle.zk_records.specs.Records.{multi_header, acl, create_ask, delete_ask, set_data_ask, check_ask}
use Rattle.zk_records.specs.{Shown.acl_value, Shown.acl_is_value, Codes.op_number, Codes.part_number, declared.header.MultiHeader.MultiHeader, declared.op.PartOp.PartOp}
use Rattle.zk_records.proofs.Numbers.{part_number_apart}
use Rattle.zk_records.specs.declared.op.PartOp.TheVariants as parts
use Rattle.zk_asks.specs.{Held.Part, Held.Ask, Codes.IsAllowed, Forms.header_items, Rows.op_of_ask, Rows.body_items, Frames.IsSent, Frames.payload, Multi.AreHeaded}
use Rattle.zk_asks.specs.declared.frame.ClientFrameOf.TheVariants as frame
use Rattle.zk_asks.specs.declared.frame.PartOf.TheVariants as part
use Rattle.zk_asks.specs.Parts.{part_row, part_layout, part_header, end_header, marked, op_of_part, record_of, part_items, multi_items}
use Rattle.zk_records.specs.Made as made
use Rattle.zk_asks.specs.Shown.{create_value, delete_value, set_data_value, check_value, part_numbered, record_value, part_value}
use Rattle.zk_asks.proofs.{Knowing.IsThe, Parts.IsMade, Parts.part_made, Parts.record_is, Parted.not_end, Parted.nine}

-- ---- the records

module _ (src : List ℕ) where
  create_valued : IsValued create_ask src (create_value src)
  create_valued place =
      let rights = list_valued acl src acl_value (acl_is_value src) in
      let third = both_valued (vector acl) int src (list_value acl_value src) (int_at src) rights (int_valued src) in
      let second = both_valued buffer (vector acl and int) src (blob_value src) (both_at (list_value acl_value src) (int_at src)) (blob_valued src) third in
      let value = both_at (blob_value src) (both_at (list_value acl_value src) (int_at src)) in
      both_valued ustring (buffer and (vector acl and int)) src (text_value src) value (text_is_value src) second place
      ∙ recast (ustring and (buffer and (vector acl and int))) create_ask.items made.create_ask (λ p. refl) (both_at (text_value src) value place)

  delete_valued : IsValued delete_ask src (delete_value src)
  delete_valued place =
      both_valued ustring int src (text_value src) (int_at src) (text_is_value src) (int_valued src) place ∙ recast (ustring and int) delete_ask.items made.delete_ask (λ p. refl) (both_at (text_value src) (int_at src) place)

  set_data_valued : IsValued set_data_ask src (set_data_value src)
  set_data_valued place =
      let value = both_at (blob_value src) (int_at src) in
      both_valued ustring (buffer and int) src (text_value src) value (text_is_value src) (both_valued buffer int src (blob_value src) (int_at src) (blob_valued src) (int_valued src)) place
      ∙ recast (ustring and (buffer and int)) set_data_ask.items made.set_data_ask (λ p. refl) (both_at (text_value src) value place)

  check_valued : IsValued check_ask src (check_value src)
  check_valued place = both_valued ustring int src (text_value src) (int_at src) (text_is_value src) (int_valued src) place ∙ recast (ustring and int) check_ask.items made.check_ask (λ p. refl) (both_at (text_value src) (int_at src) place)

  record_there : (p : Part) (place end : ℕ) → items_at (part_layout (op_of_part p)) src place ≡ Ok (record_of p, end) → record_value (Some (op_of_part p)) src place ≡ Ok (p, end)
  record_there (part.Create a) place end e = ap (read_map part.Create) (value_read create_ask (create_value src place) (items_at create_ask.layout src place) a end (create_valued place) e)
  record_there (part.Delete a) place end e = ap (read_map part.Delete) (value_read delete_ask (delete_value src place) (items_at delete_ask.layout src place) a end (delete_valued place) e)
  record_there (part.SetData a) place end e = ap (read_map part.SetData) (value_read set_data_ask (set_data_value src place) (items_at set_data_ask.layout src place) a end (set_data_valued place) e)
  record_there (part.Check a) place end e = ap (read_map part.Check) (value_read check_ask (check_value src place) (items_at check_ask.layout src place) a end (check_valued place) e)

-- ---- a record that is known to be there

-- which operation's part this kind is the number of, if it is one's
abbrev IsOpOf : ℤ → Option PartOp → Type 0
IsOpOf kind o = MatchOption o ((op : PartOp) → to_z w32 (of_z w32 kind) ≢ part_number op) (λ op. to_z w32 (of_z w32 kind) ≡ part_number op)

module _ (src : List ℕ) (place : ℕ) where
  pub record_known : {a b : PartOp} → a ≡ b → OneStands (part_row a).wired.items src place → OneStands (part_row b).wired.items src place
  record_known e h = subst (λ (op : PartOp). OneStands (part_row op).wired.items src place) e h

  pub record_made : (op : PartOp) (x : (part_row op).Content × ℕ) → IsThe (part_row op).wired.items src place x
      → (p : Part) (end : ℕ) → op_of_part p ≡ op → HaveBytes (record_of p) → StandsAt (record_of p) src place end → ◌≡◌ {A = Part × ℕ} ((part_row op).make x.0, x.1) (p, end)
  record_made op x is p end of have stands =
      let m : IsMade op p = subst (λ (o : PartOp). IsMade o p) of (part_made p) in
      let same = is m.0 end (subst HaveBytes (sym m.2) have) (subst (λ (i : List Item). StandsAt i src place end) (sym m.2) stands) in
      ap (λ (z : (part_row op).Content × ℕ). ((part_row op).make z.0, z.1)) same ∙ ap (λ (q : Part). (q, end)) m.1

-- ---- a part

numbered : (op : PartOp) → part_numbered (part_number op) ≡ Some op
numbered parts.Create = refl
numbered _ = refl

module _ (p : Part) (src : List ℕ) (place end : ℕ) (le : place ≤ length src) (have : HaveBytes (part_items p)) (stands : StandsAt (part_items p) src place end) where
  abbrev op : PartOp
  op = op_of_part p

  -- the number in front
  number_there : int_at src place ≡ Ok (part_number op, place + length (bytes_of (AnInt (part_number op) ∷ [])))
  number_there =
      let one = AnInt (part_number op) ∷ [] in
      let s = stands_split one ((ABoolean false ∷ AnInt (negsuc 0) ∷ []) ++ record_of p) src place end le stands in
      let h = have_parts one ((ABoolean false ∷ AnInt (negsuc 0) ∷ []) ++ record_of p) have in
      let after = place + length (bytes_of one) in
      value_read int (int_at src place) (items_at int.layout src place) (part_number op) after (int_valued src place) (items_again int.layout src one (drop after src) place (int.unfolds (part_number op)) h.0 le s.0.0)

  pub header_there : StandsAt (marked (part_header op)) src place (place + 9)
  header_there =
      let s = stands_split (marked (part_header op)) (record_of p) src place end le stands in
      subst (λ (n : ℕ). StandsAt (marked (part_header op)) src place (place + n)) (nine (part_header op)) s.0

  pub behind_header : StandsAt (record_of p) src (place + 9) end
  behind_header =
      let s = stands_split (marked (part_header op)) (record_of p) src place end le stands in
      subst (λ (n : ℕ). StandsAt (record_of p) src (place + n) end) (nine (part_header op)) s.1

  record_has : HaveBytes (record_of p)
  record_has = (have_parts (marked (part_header op)) (record_of p) have).1

  pub mark_stands : OneStands multi_header.items src place
  mark_stands = (part_header op, place + 9, (have_parts (marked (part_header op)) (record_of p) have).0, header_there)

  -- behind the header that is known to be there
  module _ (x : MultiHeader × ℕ) (is : IsThe marked src place x) where
    header_is : x ≡ (part_header op, place + 9)
    header_is = is (part_header op) (place + 9) (have_parts (marked (part_header op)) (record_of p) have).0 header_there

    number_is : to_z w32 (of_z w32 x.0.kind) ≡ part_number op
    number_is = ap (λ (z : MultiHeader × ℕ). to_z w32 (of_z w32 z.0.kind)) header_is ∙ to_z-of_z w32 (part_number op) have.0

    pub op_there : (o : Option PartOp) → IsOpOf x.0.kind o → o ≡ Some op
    op_there None told = absurd (told op number_is)
    op_there (Some q) told = ap Some (part_number_apart q op (sym told ∙ number_is))

    after_is : x.1 ≡ place + 9
    after_is = ap (λ (z : MultiHeader × ℕ). z.1) header_is

    -- the part's record
    pub own_behind : HaveBytes (record_of p) × StandsAt (record_of p) src x.1 end
    own_behind = (record_has, subst (λ (n : ℕ). StandsAt (record_of p) src n end) (sym after_is) behind_header)

    pub record_behind : (x.1 ≤ length src) × OneStands (part_row op).wired.items src x.1
    record_behind =
        let s = stands_split (marked (part_header op)) (record_of p) src place end le stands in
        let m = part_made p in
        (omega (arith, s.2, nine (part_header op), after_is), (m.0, end, subst HaveBytes (sym m.2) own_behind.0, subst (λ (i : List Item). StandsAt i src x.1 end) (sym m.2) own_behind.1))

  part_there : part_value src place ≡ Ok (p, end)
  part_there =
      let s = stands_split (marked (part_header op)) (record_of p) src place end le stands in
      let h = have_parts (marked (part_header op)) (record_of p) have in
      let b = behind_header in
      let within : place + 9 ≤ length src = omega (arith, s.2, nine (part_header op)) in
      let read = items_again (part_layout op) src (record_of p) (drop end src) (place + 9) (record_is p) h.1 within b.0 in
      let there : items_at (part_layout op) src (place + 9) ≡ Ok (record_of p, end) = read ∙ ap (λ (n : ℕ). Ok (record_of p, n)) (sym b.1) in
      ap (λ (r : Read ℤ). r >>= λ kind. record_value (part_numbered kind.0) src (place + 9)) number_there
      ∙ ap (λ (o : Option PartOp). record_value o src (place + 9)) (numbered op)
      ∙ record_there src p (place + 9) end there

pub part_read : (src : List ℕ) (p : Part) (place end : ℕ) → place ≤ length src → HaveBytes (part_items p) → StandsAt (part_items p) src place end → part_value src place ≡ Ok (p, end)
part_read src p place end le have stands = part_there p src place end le have stands

pub parts_counted : (src : List ℕ) (count place : ℕ) → Begins part_items src count place → length (values_at (part_value src) count place) ≡ count
parts_counted src = values_counted part_items src (part_value src) (part_read src)

pub parts_there : (src : List ℕ) (count place : ℕ) → Begins part_items src count place → AreThere part_items (part_value src) src count place
parts_there src count place all = (all, parts_counted src count place all)

-- ---- parts that were passed

module _ (src : List ℕ) (place at count : ℕ) (so_far : Stretch part_items src place at count) (header : MultiHeader) (after : ℕ) (v : IsValueOf multi_header.layout (marked header)) (s : StandsAt (marked header) src at after) where
  pub part_passed : (op : PartOp) (p : Part) (end : ℕ) → header ≡ part_header op → op_of_part p ≡ op → IsValueOf (part_layout op) (record_of p) → StandsAt (record_of p) src after end → Stretch part_items src place end (count + 1)
  part_passed op p end is same w t =
      let mark = part_header (op_of_part p) in
      let head : header ≡ mark = is ∙ ap part_header (sym same) in
      let have : HaveBytes (part_items p) = have_both (marked mark) (record_of p) (subst (λ (h : MultiHeader). HaveBytes (marked h)) head v.1) w.1 in
      let stands : StandsAt (part_items p) src at end = stands_then (marked mark) (record_of p) src at after end (subst (λ (h : MultiHeader). StandsAt (marked h) src at after) head s) t in
      one_passed part_items src place at end count so_far p have stands

  -- what is found, once the end is passed
  pub all_found : header ≡ end_header → (ds : List Part) × (length ds ≡ count) × HaveBytes (multi_items ds) × StandsAt (multi_items ds) src place after
  all_found is =
      let ps = so_far.values in
      let have = have_both (flat_map part_items ps) (marked end_header) so_far.have (subst (λ (h : MultiHeader). HaveBytes (marked h)) is v.1) in
      let stands = stands_then (flat_map part_items ps) (marked end_header) src place at after so_far.stands (subst (λ (h : MultiHeader). StandsAt (marked h) src at after) is s) in
      (ps, sym so_far.count_is, have, stands)

-- a header, a body and nothing else
pub ask_sent : (src : List ℕ) (xid kind : ℤ) (after end : ℕ) (a : Ask) → HaveBytes (header_items xid kind) → StandsAt (header_items xid kind) src 0 after → kind ≡ op_number (op_of_ask a) → IsAllowed xid (op_of_ask a)
    → HaveBytes (body_items a) → StandsAt (body_items a) src after end → length src ≤ end → IsSent (frame.Ask xid a) × (src ≡ payload (frame.Ask xid a))
ask_sent src xid kind after end a have s is may has t all =
    let items = header_items xid (op_number (op_of_ask a)) in
    let head = subst (λ (k : ℤ). HaveBytes (header_items xid k)) is have in
    let opens = subst (λ (k : ℤ). StandsAt (header_items xid k) src 0 after) is s in
    let both = stands_then items (body_items a) src 0 after end opens t in
    let none = none_left src end all in
    ((may, have_both items (body_items a) head has), both.0 ∙ ap (λ (b : List ℕ). bytes_of (items ++ body_items a) ++ b) none ∙ append-nil (bytes_of (items ++ body_items a)))

-- a walk over the parts: what is left behind the next, and the part at a place
module _ (ps : List Part) (k : ℕ) where
  pub one_less : (p : Part) (left : List Part) → drop k ps ≡ p ∷ left → left ≡ drop (k + 1) ps
  one_less p left e = ap (drop 1) (sym e) ∙ drop-drop 1 k ps

  pub none_at : (j : ℕ) → drop k ps ≡ [] → k ≤ j → None ≡ slice_get (map op_of_part ps) j
  none_at j e l = sym (slice_get_past (map op_of_part ps) j (omega (arith, l, ap length e, length-drop k ps, length-map ps op_of_part)))

  pub op_at : (p : Part) (left : List Part) → drop k ps ≡ p ∷ left → Some (op_of_part p) ≡ slice_get (map op_of_part ps) k
  op_at p left e =
      let ahead : k < length ps = omega (arith, ap length e, length-drop k ps) in
      let none : k + 0 ≡ k = omega arith in
      let first : get_or ps k p ≡ p = sym (get_or-drop k ps 0 p ∙ ap (λ (n : ℕ). get_or ps n p) none) ∙ ap (λ (z : List Part). get_or z 0 p) e in
      sym (slice_get-map op_of_part ps k ∙ ap (option_map op_of_part) (slice_get-get_or ps k p ahead ∙ ap Some first))

-- ---- what is known of each part

pub parts_headed : AreHeaded part_items
parts_headed p = (part_header (op_of_part p), record_of p, refl, not_end (op_of_part p))
