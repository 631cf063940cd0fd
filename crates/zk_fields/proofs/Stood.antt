-- What a walk meets stands in the payload, from its place on.
use Rattle.std.proofs.Common.{◌≡◌, ℕ, zero, suc, ◌≤◌, ℤ, List, [], ◌∷◌, ◌++◌, length, refl, sym, ap, subst, ◌∙◌}
use Rattle.std.specs.Prelude.{Option, Some, None, Ok, Err, Bool}
use Rattle.std.proofs.lemmas.List.{append-nil}
use Rattle.zk_jute.specs.Item.{Kind, Item, AnInt, ACount, HaveBytes, HasBytes, bytes_of, item_bytes}
use Rattle.zk_jute.specs.Layout.{One, End}
use Rattle.zk_jute.specs.Reading.{Read, int_at, bool_at, size_at, items_at, ◌>>=◌}
use Rattle.zk_jute.proofs.{Steps.IsBytes, Steps.BytesAt, Steps.BytesAt-none, Steps.BytesAt-then, Steps.bind_ok, Runs.int_found, Runs.size_found, Primitives.bool_found, Layouts.have_both, Layouts.bytes_both, Layouts.items_found}
use Rattle.zk_records.specs.{declared.header.MultiHeader.MultiHeader, Records.multi_header}
use Rattle.zk_fields.specs.{declared.payload_fields.Headed.Headed, Fields.Entry, Fields.Under, Fields.Head, Fields.entry_items, Fields.items_of, Heads.OfHead, Heads.headed_shape, Rows.Content, Rows.Fields, Rows.Heads}
use Rattle.zk_fields.specs.Named.{Shape, Nothing, An, Both, Many, named_same, items_both}
use Rattle.zk_fields.specs.Walks.{Met, none_met, item_met, met_then, behind, times_met, count_met, list_met, walk, header_at, under, headed, head_met, content_met}

-- the entries' bytes stand there, up to this place, which is where the walk ends
pub record Stood (src : List ℕ) (place : ℕ) (m : Met) : Type 0 where
  pub stop : ℕ
  pub have : HaveBytes (items_of m.entries)
  pub stands : BytesAt (bytes_of (items_of m.entries)) src place stop
  pub ends : (p : ℕ) → m.end ≡ Some p → p ≡ stop

stood_nothing : (src : List ℕ) (place : ℕ) (end : Option ℕ) → place ≤ length src → ((p : ℕ) → end ≡ Some p → p ≡ place) → Stood src place (record { entries = []; end = end })
stood_nothing src place end le at = record { stop = place; have = tt; stands = BytesAt-none src place le; ends = at }

stood_none : (src : List ℕ) (place : ℕ) → place ≤ length src → Stood src place none_met
stood_none src place le = stood_nothing src place None le (λ p e. absurd (cc))

stood_end : (src : List ℕ) (place : ℕ) → place ≤ length src → Stood src place (record { entries = []; end = Some place })
stood_end src place le = stood_nothing src place (Some place) le (λ p e. cc)

stood_behind : (src : List ℕ) (place stop : ℕ) (es : List Entry) (m : Met) → HaveBytes (items_of es) → BytesAt (bytes_of (items_of es)) src place stop → Stood src stop m → Stood src place (record { entries = es ++ m.entries; end = m.end })
stood_behind src place stop es m have stands s = record {
  stop = s.stop;
  have = subst HaveBytes (sym (items_both es m.entries)) (have_both (items_of es) (items_of m.entries) have s.have);
  stands = subst (λ (bytes : List ℕ). BytesAt bytes src place s.stop) (sym (ap bytes_of (items_both es m.entries) ∙ bytes_both (items_of es) (items_of m.entries))) (BytesAt-then stands s.stands);
  ends = s.ends;
}

behind_stood : (src : List ℕ) (place stop : ℕ) (es : List Entry) (end : Option ℕ) (f : ℕ → Met) → HaveBytes (items_of es) → BytesAt (bytes_of (items_of es)) src place stop → ((p : ℕ) → end ≡ Some p → p ≡ stop) → Stood src stop (f stop)
    → Stood src place (behind es end f)
behind_stood src place stop es None f have stands ends s = record { stop = stop; have = have; stands = stands; ends = λ p e. absurd (cc) }
behind_stood src place stop es (Some p) f have stands ends s = rw (ends p refl) (stood_behind src place stop es (f stop) have stands s)

then_stood : (src : List ℕ) (place : ℕ) (m : Met) (f : ℕ → Met) → Stood src place m → ((p : ℕ) → p ≤ length src → Stood src p (f p)) → Stood src place (met_then m f)
then_stood src place m f s others = behind_stood src place s.stop m.entries m.end f s.have s.stands s.ends (others s.stop s.stands.within)

times_stood : (src : List ℕ) (f : ℕ → Met) → ((p : ℕ) → p ≤ length src → Stood src p (f p)) → (n place : ℕ) → place ≤ length src → Stood src place (times_met f n place)
times_stood src f each zero place le = stood_end src place le
times_stood src f each (suc n) place le = then_stood src place (f place) (times_met f n) (each place le) (times_stood src f each n)

item_stood : (name : ℕ) (kind : Kind) (src : List ℕ) (place : ℕ) (read : Read (List Item)) → IsBytes src → place ≤ length src → items_at (One kind End) src place ≡ read → Stood src place (item_met name read)
item_stood name kind src place (Err f) fits le e = stood_none src place le
item_stood name kind src place (Ok x) fits le e =
    let found = items_found (One kind End) src fits place x le e in
    record {
      stop = x.1;
      have = subst HaveBytes (sym (named_same name x.0)) found.have;
      stands = subst (λ (items : List Item). BytesAt (bytes_of items) src place x.1) (sym (named_same name x.0)) found.stands;
      ends = λ p e. cc;
    }

-- one item's bytes, alone
alone : (e : Entry) (i : Item) (src : List ℕ) (place stop : ℕ) → entry_items e ≡ i ∷ [] → HasBytes i → BytesAt (item_bytes i) src place stop → HaveBytes (items_of (e ∷ [])) × BytesAt (bytes_of (items_of (e ∷ []))) src place stop
alone e i src place stop is has stands =
    let items : items_of (e ∷ []) ≡ i ∷ [] = append-nil (entry_items e) ∙ is in
    (subst HaveBytes (sym items) (has, tt), subst (λ (z : List Item). BytesAt (bytes_of z) src place stop) (sym items) (rw append-nil stands))

count_stood : (name : ℕ) (src : List ℕ) (place : ℕ) (f : ℕ → Met) (x : Option ℕ × ℕ) → HasBytes (ACount x.0) → BytesAt (item_bytes (ACount x.0)) src place x.1 → ((p : ℕ) → p ≤ length src → Stood src p (f p)) → Stood src place (count_met name f x)
count_stood name src place f (None, after) has stands each =
    let one = alone (Under name (ACount None)) (ACount None) src place after refl has stands in
    record { stop = after; have = one.0; stands = one.1; ends = λ p e. cc }
count_stood name src place f (Some n, after) has stands each =
    let one = alone (Under name (ACount (Some n))) (ACount (Some n)) src place after refl has stands in
    stood_behind src place after (Under name (ACount (Some n)) ∷ []) (times_met f n after) one.0 one.1 (times_stood src f each n after stands.within)

list_stood : (name : ℕ) (src : List ℕ) (place : ℕ) (f : ℕ → Met) (read : Read (Option ℕ)) → IsBytes src → place ≤ length src → size_at src place ≡ read → ((p : ℕ) → p ≤ length src → Stood src p (f p)) → Stood src place (list_met name f read)
list_stood name src place f (Err e) fits le is each = stood_none src place le
list_stood name src place f (Ok x) fits le is each =
    let size = size_found src place x fits le is in
    count_stood name src place f x size.has_bytes size.stands each

walk_stood : (s : Shape) (src : List ℕ) (place : ℕ) → IsBytes src → place ≤ length src → Stood src place (walk s src place)
walk_stood Nothing src place fits le = stood_end src place le
walk_stood (An name kind) src place fits le = item_stood name kind src place (items_at (One kind End) src place) fits le refl
walk_stood (Both a b) src place fits le = then_stood src place (walk a src place) (walk b src) (walk_stood a src place fits le) (λ p within. walk_stood b src p fits within)
walk_stood (Many name s) src place fits le = list_stood name src place (walk s src) (size_at src place) fits le refl (λ p within. walk_stood s src p fits within)

-- ---- the parts and the results of a multi

head_found : (src : List ℕ) (place : ℕ) (x : MultiHeader × ℕ) → IsBytes src → place ≤ length src → header_at src place ≡ Ok x → HaveBytes (multi_header.items x.0) × BytesAt (bytes_of (multi_header.items x.0)) src place x.1
head_found src place x fits le e =
    let a = bind_ok (int_at src place) (λ (kind : ℤ × ℕ). bool_at src kind.1 >>= λ (done : Bool × ℕ). int_at src done.1 >>= λ (err : ℤ × ℕ). Ok (record { kind = kind.0; done = done.0; err = err.0 }, err.1)) x e in
    let b = bind_ok (bool_at src a.0.1) (λ (done : Bool × ℕ). int_at src done.1 >>= λ (err : ℤ × ℕ). Ok (record { kind = a.0.0; done = done.0; err = err.0 }, err.1)) x a.2 in
    let d = bind_ok (int_at src b.0.1) (λ (err : ℤ × ℕ). Ok (record { kind = a.0.0; done = b.0.0; err = err.0 }, err.1)) x b.2 in
    let kind = (int_found src place a.0 fits le a.1).0 in
    let flag = bool_found src a.0.1 b.0 kind.stands.within b.1 in
    let err = (int_found src b.0.1 d.0 fits flag.stands.within d.1).0 in
    let last : BytesAt (bytes_of (AnInt d.0.0 ∷ [])) src b.0.1 d.0.1 = rw append-nil err.stands in
    let made : MultiHeader × ℕ = (record { kind = a.0.0; done = b.0.0; err = d.0.0 }, d.0.1) in
    let same : made ≡ x = let f = d.2 in cc in
    subst (λ (y : MultiHeader × ℕ). HaveBytes (multi_header.items y.0) × BytesAt (bytes_of (multi_header.items y.0)) src place y.1) {x = made} same
    ((kind.has_bytes, (tt, (err.has_bytes, tt))), BytesAt-then kind.stands (BytesAt-then flag.stands last))

under_stood : (h : MultiHeader) (m : Option Headed) (src : List ℕ) (place after : ℕ) → IsBytes src → place ≤ length src → HaveBytes (multi_header.items h) → BytesAt (bytes_of (multi_header.items h)) src place after → Stood src place (under h m src after)
under_stood h None src place after fits le have stands = stood_none src place le
under_stood h (Some m) src place after fits le have stands =
    let items : items_of (Head h ∷ []) ≡ multi_header.items h = append-nil (multi_header.items h) in
    stood_behind src place after (Head h ∷ []) (walk (headed_shape m) src after) (subst HaveBytes (sym items) have) (subst (λ (z : List Item). BytesAt (bytes_of z) src place after) (sym items) stands) (walk_stood (headed_shape m) src after fits stands.within)

headed_stood : (f : OfHead) (src : List ℕ) (place : ℕ) (read : Read MultiHeader) → IsBytes src → place ≤ length src → header_at src place ≡ read → Stood src place (headed f src read)
headed_stood f src place (Err e) fits le is = stood_none src place le
headed_stood f src place (Ok x) fits le is =
    let head = head_found src place x fits le is in
    under_stood x.0 (f x.0) src place x.1 fits le head.0 head.1

pub content_stood : (c : Content) (src : List ℕ) (place : ℕ) → IsBytes src → place ≤ length src → Stood src place (content_met c src place)
content_stood (Fields s) src place fits le = walk_stood s src place fits le
content_stood (Heads f) src place fits le = times_stood src (head_met f src) (λ p within. headed_stood f src p (header_at src p) fits within refl) (length src) place le
