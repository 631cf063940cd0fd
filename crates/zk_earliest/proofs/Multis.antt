-- A multi request: headers, records and the header behind the last.
use Rattle.std.proofs.Common.{◌≡◌, ℕ, zero, suc, ◌+◌, ◌-◌, ◌^◌, ◌<◌, ◌≤◌, ◌⊎◌, inl, inr, List, [], ◌∷◌, ◌++◌, length, get_or, take, drop, Some, None, Result, Ok, Err, refl, sym, ap, subst, ◌∙◌, arith}
use Rattle.std.proofs.lemmas.List.{length-append, length-drop, take-append-drop, take-append-le, drop-drop, take_at, get_or_append_left}
use Rattle.std.specs.Prelude.{pos}
use Rattle.zk_jute.specs.Item.{Item, Int, Buffer, Ustring, bytes_of}
use Rattle.zk_jute.specs.Layout.{End, One, Each, ◌then◌}
use Rattle.zk_jute.proofs.Layouts.{bytes_both}
use Rattle.zk_records.specs.{Records.acl, Codes.part_number, declared.op.PartOp.PartOp}
use Rattle.zk_records.specs.declared.op.PartOp.TheVariants as parts
use Rattle.zk_records.proofs.Numbers.{part_number_apart}
use Rattle.zk_asks.specs.Parts.{part_layout, part_header, end_header, marked, IsMulti, no_more, a_part}
use Rattle.zk_earliest.specs.{Sizes.IsAmong, Sizes.AreSizes, Sizes.plus, Sizes.nothing, Earliest.Spells, Marks.part_mark, Marks.end_mark, Marks.part_sizes, Marks.multi_sizes, Marks.IsMark, Marks.MayMark, Runs.run_sizes, Runs.list_sizes}
use Rattle.zk_earliest.specs.Stops.{Passes, StopsAt, Reaches, then_among}
use Rattle.zk_earliest.proofs.{Sums.sizes, Sums.at_least, Sums.among_plus, Sums.split_plus, Compose.Chain, Compose.IsAlone, Compose.at_first, Compose.at_second, Compose.at_both, Spelled.Spelling, Spelled.spelled_alone, Spelled.then_sizes}
use Rattle.zk_earliest.proofs.{Fixed.int_sizes, Words.same_byte, Running.text_sizes, Running.blob_sizes, Counts.list_are}

-- ---- the lengths of the records of parts

acl_sizes : AreSizes (Spelling acl.layout) (sizes 12 (Some 0))
acl_sizes = then_sizes (One Int End) (One Ustring End then One Ustring End) (sizes 4 None) (plus run_sizes run_sizes) int_sizes (then_sizes (One Ustring End) (One Ustring End) run_sizes run_sizes text_sizes text_sizes)

pub part_are : (op : PartOp) → AreSizes (Spelling (part_layout op)) (part_sizes op)
part_are parts.Create =
    then_sizes (One Ustring End) (One Buffer End then (Each acl.layout End then One Int End)) run_sizes (plus run_sizes (plus (list_sizes 12) (sizes 4 None))) text_sizes
    (then_sizes (One Buffer End) (Each acl.layout End then One Int End) run_sizes (plus (list_sizes 12) (sizes 4 None)) blob_sizes
    (then_sizes (Each acl.layout End) (One Int End) (list_sizes 12) (sizes 4 None) (list_are acl.layout 12 (omega arith) acl_sizes) int_sizes))
part_are parts.SetData = then_sizes (One Ustring End) (One Buffer End then One Int End) run_sizes (plus run_sizes (sizes 4 None)) text_sizes (then_sizes (One Buffer End) (One Int End) run_sizes (sizes 4 None) blob_sizes int_sizes)
part_are _ = then_sizes (One Ustring End) (One Int End) run_sizes (sizes 4 None) text_sizes int_sizes

-- ---- a header, and what follows it

abbrev pub Multi : List ℕ → Type 0
Multi = Spells IsMulti

abbrev pub MarkTail : List ℕ → List ℕ → Type 0
MarkTail h t = ((h ≡ end_mark) × (t ≡ [])) ⊎ ((op : PartOp) × (h ≡ part_mark op) × Chain (Spelling (part_layout op)) (λ _. Multi) t)

mark_bytes : (op : PartOp) → bytes_of (marked (part_header op)) ≡ part_mark op
mark_bytes parts.Create = refl
mark_bytes _ = refl

mark_len : (op : PartOp) → length (part_mark op) ≡ 9
mark_len parts.Create = refl
mark_len _ = refl

abbrev number_byte : PartOp → ℕ
number_byte op = get_or (part_mark op) 3 0

number_is : (op : PartOp) → part_number op ≡ pos (number_byte op)
number_is parts.Create = refl
number_is _ = refl

pub is_mark_len : (h : List ℕ) → IsMark h → length h ≡ 9
is_mark_len h m = elim m [ inl e ↦ ap length e | inr p ↦ ap length p.1 ∙ mark_len p.0 ]

pub mark_alone : (h : List ℕ) → IsMark h → IsAlone IsMark h
mark_alone h m b x y n e = sym (take_at b x 9 (is_mark_len b n)) ∙ ap (take 9) e ∙ take_at h y 9 (is_mark_len h m)

items_from : (items : List Item) → IsMulti items → Chain IsMark MarkTail (bytes_of items)
items_from items no_more = (end_mark, [], inl refl, inl (refl, refl), refl)
items_from items (a_part op part others value m) = (
  part_mark op,
  bytes_of part ++ bytes_of others,
  inr (op, refl),
  inr (op, refl, (bytes_of part, bytes_of others, (part, value, refl), (others, m, refl), refl)),
  bytes_both (marked (part_header op)) (part ++ others) ∙ ap (λ (b : List ℕ). b ++ bytes_of (part ++ others)) (mark_bytes op) ∙ ap (λ (b : List ℕ). part_mark op ++ b) (bytes_both part others),
)

pub multi_from : (x : List ℕ) → Multi x → Chain IsMark MarkTail x
multi_from x s = subst (Chain IsMark MarkTail) (sym s.2) (items_from s.0 s.1)

pub multi_to : (x : List ℕ) → Chain IsMark MarkTail x → Multi x
multi_to x c =
    elim c.3 [
      | inl last ↦ (marked end_header, no_more, c.4 ∙ ap (λ (a : List ℕ). a ++ c.1) last.0 ∙ ap (λ (t : List ℕ). end_mark ++ t) last.1)
      | inr p ↦
          let op = p.0 in
          let t = p.2 in
          let part = t.2 in
          let others = t.3 in (
            marked (part_header op) ++ (part.0 ++ others.0),
            a_part op part.0 others.0 part.1 others.1,
            c.4 ∙ ap (λ (a : List ℕ). a ++ c.1) (p.1 ∙ sym (mark_bytes op)) ∙ ap (λ (z : List ℕ). bytes_of (marked (part_header op)) ++ z) (t.4 ∙ ap (λ (z : List ℕ). z ++ t.1) part.2 ∙ ap (λ (z : List ℕ). bytes_of part.0 ++ z) others.2 ∙ sym (bytes_both part.0 others.0))
                ∙ sym (bytes_both (marked (part_header op)) (part.0 ++ others.0)),
          )
    ]

-- ---- the lengths of multis

least_part : (op : PartOp) → 8 ≤ (part_sizes op).least
least_part parts.Create = omega arith
least_part _ = omega arith

pub part_room : (op : PartOp) (n : ℕ) → (part_sizes op).least + 9 ≤ n → IsAmong (plus (part_sizes op) multi_sizes) n
part_room parts.Create n le = inr (omega arith)
part_room _ n le = inr (omega arith)

items_len : (items : List Item) → IsMulti items → IsAmong multi_sizes (length (bytes_of items))
items_len items no_more = inl refl
items_len items (a_part op part others value m) =
    let own = at_least (part_sizes op) (length (bytes_of part)) ((part_are op).0 (bytes_of part) (part, value, refl)) in
    let rest = at_least multi_sizes (length (bytes_of others)) (items_len others m) in
    let low = least_part op in
    inr (omega (arith, ap length (bytes_both (marked (part_header op)) (part ++ others)), length-append (bytes_of (marked (part_header op))) (bytes_of (part ++ others)), ap length (mark_bytes op), mark_len op, ap length (bytes_both part others), length-append (bytes_of part) (bytes_of others)))

pub multi_are : AreSizes Multi multi_sizes
multi_are = (
  λ x s. subst (λ (z : List ℕ). IsAmong multi_sizes (length z)) (sym s.2) (items_len s.0 s.1),
  λ n small among.
      elim among [
        | inl e ↦ (end_mark, (marked end_header, no_more, refl), sym e)
        | inr b ↦
            let part = (part_are parts.Delete).1 (n - 18) (omega arith) (inr (omega arith)) in
            let len : length part.0 ≡ n - 18 = part.2 in
            let t = part.0 ++ end_mark in
            let x = part_mark parts.Delete ++ t in
            (x, multi_to x (part_mark parts.Delete, t, inr (parts.Delete, refl), inr (parts.Delete, refl, (part.0, end_mark, part.1, (marked end_header, no_more, refl), refl)), refl), omega (arith, length-append part.0 end_mark))
      ],
)

-- ---- what may follow a header

module _ (src : List ℕ) (place : ℕ) (frame : length src < 2 ^ 31) where
  split : (a : List ℕ) (n : ℕ) → IsMark a → n ≤ length src → MayMark a n → (q : List ℕ) × (j : ℕ) × MarkTail a q × IsAmong nothing j × (n ≡ length q + j)
  split a n m le may =
      elim may [
        | inl last ↦ ([], 0, inl (last.0, refl), inl refl, (let e = last.1 in omega arith))
        | inr p ↦
            let op = p.0 in
            let d = split_plus (part_sizes op) multi_sizes n p.2 in
            let sum : n ≡ d.0 + d.1 = d.4 in
            let part = (part_are op).1 d.0 (omega arith) d.2 in
            let others = multi_are.1 d.1 (omega arith) d.3 in
            let u : length part.0 ≡ d.0 = part.2 in
            let v : length others.0 ≡ d.1 = others.2 in
            (part.0 ++ others.0, 0, inr (op, p.1, (part.0, others.0, part.1, others.1, refl)), inl refl, omega (arith, length-append part.0 others.0))
      ]

  join : (a q : List ℕ) (j : ℕ) → IsMark a → MarkTail a q → IsAmong nothing j → MayMark a (length q + j)
  join a q j m tail none =
      let zero-is : j ≡ 0 = elim none [ inl e ↦ e | inr b ↦ absurd b ] in
      elim tail [
        | inl last ↦ inl (last.0, omega (arith, ap length last.1))
        | inr p ↦
            let c = p.2 in
            let len : length c.0 + length c.1 ≡ length q + j = omega (arith, ap length c.4, length-append c.0 c.1) in
            inr (p.0, p.1, subst (IsAmong (plus (part_sizes p.0) multi_sizes)) len (among_plus (part_sizes p.0) multi_sizes (length c.0) (length c.1) ((part_are p.0).0 c.0 c.2) (multi_are.0 c.1 c.3)))
      ]

  -- the header stops
  pub mark_stops : (stuck : ℕ) → StopsAt IsMark MayMark src place stuck → StopsAt Multi (then_among nothing) src place stuck
  mark_stops stuck s = at_first IsMark MarkTail Multi multi_to multi_from (then_among nothing) src place MayMark stuck split join s

  mark_parts : (h : List ℕ) → take 9 (drop place src) ≡ h → drop place src ≡ h ++ drop (place + 9) src
  mark_parts h e = sym (take-append-drop 9 (drop place src)) ∙ ap (λ (z : List ℕ). z ++ drop 9 (drop place src)) e ∙ ap (λ (z : List ℕ). h ++ z) (drop-drop 9 place src)

  -- the header behind the last part
  pub mark_ends : take 9 (drop place src) ≡ end_mark → length src ≡ place + 9 → Passes Multi (then_among nothing) src place (place + 9)
  mark_ends e len = record {
    x = end_mark;
    is = (marked end_header, no_more, refl);
    parts = mark_parts end_mark e;
    at = refl;
    within = omega arith;
    may = inl (omega arith);
  }

  module _ (op : PartOp) (e : take 9 (drop place src) ≡ part_mark op) (within : place + 9 ≤ length src) (among : IsAmong (plus (part_sizes op) multi_sizes) (length src - (place + 9))) where
    abbrev mark_passes : Passes IsMark MayMark src place (place + 9)
    mark_passes = record {
      x = part_mark op;
      is = inr (op, refl);
      parts = mark_parts (part_mark op) e;
      at = ap (λ (n : ℕ). place + n) (sym (mark_len op));
      within = within;
      may = inr (op, refl, among);
    }

    other_mark : (op other : PartOp) → part_mark op ≡ part_mark other → op ≡ other
    other_mark op other e = part_number_apart op other (number_is op ∙ ap (λ (m : List ℕ). pos (get_or m 3 0)) e ∙ sym (number_is other))

    no_end : (op : PartOp) → part_mark op ≡ end_mark → ⊥
    no_end parts.Create e = absurd cc
    no_end _ e = absurd cc

    tail_to : (t : List ℕ) → Chain (Spelling (part_layout op)) (λ _. Multi) t → MarkTail (part_mark op) t
    tail_to t c = inr (op, refl, c)

    tail_from : (t : List ℕ) → MarkTail (part_mark op) t → Chain (Spelling (part_layout op)) (λ _. Multi) t
    tail_from t m =
        elim m [
          | inl last ↦ absurd (no_end op last.0)
          | inr p ↦ subst (λ (o : PartOp). Chain (Spelling (part_layout o)) (λ _. Multi) t) (sym (other_mark op p.0 p.1)) p.2
        ]

    -- the record of a part stops
    pub part_stops : (stuck : ℕ) → StopsAt (Spelling (part_layout op)) (then_among multi_sizes) src (place + 9) stuck → StopsAt Multi (then_among nothing) src place stuck
    part_stops stuck s =
        let inside : StopsAt (MarkTail (part_mark op)) (then_among nothing) src (place + 9) stuck =
        at_first (Spelling (part_layout op)) (λ _. Multi) (MarkTail (part_mark op)) tail_to tail_from (then_among nothing) src (place + 9) (then_among multi_sizes) stuck
        (λ a n p le m. let x = multi_are.1 n (omega arith) m in let len : length x.0 ≡ n = x.2 in (x.0, 0, x.1, inl refl, omega arith))
        (λ a q j p m none. let zero-is : j ≡ 0 = elim none [ inl e ↦ e | inr b ↦ absurd b ] in let same : length q ≡ length q + j = omega arith in subst (IsAmong multi_sizes) same (multi_are.0 q m)) s in
        at_second IsMark MarkTail Multi multi_to multi_from (then_among nothing) src place MayMark (then_among nothing) (place + 9) stuck mark_passes (mark_alone (part_mark op) (inr (op, refl))) (λ q j of a. a) (λ q j of a. a) inside

    -- a whole part, and the rest of the multi
    pub part_more : (end : ℕ) → Passes (Spelling (part_layout op)) (then_among multi_sizes) src (place + 9) end → (r : Result ℕ ℕ) → Reaches Multi (then_among nothing) src end r → Reaches Multi (then_among nothing) src place r
    part_more end p (Ok last) q =
        at_both IsMark MarkTail Multi multi_to multi_from (then_among nothing) src place MayMark (then_among nothing) (place + 9) last mark_passes (λ q j of a. a)
        (at_both (Spelling (part_layout op)) (λ _. Multi) (MarkTail (part_mark op)) tail_to tail_from (then_among nothing) src (place + 9) (then_among multi_sizes) (then_among nothing) end last p (λ q j of a. a) q)
    part_more end p (Err stuck) s =
        at_second IsMark MarkTail Multi multi_to multi_from (then_among nothing) src place MayMark (then_among nothing) (place + 9) stuck mark_passes (mark_alone (part_mark op) (inr (op, refl))) (λ q j of a. a) (λ q j of a. a)
        (at_second (Spelling (part_layout op)) (λ _. Multi) (MarkTail (part_mark op)) tail_to tail_from (then_among nothing) src (place + 9) (then_among multi_sizes) (then_among nothing) end stuck p (spelled_alone (part_layout op) p.x p.is) (λ q j of a. a) (λ q j of a. a) s)

-- ---- a header of which a byte may not stand

form : ℕ → List ℕ
form a = 0 ∷ 0 ∷ 0 ∷ a ∷ 0 ∷ 255 ∷ 255 ∷ 255 ∷ 255 ∷ []

mark_form : (op : PartOp) → part_mark op ≡ form (number_byte op)
unfolding form
mark_form parts.Create = refl
mark_form _ = refl

form_differs : (a b k : ℕ) → (get_or (form a) k 0 ≡ get_or (form b) k 0 → ⊥) → k ≡ 3
unfolding form
form_differs a b zero h = absurd (h refl)
form_differs a b (suc zero) h = absurd (h refl)
form_differs a b (suc (suc zero)) h = absurd (h refl)
form_differs a b (suc (suc (suc zero))) h = refl
form_differs a b (suc (suc (suc (suc k)))) h = absurd (h refl)

mark_differs : (op other : PartOp) (k : ℕ) → (get_or (part_mark op) k 0 ≡ get_or (part_mark other) k 0 → ⊥) → k ≡ 3
mark_differs op other k h =
    form_differs (number_byte op) (number_byte other) k
    (λ e. h (ap (λ (m : List ℕ). get_or m k 0) (mark_form op) ∙ e ∙ ap (λ (m : List ℕ). get_or m k 0) (sym (mark_form other))))

module _ (src : List ℕ) (place k : ℕ) (within : place ≤ length src) (few : k < 9) where
  -- there is room for no part
  pub end_differs : length (drop place src) ≡ 9 → take k (drop place src) ≡ take k end_mark → (get_or (drop place src) k 0 ≡ get_or end_mark k 0 → ⊥) → StopsAt IsMark MayMark src place (place + k)
  end_differs nine same not = record {
    behind = k;
    at = refl;
    stops = record {
      short = omega arith;
      x = end_mark;
      y = [];
      is = inl refl;
      within = omega arith;
      continues = (inl (refl, refl), sym nine, sym same);
      no_more = λ x y m c.
          let len = is_mark_len x m in
          let total = c.1 in
          elim c.0 [
            | inl last ↦ not (sym (ap (λ (h : List ℕ). get_or (h ++ y) k 0) (sym last.0) ∙ same_byte (suc k) k (x ++ y) (drop place src) (omega arith) c.2) ∙ beyond y)
            | inr p ↦ (let least = at_least (plus (part_sizes p.0) multi_sizes) (length y) p.2 in absurd (omega arith))
          ];
    };
  } where
    beyond : (y : List ℕ) → get_or (end_mark ++ y) k 0 ≡ get_or end_mark k 0
    beyond y = get_or_append_left end_mark y 0 k few

  pub part_differs : (op : PartOp) → 26 ≤ length (drop place src) → (part_sizes op).least + 9 ≤ length (drop place src) - 9
      → ((other : PartOp) → (part_sizes other).least + 9 ≤ length (drop place src) - 9 → part_number other ≡ pos (get_or (drop place src) 3 0) → other ≡ op)
      → take k (drop place src) ≡ take k (part_mark op) → (get_or (drop place src) k 0 ≡ get_or (part_mark op) k 0 → ⊥) → StopsAt IsMark MayMark src place (place + k)
  part_differs op long fits only same not =
      let b = drop place src in
      let y = drop 9 b in
      let y-len = length-drop 9 b in
      let nine = mark_len op in
      record {
        behind = k;
        at = refl;
        stops = record {
          short = omega arith;
          x = part_mark op;
          y = y;
          is = inr (op, refl);
          within = omega arith;
          continues = (inr (op, refl, part_room op (length y) (omega arith)), omega arith, take-append-le k (part_mark op) y (omega arith) ∙ sym same);
          no_more = λ x z m c.
              let len = is_mark_len x m in
              let total = c.1 in
              elim c.0 [
                | inl last ↦ (let none = last.1 in absurd (omega arith))
                | inr p ↦
                    let other = p.0 in
                    let least = at_least (plus (part_sizes other) multi_sizes) (length z) p.2 in
                    let other-nine = mark_len other in
                    let byte : (i : ℕ) → i < suc k → get_or (part_mark other) i 0 ≡ get_or b i 0 =
                    λ (i : ℕ) (lt : i < suc k). sym (get_or_append_left (part_mark other) z 0 i (omega arith)) ∙ ap (λ (h : List ℕ). get_or (h ++ z) i 0) (sym p.1) ∙ same_byte (suc k) i (x ++ z) b lt c.2 in
                    let apart : get_or (part_mark op) k 0 ≡ get_or (part_mark other) k 0 → ⊥ = λ (e : get_or (part_mark op) k 0 ≡ get_or (part_mark other) k 0). not (sym (e ∙ byte k (omega arith))) in
                    let three : k ≡ 3 = mark_differs op other k apart in
                    let number : part_number other ≡ pos (get_or b 3 0) = number_is other ∙ ap pos (byte 3 (omega arith)) in
                    let is : other ≡ op = only other (omega arith) number in
                    apart (ap (λ (o : PartOp). get_or (part_mark o) k 0) (sym is))
              ];
        };
      }

-- not the header behind the last part alone
pub more_than_end : (n : ℕ) → IsAmong multi_sizes n → (n ≡ 9 → ⊥) → 26 ≤ n
more_than_end n a not = elim a [ inl e ↦ absurd (not e) | inr b ↦ omega arith ]
