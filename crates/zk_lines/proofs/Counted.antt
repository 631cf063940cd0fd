-- Items one after another are read into bytes.
use Rattle.std.proofs.Common.{◌≡◌, ℕ, ◌+◌, ◌-◌, ◌<◌, ◌^◌, List, [], ◌∷◌, ◌++◌, length, take, drop, Option, Some, None, refl, sym, ap, subst, ◌∙◌, append_assoc, arith, length-append}
use Rattle.std.specs.Prelude.{OnErr, OnOk, Result, Ok, Err, pos, negsuc}
use Rattle.std.specs.List.{flat_map}
use Rattle.std.proofs.lemmas.List.{append-nil, take_at}
use Rattle.zk_jute.specs.{Item.Item, Item.bytes_of, Item.HaveBytes, Item.int_bytes, Values.list_items}
use Rattle.zk_jute.specs.declared.value.Nullable.TheVariants as nullable
use Rattle.zk_jute.proofs.Layouts.{have_both, bytes_both}
use Rattle.zk_items.specs.Form.{Read, ◌>>=◌, Keeps, read_map, word_at}
use Rattle.zk_items.specs.{Many.many_at, Many.with_first, Many.with_front, Encoded.Encoded}
use Rattle.zk_items.proofs.{Encoding.room_filled, Kept.keeps_more, Many.no_front, Many.step_some, Many.step_end, Many.step_none}
use Rattle.zk_lines.specs.Series.{element_at, series_at, full_at, list_at, if_passed}

-- ---- the loop

-- the values that were read, how many, and their bytes
pub record Begun {X : Type 0} (at : List ℕ → Read (Option X)) (items : X → List Item) (from line old new : List ℕ) (turns turn : ℕ) : Type 0 where
  pub values : List X
  pub read : with_front values (many_at at (turns - turn) line) ≡ many_at at turns from
  pub count : length values ≡ turn
  pub have : HaveBytes (flat_map items values)
  pub appended : new ≡ old ++ bytes_of (flat_map items values)

module _ {X : Type 0} (at : List ℕ → Read (Option X)) (items : X → List Item) where
  pub none_yet : (from old : List ℕ) (turns : ℕ) → Begun at items from from old old turns 0
  none_yet from old turns =
      let all : turns - 0 ≡ turns = omega arith in
      record {
        values = [];
        read = ap (λ (n : ℕ). with_front [] (many_at at n from)) all ∙ no_front (many_at at turns from);
        count = refl;
        have = tt;
        appended = sym (append-nil old);
      }

  flat_more : (xs : List X) (x : X) → flat_map items (xs ++ (x ∷ [])) ≡ flat_map items xs ++ items x
  flat_more [] x = append-nil (items x)
  flat_more (y ∷ xs) x = ap (λ (l : List Item). items y ++ l) (flat_more xs x) ∙ sym (append_assoc (items y) (flat_map items xs) (items x))

  pub one_more : (from line mid rest old new last : List ℕ) (turns turn : ℕ) {f : List ℕ → Read X} → turn < turns → Begun at items from line old new turns turn
      → (c : Encoded f items mid rest new last) → at line ≡ Some (Some c.value, rest) → Begun at items from rest old last turns (turn + 1)
  one_more from line mid rest old new last turns turn less b c e =
      let x = c.value in
      let xs = b.values in
      record {
        values = xs ++ (x ∷ []);
        read = sym (step_some at xs (turns - turn) (turns - (turn + 1)) line rest x (omega arith) e) ∙ b.read;
        count = length-append xs (x ∷ []) ∙ ap (λ (n : ℕ). n + 1) b.count;
        have = subst HaveBytes (sym (flat_more xs x)) (have_both (flat_map items xs) (items x) b.have c.have);
        appended = c.appended ∙ ap (λ (l : List ℕ). l ++ bytes_of (items x)) b.appended ∙ append_assoc old (bytes_of (flat_map items xs)) (bytes_of (items x))
            ∙ ap (λ (l : List ℕ). old ++ l) (sym (bytes_both (flat_map items xs) (items x)) ∙ ap bytes_of (sym (flat_more xs x)));
      }

  pub none_more : (from line old new : List ℕ) (turns turn : ℕ) → turn < turns → length from ≡ turns → Begun at items from line old new turns turn → at line ≡ None → many_at at (length from) from ≡ None
  none_more from line old new turns turn less long b e =
      ap (λ (n : ℕ). many_at at n from) long ∙ sym b.read ∙ step_none at b.values (turns - turn) (turns - (turn + 1)) line (omega arith) e

  pub all_read : (from line rest old new : List ℕ) (turns turn : ℕ) → turn < turns → length from ≡ turns → Begun at items from line old new turns turn → at line ≡ Some (None, rest)
      → (c : Encoded (λ bytes. many_at at (length bytes) bytes) (flat_map items) from rest old new) × (turn + 1 ≡ length c.value + 1)
  all_read from line rest old new turns turn less long b e = (
    record {
      value = b.values;
      read = ap (λ (n : ℕ). many_at at n from) long ∙ sym b.read ∙ step_end at b.values (turns - turn) (turns - (turn + 1)) line rest (omega arith) e
          ∙ ap (λ (xs : List X). Some (xs, rest)) (append-nil b.values);
      have = b.have;
      appended = b.appended;
    },
    ap (λ (n : ℕ). n + 1) (sym b.count),
  )

-- ---- series

module _ {X : Type 0} (sep close : ℕ) (at : List ℕ → Read X) where
  pub element_some : (line mid rest : List ℕ) (x : X) → word_at (close ∷ []) line ≡ None → word_at (sep ∷ []) line ≡ Some mid → at mid ≡ Some (x, rest) → element_at sep close at line ≡ Some (Some x, rest)
  unfolding element_at
  element_some line mid rest x other word read =
      ap (λ (o : Option (List ℕ)). if_passed {A = Option X × List ℕ} o (λ rest. Some (None, rest)) (word_at (sep ∷ []) line >>= λ rest. at rest >>= λ q. Some (Some q.0, q.1))) other
      ∙ ap (λ (o : Option (List ℕ)). o >>= λ rest. at rest >>= λ q. Some (Some q.0, q.1)) word
      ∙ ap (λ (r : Read X). r >>= λ q. Some (Some q.0, q.1)) read

  pub element_none : (line rest : List ℕ) → word_at (close ∷ []) line ≡ Some rest → element_at sep close at line ≡ Some (None, rest)
  unfolding element_at
  element_none line rest word = ap (λ (o : Option (List ℕ)). if_passed {A = Option X × List ℕ} o (λ rest. Some (None, rest)) (word_at (sep ∷ []) line >>= λ rest. at rest >>= λ q. Some (Some q.0, q.1))) word

  pub element_unled : (line : List ℕ) → word_at (close ∷ []) line ≡ None → word_at (sep ∷ []) line ≡ None → element_at sep close at line ≡ None
  unfolding element_at
  element_unled line other word =
      ap (λ (o : Option (List ℕ)). if_passed {A = Option X × List ℕ} o (λ rest. Some (None, rest)) (word_at (sep ∷ []) line >>= λ rest. at rest >>= λ q. Some (Some q.0, q.1))) other
      ∙ ap (λ (o : Option (List ℕ)). o >>= λ rest. at rest >>= λ q. Some (Some q.0, q.1)) word

  pub element_unread : (line mid : List ℕ) → word_at (close ∷ []) line ≡ None → word_at (sep ∷ []) line ≡ Some mid → at mid ≡ None → element_at sep close at line ≡ None
  unfolding element_at
  element_unread line mid other word read =
      ap (λ (o : Option (List ℕ)). if_passed {A = Option X × List ℕ} o (λ rest. Some (None, rest)) (word_at (sep ∷ []) line >>= λ rest. at rest >>= λ q. Some (Some q.0, q.1))) other
      ∙ ap (λ (o : Option (List ℕ)). o >>= λ rest. at rest >>= λ q. Some (Some q.0, q.1)) word
      ∙ ap (λ (r : Read X). r >>= λ q. Some (Some q.0, q.1)) read

  pub series_unread : (line : List ℕ) → word_at (close ∷ []) line ≡ None → at line ≡ None → series_at sep close at line ≡ None
  unfolding series_at
  series_unread line other read =
      ap (λ (o : Option (List ℕ)). if_passed {A = List X × List ℕ} o (λ rest. Some ([], rest)) (at line >>= λ q. with_first q.0 (many_at (element_at sep close at) (length q.1) q.1))) other
      ∙ ap (λ (r : Read X). r >>= λ q. with_first q.0 (many_at (element_at sep close at) (length q.1) q.1)) read

  pub series_cut : {items : X → List Item} {line mid old first : List ℕ} → word_at (close ∷ []) line ≡ None → (c : Encoded at items line mid old first) → many_at (element_at sep close at) (length mid) mid ≡ None → series_at sep close at line ≡ None
  unfolding series_at
  series_cut {line} other c none =
      ap (λ (o : Option (List ℕ)). if_passed {A = List X × List ℕ} o (λ rest. Some ([], rest)) (at line >>= λ q. with_first q.0 (many_at (element_at sep close at) (length q.1) q.1))) other
      ∙ ap (λ (r : Read X). r >>= λ q. with_first q.0 (many_at (element_at sep close at) (length q.1) q.1)) c.read ∙ ap (with_first c.value) none

  pub series_empty : (items : X → List Item) (line rest old : List ℕ) → word_at (close ∷ []) line ≡ Some rest
      → (c : Encoded (series_at sep close at) (flat_map items) line rest old old) × (0 ≡ length c.value)
  unfolding series_at
  series_empty items line rest old word = (
    record {
      value = [];
      read = ap (λ (o : Option (List ℕ)). if_passed {A = List X × List ℕ} o (λ rest. Some ([], rest)) (at line >>= λ q. with_first q.0 (many_at (element_at sep close at) (length q.1) q.1))) word;
      have = tt;
      appended = sym (append-nil old);
    },
    refl,
  )

  pub series_more : (items : X → List Item) (line mid rest old first new : List ℕ) (n : ℕ) → word_at (close ∷ []) line ≡ None → Encoded at items line mid old first
      → (d : Encoded (λ bytes. many_at (element_at sep close at) (length bytes) bytes) (flat_map items) mid rest first new) × (n ≡ length d.value + 1)
      → (c : Encoded (series_at sep close at) (flat_map items) line rest old new) × (n ≡ length c.value)
  unfolding series_at
  series_more items line mid rest old first new n other c others =
      let d = others.0 in (
        record {
          value = c.value ∷ d.value;
          read = ap (λ (o : Option (List ℕ)). if_passed {A = List X × List ℕ} o (λ rest. Some ([], rest)) (at line >>= λ q. with_first q.0 (many_at (element_at sep close at) (length q.1) q.1))) other
              ∙ ap (λ (r : Read X). r >>= λ q. with_first q.0 (many_at (element_at sep close at) (length q.1) q.1)) c.read ∙ ap (with_first c.value) d.read;
          have = have_both (items c.value) (flat_map items d.value) c.have d.have;
          appended = d.appended ∙ ap (λ (l : List ℕ). l ++ bytes_of (flat_map items d.value)) c.appended ∙ append_assoc old (bytes_of (items c.value)) (bytes_of (flat_map items d.value))
              ∙ ap (λ (l : List ℕ). old ++ l) (sym (bytes_both (items c.value) (flat_map items d.value)));
        },
        others.1 ∙ omega arith,
      )

-- ---- lists

module _ {X : Type 0} (at : List ℕ → Read X) (items : X → List Item) where
  -- the count is put in where its room is
  pub counted : (line rest old room mid last new : List ℕ) (n : ℕ) → length room ≡ 4 → mid ≡ old ++ room → (c : Encoded (series_at 44 93 at) (flat_map items) line rest mid last) × (n ≡ length c.value)
      → n < 2 ^ 31 → new ≡ take (length old) last ++ (int_bytes (pos n) ++ drop (length old + 4) last) → Encoded (full_at at) (list_items items) line rest old new
  counted line rest old room mid last new n four roomy series small filled =
      let c = series.0 in
      let xs = c.value in
      let content = bytes_of (flat_map items xs) in
      let short : length xs < 2 ^ 31 = omega (arith, series.1) in
      record {
        value = nullable.Full xs;
        read = ap (read_map nullable.Full) c.read;
        have = (short, c.have);
        appended = room_filled old room content (int_bytes (pos n)) new last four (c.appended ∙ ap (λ (l : List ℕ). l ++ content) roomy) filled ∙ ap (λ (k : ℕ). old ++ (int_bytes (pos k) ++ content)) series.1;
      }

  pub null_list : (line rest old new : List ℕ) → word_at (126 ∷ []) line ≡ Some rest → new ≡ old ++ (int_bytes (negsuc 0) ++ []) → Encoded (list_at at) (list_items items) line rest old new
  unfolding list_at
  null_list line rest old new word e = record {
    value = nullable.Null;
    read = ap (λ (o : Option (List ℕ)). if_passed {A = _} o (λ rest. Some (nullable.Null, rest)) (word_at (91 ∷ []) line >>= full_at at)) word;
    have = (tt, tt);
    appended = e;
  }

  pub full_list : (line mid rest old new : List ℕ) → word_at (126 ∷ []) line ≡ None → word_at (91 ∷ []) line ≡ Some mid → Encoded (full_at at) (list_items items) mid rest old new → Encoded (list_at at) (list_items items) line rest old new
  unfolding list_at
  full_list line mid rest old new other word c = record {
    value = c.value;
    read = ap (λ (o : Option (List ℕ)). if_passed {A = _} o (λ rest. Some (nullable.Null, rest)) (word_at (91 ∷ []) line >>= full_at at)) other ∙ ap (λ (o : Option (List ℕ)). o >>= full_at at) word ∙ c.read;
    have = c.have;
    appended = c.appended;
  }

  pub list_unled : (line : List ℕ) → word_at (126 ∷ []) line ≡ None → word_at (91 ∷ []) line ≡ None → list_at at line ≡ None
  unfolding list_at
  list_unled line other word = ap (λ (o : Option (List ℕ)). if_passed {A = _} o (λ rest. Some (nullable.Null, rest)) (word_at (91 ∷ []) line >>= full_at at)) other ∙ ap (λ (o : Option (List ℕ)). o >>= full_at at) word

  pub list_unread : (line mid : List ℕ) → word_at (126 ∷ []) line ≡ None → word_at (91 ∷ []) line ≡ Some mid → full_at at mid ≡ None → list_at at line ≡ None
  unfolding list_at
  list_unread line mid other word none = ap (λ (o : Option (List ℕ)). if_passed {A = _} o (λ rest. Some (nullable.Null, rest)) (word_at (91 ∷ []) line >>= full_at at)) other ∙ ap (λ (o : Option (List ℕ)). o >>= full_at at) word ∙ none

-- whether the count is put in or not, what stood there before stands
pub kept : {A E : Type 0} (r : Result A E) (old room mid size last new : List ℕ) (start : ℕ) → start ≡ length old → mid ≡ old ++ room → Keeps mid last → OnOk r (new ≡ take start last ++ (size ++ drop (start + 4) last)) → OnErr r (new ≡ last)
    → Keeps old new
kept (Ok x) old room mid size last new start begins roomy keeps set same =
    let stood : take (length old) mid ≡ old = ap (take (length old)) roomy ∙ take_at old room (length old) refl in
    let first : take start last ≡ old = ap (λ (n : ℕ). take n last) begins ∙ keeps old stood in
    keeps_more old (size ++ drop (start + 4) last) new (set ∙ ap (λ (l : List ℕ). l ++ (size ++ drop (start + 4) last)) first)
kept (Err e) old room mid size last new start begins roomy keeps set same = λ front is. ap (take (length front)) same ∙ keeps front (keeps_more old room mid roomy front is)
