-- What is read of a line into bytes, part by part.
use Rattle.std.proofs.Common.{◌≡◌, ℕ, List, [], ◌++◌, take, drop, Option, Some, None, refl, sym, ap, subst, ◌∙◌, append_assoc, ltb-true, w32, to_z, of_z, to_z-of_z}
use Rattle.std.specs.Prelude.{IfSome, IfOk, IfErr, OnOk, Result, Ok, Err, ◌^◌, true, ℤ, pos, negsuc}
use Rattle.std.specs.Result.{IsErrAnd}
use Rattle.std.specs.List.{prefix_len}
use Rattle.std.proofs.lemmas.List.{append-nil}
use Rattle.zk_jute.specs.Item.{Item, AnInt, bytes_of, HasBytes, HaveBytes}
use Rattle.zk_records.specs.{Codes.op_number, Codes.part_number, declared.op.Op.Op, declared.op.PartOp.PartOp}
use Rattle.zk_records.specs.declared.op.Op.TheVariants as ops
use Rattle.zk_records.specs.declared.op.PartOp.TheVariants as parts
use Rattle.zk_jute.proofs.Layouts.{have_both, bytes_both}
use Rattle.zk_items.specs.Form.{Read, Fails, ◌>>=◌, word_at}
use Rattle.zk_items.specs.declared.fault.LineFault.{LineFault}
use Rattle.zk_items.specs.{Leaf.in_name, Leaf.in_range, Encoded.Encoded}
use Rattle.zk_lines.specs.{Named.named_at, Words.field_at, Words.word_of, declared.word.Word.Word}

-- a value that was read, and its bytes, which were appended
abbrev pub value_encoded : {X : Type 0} {at : List ℕ → Read X} {items : X → List Item} {line rest old new : List ℕ} (value : X) → at line ≡ Some (value, rest) → HaveBytes (items value) → new ≡ old ++ bytes_of (items value)
    → Encoded at items line rest old new
value_encoded value read have appended = record { value = value; read = read; have = have; appended = appended }

-- a value that was read, of which nothing was appended
abbrev pub read_alone : {X : Type 0} {at : List ℕ → Read X} {line rest : List ℕ} (old : List ℕ) (value : X) → at line ≡ Some (value, rest) → Encoded at (λ _. []) line rest old old
read_alone old value read = record { value = value; read = read; have = tt; appended = sym (append-nil old) }

-- a word in front
abbrev pub field_encoded : {X : Type 0} {at : List ℕ → Read X} {items : X → List Item} {line mid rest old new : List ℕ} (word : Word) → word_at (word_of word) line ≡ Some mid → Encoded at items mid rest old new
    → Encoded (field_at word at) items line rest old new
field_encoded {at} word w c = record { value = c.value; read = ap (λ (o : Option (List ℕ)). o >>= at) w ∙ c.read; have = c.have; appended = c.appended }

-- one value behind another
infixr 20 ◌then◌
abbrev pub ◌then◌ : {X Y : Type 0} {f : List ℕ → Read X} {g : List ℕ → Read Y} {v : X → List Item} {w : Y → List Item} {a b c o p q : List ℕ} → Encoded f v a b o p → Encoded g w b c p q
    → Encoded {X = X × Y} (λ l. f l >>= λ x. g x.1 >>= λ y. Some ((x.0, y.0), y.1)) (λ z. v z.0 ++ w z.1) a c o q
◌then◌ {X} {Y} {g} {v} {w} {o} c d = record {
  value = (c.value, d.value);
  read = ap (λ (r : Read X). r >>= λ x. g x.1 >>= λ y. Some ((x.0, y.0), y.1)) c.read ∙ ap (λ (r : Read Y). r >>= λ y. Some ((c.value, y.0), y.1)) d.read;
  have = have_both (v c.value) (w d.value) c.have d.have;
  appended = d.appended ∙ ap (λ (l : List ℕ). l ++ bytes_of (w d.value)) c.appended ∙ append_assoc o (bytes_of (v c.value)) (bytes_of (w d.value)) ∙ ap (λ (l : List ℕ). o ++ l) (sym (bytes_both (v c.value) (w d.value)));
}

-- what is made of a value
abbrev pub made : {X Y : Type 0} {g : List ℕ → Read Y} {v : Y → List Item} {line rest old new : List ℕ} (items : X → List Item) (k : Y × List ℕ → Read X)
    → ((y : Y) (l : List ℕ) → (x : X) × (k (y, l) ≡ Some (x, l)) × (items x ≡ v y)) → Encoded g v line rest old new → Encoded (λ l. g l >>= k) items line rest old new
made {Y} {rest} {old} items k make c =
    let m = make c.value rest in
    record {
      value = m.0;
      read = ap (λ (r : Read Y). r >>= k) c.read ∙ m.1;
      have = subst HaveBytes (sym m.2) c.have;
      appended = c.appended ∙ ap (λ (x : List Item). old ++ bytes_of x) (sym m.2);
    }

-- the same bytes as other items
abbrev pub retold : {X : Type 0} {at : List ℕ → Read X} {v : X → List Item} {line rest old new : List ℕ} (items : X → List Item) (c : Encoded at v line rest old new) → items c.value ≡ v c.value → Encoded at items line rest old new
retold {old} items c same = record {
  value = c.value;
  read = c.read;
  have = subst HaveBytes (sym same) c.have;
  appended = c.appended ∙ ap (λ (x : List Item). old ++ bytes_of x) (sym same);
}

-- items in front of a value's, which are known beforehand
abbrev pub headed : {X : Type 0} {at : List ℕ → Read X} {v : X → List Item} {line rest old mid new : List ℕ} (head : List Item) → HaveBytes head → mid ≡ old ++ bytes_of head → Encoded at v line rest mid new
    → Encoded at (λ x. head ++ v x) line rest old new
headed {v} {old} head have first c = record {
  value = c.value;
  read = c.read;
  have = have_both head (v c.value) have c.have;
  appended = c.appended ∙ ap (λ (l : List ℕ). l ++ bytes_of (v c.value)) first ∙ append_assoc old (bytes_of head) (bytes_of (v c.value)) ∙ ap (λ (l : List ℕ). old ++ l) (sym (bytes_both head (v c.value)));
}

-- a name in front
abbrev pub named_encoded : {K X : Type 0} {items : X → List Item} {line name mid rest old new : List ℕ} (key_at : List ℕ → Option K) (body_at : K → List ℕ → Read X) (k : K)
    → name ≡ take (prefix_len in_name line) line → mid ≡ drop (prefix_len in_name line) line → key_at name ≡ Some k → Encoded (body_at k) items mid rest old new → Encoded (named_at key_at body_at) items line rest old new
named_encoded {K} {line} key_at body_at k name mid key c = record {
  value = c.value;
  read = ap (λ (o : Option K). o >>= λ k. body_at k (drop (prefix_len in_name line) line)) (ap key_at (sym name) ∙ key) ∙ ap (body_at k) (sym mid) ∙ c.read;
  have = c.have;
  appended = c.appended;
}

-- ---- numbers have bytes

pub int_have : (n : ℤ) → in_range 31 n ≡ true → HasBytes (AnInt n)
int_have (pos n) fit = record { sfits = ltb-true n (2 ^ 31) fit }
int_have (negsuc n) fit = record { sfits = ltb-true n (2 ^ 31) fit }

-- an int as a call passes it
pub as_int : (A : ℤ → Type 0) (n : ℤ) → in_range 31 n ≡ true → A (to_z w32 (of_z w32 n)) → A n
as_int A (pos n) fit h = subst A (to_z-of_z (int_have (pos n) fit)) h
as_int A (negsuc n) fit h = subst A (to_z-of_z (int_have (negsuc n) fit)) h

pub op_kind : (op : Op) → to_z w32 (of_z w32 (op_number op)) ≡ op_number op
op_kind ops.Create = refl
op_kind _ = refl

pub part_kind : (op : PartOp) → to_z w32 (of_z w32 (part_number op)) ≡ part_number op
part_kind parts.Create = refl
part_kind _ = refl

-- ---- options

pub if_some : {A : Type 0} {P Q : A → Type 0} (r : Option A) → ((x : A) → P x → Q x) → IfSome r P → IfSome r Q
if_some (Some x) f p = f x p
if_some None f p = tt

-- ---- results

pub on_good : {A E P Q : Type 0} (r : Result A E) → (P → Q) → OnOk r P → OnOk r Q
on_good (Ok x) f p = f p
on_good (Err e) f p = tt

pub if_good : {A E : Type 0} {P Q : A → Type 0} (r : Result A E) → ((x : A) → P x → Q x) → IfOk r P → IfOk r Q
if_good (Ok x) f p = f x p
if_good (Err e) f p = tt

-- ---- where nothing is read

pub refused_by : {A X Y : Type 0} {x : Option X} {y : Option Y} (r : Result A LineFault) → (x ≡ None → y ≡ None) → IfErr r (λ e. Fails e x) → IfErr r (λ e. Fails e y)
refused_by (Ok a) f p = tt
refused_by (Err e) f p = λ n. f (p n)

-- the fault of a `?`
pub handed_on : {A X Y : Type 0} {x : Option X} {y : Option Y} (f : LineFault) (r : Result A LineFault) → IsErrAnd r (λ e. e ≡ f) → Fails f x → (x ≡ None → y ≡ None) → IfErr r (λ e. Fails e y)
handed_on f (Ok a) i p k = tt
handed_on f (Err e) i p k = λ n. k (p (λ z. n (ap (λ (g : LineFault). g.reason) i ∙ z)))
