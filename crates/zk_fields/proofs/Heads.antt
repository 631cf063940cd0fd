-- What the headers of a multi stand before.
use Rattle.std.proofs.Common.{◌≡◌, ◌≢◌, refl, sym, ◌∙◌}
use Rattle.std.specs.Prelude.{Bool, ℤ, pos, negsuc, true, false, Some, None}
use Rattle.std.specs.{Ordering.int_eq, Bool.Decides}
use Rattle.std.proofs.lemmas.Bool.Decides.{Decides-int_eq}
use Rattle.zk_records.specs.{declared.op.PartOp.PartOp, Codes.part_number, declared.header.MultiHeader.MultiHeader}
use Rattle.zk_records.specs.declared.op.PartOp.TheVariants as parts
use Rattle.zk_fields.specs.declared.payload_fields.Headed.TheVariants as heads
use Rattle.zk_fields.specs.Heads.{part_of, headed_part, headed_result}

known : (k : ℤ) (op : PartOp) → k ≡ part_number op → part_of k ≡ Some op
known k parts.Create e = rw e refl
known k _ e = rw e refl

refused : {P : Type 0} (r : Bool) → Decides r P → ¬ P → r ≡ false
refused true d none = absurd (none (d.0 refl))
refused false d none = refl

pub unequal : (n m : ℤ) → n ≢ m → int_eq n m ≡ false
unequal n m differ = refused (int_eq n m) (Decides-int_eq n m) differ

unknown : (k : ℤ) → ((op : PartOp) → k ≢ part_number op) → part_of k ≡ None
unknown k none = rw (unequal k (pos 1) (none parts.Create), unequal k (pos 2) (none parts.Delete), unequal k (pos 5) (none parts.SetData), unequal k (pos 13) (none parts.Check)) refl

-- ---- what a header stands before

pub part_end : (h : MultiHeader) → h.done ≡ true → None ≡ headed_part h
unfolding headed_part
part_end h done = rw done refl

pub part_none : (h : MultiHeader) → h.done ≡ false → ((op : PartOp) → h.kind ≢ part_number op) → None ≡ headed_part h
unfolding headed_part
part_none h done none = rw (done, unknown h.kind none) refl

pub part_some : (h : MultiHeader) (op : PartOp) → h.done ≡ false → h.kind ≡ part_number op → Some (heads.Part op) ≡ headed_part h
unfolding headed_part
part_some h op done is = rw (done, known h.kind op is) refl

no_error : (op : PartOp) → part_number op ≢ negsuc 0
no_error parts.Create e = absurd (cc)
no_error _ e = absurd (cc)

pub result_end : (h : MultiHeader) → h.done ≡ true → None ≡ headed_result h
unfolding headed_result
result_end h done = rw done refl

pub result_error : (h : MultiHeader) → h.done ≡ false → h.kind ≡ negsuc 0 → Some heads.Error ≡ headed_result h
unfolding headed_result
result_error h done is = rw (done, is) refl

pub result_none : (h : MultiHeader) → h.done ≡ false → h.kind ≢ negsuc 0 → ((op : PartOp) → h.kind ≢ part_number op) → None ≡ headed_result h
unfolding headed_result
result_none h done differs none = rw (done, unequal h.kind (negsuc 0) differs, unknown h.kind none) refl

pub result_some : (h : MultiHeader) (op : PartOp) → h.done ≡ false → h.kind ≡ part_number op → Some (heads.Own op) ≡ headed_result h
unfolding headed_result
result_some h op done is = rw (done, unequal h.kind (negsuc 0) (λ e. no_error op (sym is ∙ e)), known h.kind op is) refl
