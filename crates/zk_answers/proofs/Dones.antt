-- A result of a part: what its header and its items are.
use Rattle.std.proofs.Common.{◌≡◌, ℕ, ◌⊎◌, inl, inr, List, [], ◌∷◌, ◌++◌, refl, sym, ap, subst, ◌∙◌, append_assoc, arith}
use Rattle.std.specs.Prelude.{ℤ, negsuc}
use Rattle.std.specs.List.{flat_map}
use Rattle.std.proofs.{lemmas.Int.ints, lemmas.List.append-nil}
use Rattle.zk_jute.specs.{Held.Text, Item.Item, Item.AnInt, Item.bytes_of, Item.HaveBytes, Item.Int, Layout.IsValueOf, Layout.Unfolds, Layout.One, Layout.End, Values.text_items, Values.text_unfolds, Values.text_apart, Wired.int}
use Rattle.zk_jute.proofs.Layouts.{bytes_both}
use Rattle.zk_records.specs.{declared.header.MultiHeader.MultiHeader, declared.stat.Stat.Stat, declared.op.PartOp.PartOp, Codes.part_number, Records.multi_header, Records.stat}
use Rattle.zk_records.specs.declared.op.PartOp.TheVariants as parts
use Rattle.zk_answers.specs.Held.{PartDone}
use Rattle.zk_answers.specs.declared.frame.PartDoneOf.TheVariants as done
use Rattle.zk_asks.specs.Parts.{end_header, marked}
use Rattle.zk_asks.proofs.Parts.{mark_is}
use Rattle.zk_answers.specs.Results.{result_header, error_header, done_items, multi_items, result_layout, result_of, Own, Answers}

-- ---- headers

pub result_bytes : (op : PartOp) → HaveBytes (marked (result_header op))
result_bytes parts.Create = (omega (arith, ints), (tt, (omega (arith, ints), tt)))
result_bytes _ = (omega (arith, ints), (tt, (omega (arith, ints), tt)))

pub result_mark : (op : PartOp) → IsValueOf multi_header.layout (marked (result_header op))
result_mark op = mark_is (result_header op) (result_bytes op)

pub not_failed : (op : PartOp) → negsuc 0 ≡ part_number op → ⊥
not_failed parts.Create e = absurd cc
not_failed _ e = absurd cc

pub not_error : (op : PartOp) (e : ℤ) → result_header op ≡ error_header e → ⊥
not_error op e same = not_failed op (sym (ap (λ (h : MultiHeader). h.kind) same))

pub error_same : (e d : ℤ) → error_header e ≡ error_header d → e ≡ d
error_same e d same = ap (λ (h : MultiHeader). h.err) same

-- ---- a part's own result

abbrev pub Result : PartOp → Type 0
Result parts.Create = Text
Result parts.SetData = Stat
Result _ = Unit {0}

abbrev pub done_of : (op : PartOp) → Result op → PartDone
done_of parts.Create path = done.Created path
done_of parts.Delete _ = done.Deleted
done_of parts.SetData s = done.DataSet s
done_of parts.Check _ = done.Checked

abbrev pub result_items : (op : PartOp) → Result op → List Item
result_items parts.Create path = text_items path
result_items parts.SetData s = stat.items s
result_items _ x = []

pub result_is : (op : PartOp) (x : Result op) → Unfolds (result_layout op) (result_items op x)
result_is parts.Create path = text_unfolds path
result_is parts.SetData s = stat.unfolds s
result_is _ x = refl

pub result_apart : (op : PartOp) (x y : Result op) → result_items op x ≡ result_items op y → x ≡ y
result_apart parts.Create x y e = text_apart x y e
result_apart parts.SetData x y e = stat.tells_apart x y e
result_apart _ x y e = refl

pub items_of : (op : PartOp) (x : Result op) → done_items (done_of op x) ≡ marked (result_header op) ++ result_items op x
items_of parts.Delete x = sym (append-nil (marked (result_header parts.Delete)))
items_of parts.Check x = sym (append-nil (marked (result_header parts.Check)))
items_of _ x = refl

-- what is made of a part's own result is its own, and is one that answers it
pub own_made : (op : PartOp) (x : Result op) → Own op (done_of op x) × Answers op (done_of op x) × (result_of (done_of op x) ≡ result_items op x)
own_made parts.Create x = (refl, refl, refl)
own_made _ x = (refl, refl, refl)

-- the part's own result, or an error
abbrev pub Done : PartOp → PartDone → Type 0
Done op d = ((x : Result op) × (d ≡ done_of op x)) ⊎ ((e : ℤ) × (d ≡ done.PartFailed e))

pub done_is : (op : PartOp) (d : PartDone) → Answers op d → Done op d
done_is op (done.PartFailed e) a = inr (e, refl)
done_is op d a = subst (λ (o : PartOp). Done o d) (sym a) (inl (_, refl))

-- ---- results in order

pub multi_more : (d : PartDone) (ds : List PartDone) → multi_items (d ∷ ds) ≡ done_items d ++ multi_items ds
multi_more d ds = append_assoc (done_items d) (flat_map done_items ds) (marked end_header)

pub split_items : (a b : List Item) (bytes rest : List ℕ) → bytes ≡ bytes_of (a ++ b) ++ rest → bytes ≡ bytes_of a ++ (bytes_of b ++ rest)
split_items a b bytes rest e = e ∙ ap (λ (x : List ℕ). x ++ rest) (bytes_both a b) ∙ append_assoc (bytes_of a) (bytes_of b) rest

pub an_int : (e : ℤ) → HaveBytes (AnInt e ∷ []) → IsValueOf (One Int End) (AnInt e ∷ [])
an_int e have = (int.unfolds e, have)
