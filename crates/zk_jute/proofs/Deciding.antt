-- Bytes begin with a value of a layout, or have a fault.
use Rattle.std.proofs.Common.{◌≡◌, ℕ, ◌+◌, ◌≤◌, ◌⊎◌, inl, inr, List, [], ◌∷◌, ◌++◌, length, drop, Bool, Option, Some, None, Ok, Err, refl, sym, ap, ◌∙◌, append_assoc, arith}
use Rattle.std.proofs.lemmas.List.{append-nil}
use Rattle.zk_jute.specs.{declared.fault.Reason.Reason, declared.fault.Reason.TheVariants.Trailing, Item.Item, Item.bytes_of, Layout.Layout, Layout.IsValueOf, Faults.IsFault}
use Rattle.zk_jute.specs.Reading.{Fault, Read, Fails, told, told_fault, items_at}
use Rattle.zk_jute.specs.Flagged.{flag_items, flag_layout, IsFlaggedFault, in_value, in_flag, behind_flag}
use Rattle.zk_jute.proofs.{Steps.IsBytes, Steps.IsBytes-drop, Layouts.items_found, Layouts.bytes_both, Theorems.plain_told, Covers.bool_covered}

-- the bytes are those of a value, and then a rest
pub record Starts (l : Layout) (bytes : List ℕ) : Type 0 where
  pub items : List Item
  pub rest : List ℕ
  pub value : IsValueOf l items
  pub splits : bytes ≡ bytes_of items ++ rest
  pub fits : IsBytes rest

abbrev pub HasFault : (List ℕ → ℕ → Reason → Type 0) → List ℕ → Type 0
HasFault F bytes = (place : ℕ) × (reason : Reason) × F bytes place reason

fails : (f : Fault) (read : Read (List Item)) → read ≡ Err f → Fails (told_fault f) read
unfolding Fails
fails f read e = ap told e

pub layout_decided : (l : Layout) (bytes : List ℕ) → IsBytes bytes → Starts l bytes ⊎ HasFault (IsFault (IsValueOf l)) bytes
layout_decided l bytes fits = go (items_at l bytes 0) refl where
  none : 0 ≤ length bytes
  none = omega arith

  go : (r : Read (List Item)) → items_at l bytes 0 ≡ r → Starts l bytes ⊎ HasFault (IsFault (IsValueOf l)) bytes
  go (Ok x) e =
      let f = items_found l bytes fits 0 x none e in
      inl (record { items = x.0; rest = drop x.1 bytes; value = (f.value, f.have); splits = f.stands.parts; fits = IsBytes-drop x.1 bytes fits })
  go (Err f) e =
      let t = plain_told {X = List Item} l (λ i. i) bytes 0 fits none (Err (told_fault f)) (fails f (items_at l bytes 0) e) in
      inr (t.0, f.reason, t.1)

-- nothing is left, or something
pub left : (rest : List ℕ) → (rest ≡ []) ⊎ (rest ≡ [] → ⊥)
left [] = inl refl
left (b ∷ rest) = inr (λ e. absurd cc)

pub whole_of : (bytes rest : List ℕ) (items : List Item) → bytes ≡ bytes_of items ++ rest → rest ≡ [] → bytes ≡ bytes_of items
whole_of bytes rest items e none = e ∙ ap (λ (z : List ℕ). bytes_of items ++ z) none ∙ append-nil (bytes_of items)

-- a value, and a boolean that may stand behind it
pub record IsFlaggedWhole (l : Layout) (bytes : List ℕ) : Type 0 where
  pub value : List Item
  pub flag : Option Bool
  pub is : IsValueOf l value
  pub whole : bytes ≡ bytes_of (value ++ flag_items flag)

pub flagged_decided : (l : Layout) (bytes : List ℕ) → IsBytes bytes → IsFlaggedWhole l bytes ⊎ HasFault (IsFlaggedFault l) bytes
flagged_decided l bytes fits = first (layout_decided l bytes fits) where
  Decided : Type 0
  Decided = IsFlaggedWhole l bytes ⊎ HasFault (IsFlaggedFault l) bytes

  split_flag : (s : Starts l bytes) (t : Starts flag_layout s.rest) → bytes ≡ bytes_of (s.items ++ t.items) ++ t.rest
  split_flag s t = s.splits ∙ ap (λ (z : List ℕ). bytes_of s.items ++ z) t.splits ∙ sym (append_assoc (bytes_of s.items) (bytes_of t.items) t.rest) ∙ ap (λ (z : List ℕ). z ++ t.rest) (sym (bytes_both s.items t.items))

  third : (s : Starts l bytes) (t : Starts flag_layout s.rest) → ((t.rest ≡ []) ⊎ (t.rest ≡ [] → ⊥)) → Decided
  third s t (inl none) =
      let b = bool_covered t.items t.value.0 in
      inl (record { value = s.items; flag = Some b.0; is = s.value; whole = whole_of bytes t.rest (s.items ++ t.items) (split_flag s t) none ∙ ap (λ (z : List Item). bytes_of (s.items ++ z)) (sym b.1) })
  third s t (inr some) = inr (length (bytes_of (s.items ++ t.items)), Trailing, behind_flag bytes t.rest s.items t.items s.value t.value (split_flag s t) some)

  second : (s : Starts l bytes) → ((s.rest ≡ []) ⊎ (s.rest ≡ [] → ⊥)) → (Starts flag_layout s.rest ⊎ HasFault (IsFault (IsValueOf flag_layout)) s.rest) → Decided
  second s (inl none) t = inl (record { value = s.items; flag = None; is = s.value; whole = whole_of bytes s.rest s.items s.splits none ∙ ap bytes_of (sym (append-nil s.items)) })
  second s (inr some) (inl t) = third s t (left t.rest)
  second s (inr some) (inr f) = inr (length (bytes_of s.items) + f.0, f.1, in_flag bytes s.rest s.items f.0 f.1 s.value s.splits some f.2)

  first : (Starts l bytes ⊎ HasFault (IsFault (IsValueOf l)) bytes) → Decided
  first (inl s) = second s (left s.rest) (layout_decided flag_layout s.rest s.fits)
  first (inr f) = inr (f.0, f.1, in_value bytes f.0 f.1 f.2)
