-- A form behind so many bytes, and what comes behind it, with places counted from the beginning.
use Rattle.std.proofs.Common.{◌≡◌, ℕ, ◌+◌, ◌⊎◌, inl, inr, List, ◌++◌, sym, subst, ◌∙◌, arith}
use Rattle.zk_jute.specs.{declared.fault.Reason.Reason, Item.Item, Item.bytes_of, Layout.Layout, Layout.IsValueOf, Faults.IsFault}
use Rattle.zk_jute.proofs.{Layouts.bytes_only, Decided.one_fault, Sequels.Same, Sequels.excluded}

-- a form has one fault, and none where its items are, and is read in one way
pub record IsExact (IsForm : List Item → Type 0) (IsFormFault : List ℕ → ℕ → Reason → Type 0) : Type 0 where
  pub unique : (bytes : List ℕ) (p q : ℕ) (r s : Reason) → IsFormFault bytes p r → IsFormFault bytes q s → Same p r q s
  pub excludes : (items : List Item) (bytes more : List ℕ) (p : ℕ) (r : Reason) → IsForm items → bytes ≡ bytes_of items ++ more → IsFormFault bytes p r → ⊥
  pub only : (a b : List Item) (x y : List ℕ) → IsForm a → IsForm b → bytes_of a ++ x ≡ bytes_of b ++ y → (a ≡ b) × (x ≡ y)

pub layout_exact : (l : Layout) → IsExact (IsValueOf l) (IsFault (IsValueOf l))
layout_exact l = record { unique = one_fault l; excludes = excluded l; only = bytes_only l }

abbrev pub Placed : ℕ → (List Item → Type 0) → (List ℕ → ℕ → Reason → Type 0) → (List Item → List ℕ → ℕ → Reason → Type 0) → List ℕ → ℕ → Reason → Type 0
Placed base IsForm IsFormFault Later bytes p r = ((behind : ℕ) × (p ≡ base + behind) × IsFormFault bytes behind r) ⊎ ((items : List Item) × (rest : List ℕ) × IsForm items × (bytes ≡ bytes_of items ++ rest) × Later items rest p r)

module _ (base : ℕ) {IsForm : List Item → Type 0} {IsFormFault : List ℕ → ℕ → Reason → Type 0} (exact : IsExact IsForm IsFormFault) (Later : List Item → List ℕ → ℕ → Reason → Type 0) (bytes : List ℕ) where
  pub placed_same : ((items : List Item) (rest : List ℕ) (p q : ℕ) (r s : Reason) → Later items rest p r → Later items rest q s → Same p r q s)
      → (p q : ℕ) (r s : Reason) → Placed base IsForm IsFormFault Later bytes p r → Placed base IsForm IsFormFault Later bytes q s → Same p r q s
  placed_same later p q r s f g =
      elim f [
        | inl a ↦ elim g [
          | inl b ↦
              let same = exact.unique bytes a.0 b.0 r s a.2 b.2 in
              let number : p ≡ q = let x = a.1 in let y = b.1 in let z = same.0 in omega arith in
              (number, same.1)
          | inr b ↦ absurd (exact.excludes b.0 bytes b.1 a.0 r b.2 b.3 a.2)
        ]
        | inr a ↦ elim g [
          | inl b ↦ absurd (exact.excludes a.0 bytes a.1 b.0 s a.2 a.3 b.2)
          | inr b ↦
              let same = exact.only b.0 a.0 b.1 a.1 b.2 a.2 (sym b.3 ∙ a.3) in
              let one : Later a.0 b.1 q s = subst (λ (i : List Item). Later i b.1 q s) same.0 b.4 in
              let two : Later a.0 a.1 q s = subst (λ (x : List ℕ). Later a.0 x q s) same.1 one in
              later a.0 a.1 p q r s a.4 two
        ]
      ]

  pub placed_not : (items : List Item) (rest : List ℕ) → IsForm items → bytes ≡ bytes_of items ++ rest → (p : ℕ) (r : Reason) → (Later items rest p r → ⊥) → Placed base IsForm IsFormFault Later bytes p r → ⊥
  placed_not items rest v e p r not f =
      elim f [
        | inl a ↦ exact.excludes items bytes rest a.0 r v e a.2
        | inr a ↦
            let same = exact.only a.0 items a.1 rest a.2 v (sym a.3 ∙ e) in
            let one : Later items a.1 p r = subst (λ (i : List Item). Later i a.1 p r) same.0 a.4 in
            not (subst (λ (x : List ℕ). Later items x p r) same.1 one)
      ]
