-- What laws say of values and of kinds of faults: that bytes have one at most.
use Rattle.std.specs.Prelude.{◌≡◌, ◌↔◌, ℕ, List, ◌++◌, length, Ok}
use Rattle.zk_jute.specs.{declared.fault.Reason.Reason, Item.Item, Item.bytes_of, Item.HaveBytes, Layout.Layout, Reading.items_at}

-- these items come first in the bytes, and nothing else is read there
abbrev pub IsReadFirst : Layout → List Item → List ℕ → Type 0
IsReadFirst l items bytes = items_at l bytes 0 ≡ Ok (items, length (bytes_of items))

-- the same bytes begin with these items and with those
pub record BeginAlike (these : List Item) (behind : List ℕ) (those : List Item) (others : List ℕ) : Type 0 where
  pub these_have : HaveBytes these
  pub those_have : HaveBytes those
  pub same : bytes_of these ++ behind ≡ bytes_of those ++ others

-- bytes have one fault of this kind at most
abbrev pub HaveOneFault : (List ℕ → ℕ → Reason → Type 0) → Type 0
HaveOneFault F = (bytes : List ℕ) (place other : ℕ) (reason because : Reason) → F bytes place reason →
    F bytes other because → (place ≡ other) × (reason ≡ because)

-- these bytes have none
abbrev pub HasNoFault : (List ℕ → ℕ → Reason → Type 0) → List ℕ → Type 0
HasNoFault F bytes = (place : ℕ) (reason : Reason) → F bytes place reason → ⊥

-- the two kinds are one
abbrev pub AreSameFaults : (List ℕ → ℕ → Reason → Type 0) → (List ℕ → ℕ → Reason → Type 0) → Type 0
AreSameFaults F G = (bytes : List ℕ) (place : ℕ) (reason : Reason) → F bytes place reason ↔ G bytes place reason
