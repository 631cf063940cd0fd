-- What a judge's verdict says of reading.
use Rattle.std.specs.Prelude.{◌≡◌, ℕ, List, Option, Result, Ok, Err, IfSome}
use Rattle.zk_jute.specs.{declared.fault.ItemFault.ItemFault, Item.Item, Told.StandsAt, Reading.Read, Reading.Fails, Reading.end_of}

-- the verdict reports no other fault than one of these
abbrev pub Says : {V : Type 0} → (V → Option ItemFault) → (ItemFault → Type 0) → V → Type 0
Says tells IsIt v = IfSome (tells v) IsIt

-- the result is the answer; a fault that its verdict reports is the answer's
abbrev pub Keeps : {V X : Type 0} → (V → Option ItemFault) → Result X V → Result X ItemFault → Type 0
Keeps tells (Ok x) answer = answer ≡ Ok x
Keeps tells (Err v) answer = Says tells (λ e. answer ≡ Err e) v

-- the place is the one of the answer; a fault that the verdict reports is the answer's
abbrev pub KeepsPlace : {V X : Type 0} → (V → Option ItemFault) → Result ℕ V → Result (X × ℕ) ItemFault → Type 0
KeepsPlace {X} tells (Ok end) answer = (x : X) × (answer ≡ Ok (x, end))
KeepsPlace tells (Err v) answer = Says tells (λ e. answer ≡ Err e) v

-- the place is the one after what reading gives; a fault that the verdict reports is that of reading
abbrev pub Judges : {V : Type 0} → (V → Option ItemFault) → Result ℕ V → Read (List Item) → Type 0
Judges tells (Ok end) read = end_of read ≡ Ok end
Judges tells (Err v) read = Says tells (λ e. Fails e read) v

-- items of these are at the place, and end there
abbrev pub IsValueAt : (List Item → Type 0) → List ℕ → ℕ → ℕ → Type 0
IsValueAt Value src place end = (items : List Item) × Value items × StandsAt items src place end
