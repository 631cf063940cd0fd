-- A value, and then nothing or one boolean: the payloads that open a connection (ZooKeeper 3.4,
-- ClientCnxnSocket.readConnectResult and ZooKeeperServer.processConnectRequest).
use Rattle.std.specs.Prelude.{◌≡◌, ◌≢◌, ℕ, ◌+◌, Bool, List, [], ◌∷◌, ◌++◌, length, Option, Some, None}
use Rattle.zk_jute.specs.{declared.fault.Reason.Reason, declared.fault.Reason.TheVariants.Trailing, Item.Boolean, Item.Item, Item.ABoolean, Item.bytes_of, Item.HaveBytes, Layout.Layout, Layout.End, Layout.One, Layout.IsValueOf}
use Rattle.zk_jute.specs.{Faults.IsFault, Faults.IsTrailing, Faults.Opens, Wired.Wired}
pub use Rattle.zk_jute.specs.Told.{IsReadAs}

abbrev pub flag_items : Option Bool → List Item
flag_items None = []
flag_items (Some b) = ABoolean b ∷ []

abbrev pub flag_layout : Layout
flag_layout = One Boolean End

-- a value's items, and those of the boolean after it
abbrev pub flagged : {X : Type 0} → Wired X → X → Option Bool → List Item
flagged wired value flag = wired.items value ++ flag_items flag

-- the payload is a value, and a boolean where one is there
abbrev pub OneIsFlagged : {X : Type 0} → Wired X → List ℕ → Type 0
OneIsFlagged {X} wired payload = (x : X) × (flag : Option Bool) × HaveBytes (flagged wired x flag) × (payload ≡ bytes_of (flagged wired x flag))

-- the items are those of a value of the layout, and of a boolean where it is there
abbrev pub IsFlagged : Layout → List Item → Type 0
IsFlagged l items = (value : List Item) × (flag : Option Bool) × IsValueOf l value × (items ≡ value ++ flag_items flag)

-- where and why bytes are those of no such items
pub data IsFlaggedFault (l : Layout) : List ℕ → ℕ → Reason → Type 0 where
  in_value : (bytes : List ℕ) (place : ℕ) (reason : Reason) → IsFault (IsValueOf l) bytes place reason → IsFlaggedFault l bytes place reason
  -- bytes after the value are judged as the boolean
  in_flag : (bytes rest : List ℕ) (value : List Item) (behind : ℕ) (reason : Reason) → IsValueOf l value → Opens bytes value rest → rest ≢ []
      → IsFault (IsValueOf flag_layout) rest behind reason → IsFlaggedFault l bytes (length (bytes_of value) + behind) reason
  behind_flag : (bytes rest : List ℕ) (value flag : List Item) → IsValueOf l value → IsValueOf flag_layout flag → Opens bytes (value ++ flag) rest → rest ≢ []
      → IsFlaggedFault l bytes (length (bytes_of (value ++ flag))) Trailing

-- ---- the fault over the openings of the whole

-- the items are a value's, and those of a boolean after it
abbrev pub IsWithFlag : Layout → List Item → Type 0
IsWithFlag l items = (value : List Item) × (flag : List Item) × IsValueOf l value × IsValueOf flag_layout flag × (items ≡ value ++ flag)

-- bytes that are no value alone are judged with the boolean
pub data IsFlaggedOpeningFault (l : Layout) : List ℕ → ℕ → Reason → Type 0 where
  of_either : (bytes : List ℕ) (place : ℕ) (reason : Reason) →
      ((value : List Item) → IsValueOf l value → bytes ≢ bytes_of value) → IsFault (IsWithFlag l) bytes place reason →
      IsFlaggedOpeningFault l bytes place reason
  of_left : (bytes : List ℕ) (place : ℕ) → IsTrailing (IsWithFlag l) bytes place → IsFlaggedOpeningFault l bytes place Trailing
