-- What is read of a line into the bytes of its message's payload.
use Rattle.std.specs.Prelude.{◌≡◌, ℕ, List, ◌+◌, ◌++◌, length, Option, Some}
use Rattle.std.specs.List.{flat_map}
use Rattle.zk_jute.specs.Item.{Item, bytes_of, HaveBytes}
use Rattle.zk_records.specs.{Records.stat, declared.stat.Stat.Stat}
use Rattle.zk_items.specs.{Encoded.Encoded, Form.Read, Many.many_at}
use Rattle.zk_talk.specs.{Held.Message, declared.message.Kind.Kind, Written.IsWritten, Written.items_of, Written.kind_of}
use Rattle.zk_lines.specs.{Lines.Fits, Lines.line, Series.element_at, Series.series_at}

-- these items have bytes, which are appended
abbrev pub Appended : List Item → List ℕ → List ℕ → Type 0
Appended items old new = HaveBytes items × (new ≡ old ++ bytes_of items)

-- the items of a value and of the Stat after it
abbrev pub with_stat : {X : Type 0} → (X → List Item) → X × Stat → List Item
with_stat items p = items p.0 ++ stat.items p.1

-- the values of a series are read, and the bytes of their items are appended; there are so many
abbrev pub EncodedSeries : {X : Type 0} → ℕ → ℕ → (List ℕ → Read X) → (X → List Item) → ℕ → List ℕ → List ℕ → List ℕ → List ℕ → Type 0
EncodedSeries sep close at items n line rest old new = (c : Encoded (series_at sep close at) (flat_map items) line rest old new) × (n ≡ length c.value)

-- those after the first, which counts too
abbrev pub EncodedOthers : {X : Type 0} → ℕ → ℕ → (List ℕ → Read X) → (X → List Item) → ℕ → List ℕ → List ℕ → List ℕ → List ℕ → Type 0
EncodedOthers sep close at items n line rest old new =
    (c : Encoded (λ bytes. many_at (element_at sep close at) (length bytes) bytes) (flat_map items) line rest old new) × (n ≡ length c.value + 1)

-- a message of this kind is read, and the bytes of its items are appended
pub record EncodedMessage (read : Option Message) (kind : Kind) (old new : List ℕ) : Type 0 where
  pub message : Message
  pub is : read ≡ Some message
  pub kind_is : kind_of message ≡ kind
  pub have : HaveBytes (items_of message)
  pub appended : new ≡ old ++ bytes_of (items_of message)

-- these bytes are the line of a message of this kind, and the bytes of its payload are appended
abbrev pub IsEncoded : Kind → List ℕ → List ℕ → List ℕ → Type 0
IsEncoded kind bytes old new = (p : List ℕ) × (m : Message) × (new ≡ old ++ p) × (bytes ≡ line m) × Fits m × IsWritten kind p m
