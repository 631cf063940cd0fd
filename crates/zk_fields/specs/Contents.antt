-- The content of a field in a payload.
use Rattle.std.specs.Prelude.{◌≡◌, ℕ, ◌+◌, List, [], ◌∷◌, take, drop, Option, Some, IfSome}
use Rattle.zk_jute.specs.Item.{AUstring, ABuffer, bytes_of}
use Rattle.zk_fields.specs.{declared.field.Field.Field, Fields.Entry, Fields.Under, Fields.entry_items, Fields.size_of, Fields.field_of}

-- the bytes of a text or a blob that is not null; of all else, all its bytes
abbrev pub content_of : Entry → Option (List ℕ)
content_of (Under name (AUstring t)) = t
content_of (Under name (ABuffer b)) = b
content_of e = Some (bytes_of (entry_items e))

-- the field's stretch of the payload is its content; null has none
abbrev pub IsAt : List ℕ → Field → Option (List ℕ) → Type 0
IsAt payload f content = IfSome content (λ bytes. take f.length (drop f.place payload) ≡ bytes)

-- so it is of each entry's field, from a place on
abbrev pub AreAt : List ℕ → ℕ → List Entry → Type 0
AreAt payload place [] = Unit {0}
AreAt payload place (e ∷ es) = IsAt payload (field_of place e) (content_of e) × AreAt payload (place + size_of e) es
