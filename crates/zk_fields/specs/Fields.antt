-- The fields of a message: one for each item, and one for the header of each part of a multi.
use Rattle.std.specs.Prelude.{ℕ, ◌+◌, ℤ, pos, Bool, true, false, List, [], ◌∷◌, length, map, Option, Some, None}
use Rattle.std.specs.List.{flat_map}
use Rattle.zk_jute.specs.Item.{Item, AnInt, ALong, ABoolean, AUstring, ABuffer, ACount}
use Rattle.zk_records.specs.{declared.header.MultiHeader.MultiHeader, Records.multi_header}
use Rattle.zk_fields.specs.declared.field.Field.{Field}
use Rattle.zk_fields.specs.declared.kind.TheConstants.{INT, LONG, BOOLEAN, TEXT, BLOB, LIST, PART}

-- an item under a name, or the header that begins a part or a result
pub data Entry : Type 0 where
  Under : ℕ → Item → Entry
  Head : MultiHeader → Entry

-- all items under one name
abbrev pub named : ℕ → List Item → List Entry
named name items = map (Under name) items

abbrev pub entry_items : Entry → List Item
entry_items (Under name i) = i ∷ []
entry_items (Head h) = multi_header.items h

abbrev pub items_of : List Entry → List Item
items_of entries = flat_map entry_items entries

-- ---- an entry's bytes, and its field

-- a length, and the bytes
abbrev pub run_size : Option (List ℕ) → ℕ
run_size None = 4
run_size (Some bytes) = length bytes + 4

abbrev pub item_size : Item → ℕ
item_size (AnInt n) = 4
item_size (ALong n) = 8
item_size (ABoolean b) = 1
item_size (AUstring t) = run_size t
item_size (ABuffer b) = run_size b
item_size (ACount n) = 4

abbrev pub size_of : Entry → ℕ
size_of (Under name i) = item_size i
size_of (Head h) = 9

-- its content begins after the length
abbrev pub run_field : ℕ → ℕ → ℕ → Option (List ℕ) → Field
run_field place name kind None = record { place = place + 4; length = 0; number = pos 0; name = name; kind = kind; null = 1 }
run_field place name kind (Some bytes) = record { place = place + 4; length = length bytes; number = pos 0; name = name; kind = kind; null = 0 }

abbrev pub bool_number : Bool → ℤ
bool_number true = pos 1
bool_number false = pos 0

abbrev pub item_field : ℕ → ℕ → Item → Field
item_field place name (AnInt n) = record { place = place; length = 4; number = n; name = name; kind = INT; null = 0 }
item_field place name (ALong n) = record { place = place; length = 8; number = n; name = name; kind = LONG; null = 0 }
item_field place name (ABoolean b) = record { place = place; length = 1; number = bool_number b; name = name; kind = BOOLEAN; null = 0 }
item_field place name (AUstring t) = run_field place name TEXT t
item_field place name (ABuffer b) = run_field place name BLOB b
item_field place name (ACount None) = record { place = place; length = 4; number = pos 0; name = name; kind = LIST; null = 1 }
item_field place name (ACount (Some n)) = record { place = place; length = 4; number = pos n; name = name; kind = LIST; null = 0 }

abbrev pub field_of : ℕ → Entry → Field
field_of place (Under name i) = item_field place name i
field_of place (Head h) = record { place = place; length = 9; number = h.kind; name = 0; kind = PART; null = 0 }

-- the bytes of all
abbrev pub size_all : List Entry → ℕ
size_all [] = 0
size_all (e ∷ es) = size_of e + size_all es

-- their fields, in order, from a place of the payload on
abbrev pub fields_from : ℕ → List Entry → List Field
fields_from place [] = []
fields_from place (e ∷ es) = field_of place e ∷ fields_from (place + size_of e) es
