-- The room in which fields are written, as many as it has places for.
use Rattle.std.specs.Prelude.{◌≡◌, ℕ, ◌+◌, ◌<◌, ◌≤◌, ◌^◌, List, [], ◌∷◌, length, set}
use Rattle.zk_fields.specs.{declared.field.Field.Field, declared.field.At.At, Fields.Entry, Fields.items_of, Fields.size_all, Fields.fields_from}
use Rattle.zk_jute.specs.Item.{HaveBytes}

-- the fields are written from this place of the room on; those beyond its end are left out
abbrev pub written : ℕ → List Field → List Field → List Field
written count [] room = room
written count (f ∷ fs) room = written (count + 1) fs (set room count f)

abbrev pub after_one : At → ℕ → At
after_one at size = record { count = at.count + 1; place = at.place + size }

abbrev pub after : At → List Entry → At
after at es = record { count = at.count + length es; place = at.place + size_all es }

-- they have bytes, and their places are numbers of 32 bits
abbrev pub Fits : At → List Entry → Type 0
Fits at es = (at.count ≤ at.place) × (at.place + size_all es < 2 ^ 32) × HaveBytes (items_of es)

-- a field of `size` bytes is written
abbrev pub Puts : At → List Field → Field → ℕ → At → List Field → Type 0
Puts at room field size next new = at.count ≤ at.place → 1 ≤ size → at.place + size < 2 ^ 32 → (next ≡ after_one at size) × (new ≡ set room at.count field)

-- the entries' fields are written, and the place goes on by their bytes
unfoldable pub Takes : At → List Field → List Entry → At → List Field → Type 0
Takes at room es next new = Fits at es → (next ≡ after at es) × (new ≡ written at.count (fields_from at.place es) room)
