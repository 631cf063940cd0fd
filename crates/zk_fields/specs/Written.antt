-- The frame that is written of fields: for each field the bytes of the items that it says.
use Rattle.std.specs.Prelude.{◌≡◌, ℕ, zero, suc, ◌+◌, ◌<◌, ◌≤◌, ◌^◌, ℤ, pos, negsuc, ◌==◌, if◌then◌else◌, nat_lt, nat_le, Bool, true, false, List, [], ◌∷◌, ◌++◌, length, take, drop, get_or, Option, Some, None, Result, Ok, Err}
use Rattle.std.specs.{Option.option_map, Option.option_and_then, List.slice_get, Ordering.int_eq, Str.Lossy.utf8_valid_len}
use Rattle.zk_jute.specs.Item.{Item, AnInt, ALong, ABoolean, AUstring, ABuffer, ACount, bytes_of, run_bytes}
use Rattle.zk_records.specs.{declared.header.MultiHeader.MultiHeader, Records.multi_header, Records.reply_header, Codes.op_number}
use Rattle.zk_asks.specs.Held.{ClientFrame}
use Rattle.zk_asks.specs.Frames as asks
use Rattle.zk_answers.specs.Held.{Reply, ServerFrame}
use Rattle.zk_answers.specs.Frames as answers
pub use Rattle.zk_fields.specs.Rows.{behind_of}
use Rattle.zk_fields.specs.{Frames.client_fields, Frames.server_fields, declared.field.Field.Field, Heads.plain_head, declared.value.Heads.Heads, declared.write.Unwritten.Unwritten}
use Rattle.zk_fields.specs.declared.kind.TheConstants.{INT, LONG, BOOLEAN, TEXT, BLOB, LIST, PART}
use Rattle.zk_fields.specs.declared.value.Heads.TheVariants as head
use Rattle.zk_fields.specs.declared.write.Unwritten.TheVariants as unwritten

-- a number that an int can say
abbrev pub int_said : ℤ → Option ℤ
int_said (pos n) = if nat_lt n 2147483648 then Some (pos n) else None
int_said (negsuc n) = if nat_lt n 2147483648 then Some (negsuc n) else None

abbrev pub bool_said : ℤ → Option Bool
bool_said (pos zero) = Some false
bool_said (pos (suc zero)) = Some true
bool_said (pos (suc (suc n))) = None
bool_said (negsuc n) = None

abbrev pub count_said : ℤ → Option ℕ
count_said (pos n) = if nat_lt n 2147483648 then Some n else None
count_said (negsuc n) = None

-- the number of a field that isn't null
abbrev pub number_said : Field → Option ℤ
number_said f = if f.null == 0 then Some f.number else None

-- such a number that an int can say
abbrev pub int_number : Field → Option ℤ
int_number f = option_and_then int_said (number_said f)

-- the bytes of the content, if they are all there and an int can count them
abbrev pub stretch_said : List ℕ → Field → Option (List ℕ)
stretch_said content f = if nat_le (f.place + f.length) (length content)
    then (if nat_lt f.length 2147483648 then Some (take f.length (drop f.place content)) else None) else None

-- null, or these
abbrev pub run_said : List ℕ → Field → Option (Option (List ℕ))
run_said content f = if f.null == 0 then option_map Some (stretch_said content f) else Some None

abbrev pub utf8_said : Option (List ℕ) → Option (Option (List ℕ))
utf8_said None = Some None
utf8_said (Some t) = if utf8_valid_len t == length t then Some (Some t) else None

abbrev pub list_said : Field → Option (Option ℕ)
list_said f = if f.null == 0 then option_map Some (count_said f.number) else Some None

-- a field, and the one after it
abbrev pub Pair : Type 0
Pair = Field × Option Field

abbrev pub pairs : List Field → List Pair
pairs [] = []
pairs (f ∷ fs) = (f, slice_get fs 0) ∷ pairs fs

-- the number of an int's field
abbrev pub error_said : Option Field → Option ℤ
error_said None = None
error_said (Some f) = if f.kind == INT then int_number f else None

-- the err in the header of a result; in that of an error, whose number is -1, it is the int after the header
abbrev pub result_err : ℤ → Option Field → Option ℤ
result_err n next = if int_eq n (negsuc 0) then error_said next else Some (pos 0)

-- in that of a request's part it is -1
abbrev pub head_err : Heads → ℤ → Option Field → Option ℤ
head_err head.Parts n next = Some (negsuc 0)
head_err head.Results n next = result_err n next

-- the header of a part or a result with this number
abbrev pub head_said : Heads → Option Field → ℤ → Option MultiHeader
head_said heads next n = option_map (plain_head n) (head_err heads n next)

-- what a field says by its kind, if it says anything
abbrev pub said : Heads → List ℕ → Pair → Option (List Item)
said heads content (f, next) =
    if f.kind == INT then option_map (λ n. AnInt n ∷ []) (int_number f)
    else if f.kind == LONG then option_map (λ n. ALong n ∷ []) (number_said f)
    else if f.kind == BOOLEAN then option_map (λ b. ABoolean b ∷ []) (option_and_then bool_said (number_said f))
    else if f.kind == TEXT then option_map (λ t. AUstring t ∷ []) (option_and_then utf8_said (run_said content f))
    else if f.kind == BLOB then option_map (λ b. ABuffer b ∷ []) (run_said content f)
    else if f.kind == LIST then option_map (λ n. ACount n ∷ []) (list_said f)
    else if f.kind == PART then option_map multi_header.items (option_and_then (head_said heads next) (int_number f))
    else None

-- what the field of this index says, or `d` if there is none
abbrev pub said_at : Heads → List ℕ → List Field → ℕ → Pair → Option (List Item)
said_at heads content fields index d = said heads content (get_or (pairs fields) index d)

-- the items after the fields of a reply: one that failed has none
abbrev pub done_behind : ℤ → ℤ → List Item
done_behind err op = if int_eq err (pos 0) then behind_of op else []

-- a reply's header
abbrev pub answer_front : ℤ → ℤ → ℤ → List Item
answer_front xid zxid err = reply_header.items (record { xid = xid; zxid = zxid; err = err })

-- a reply with this header, to an operation of this number
abbrev pub IsHeaded : ℤ → ℤ → ℤ → ℤ → Reply → Type 0
IsHeaded xid zxid err op r = (answers.header_of r ≡ record { xid = xid; zxid = zxid; err = err }) × (op ≡ op_number (answers.op_of_reply r))

-- what all say, if each says something
abbrev pub said_with : Option (List Item) → Option (List Item) → Option (List Item)
said_with first others = option_and_then (λ x. option_map (λ y. x ++ y) others) first

abbrev pub all_said : Heads → List ℕ → List Pair → Option (List Item)
all_said heads content [] = Some []
all_said heads content (p ∷ ps) = said_with (said heads content p) (all_said heads content ps)

-- ---- the frame

-- an int can say how long the payload is
abbrev pub MayBe : List Item → Type 0
MayBe items = length (bytes_of items) < 2 ^ 31

-- the length, and the payload
abbrev pub frame : List Item → List ℕ
frame items = run_bytes (Some (bytes_of items))

-- the items of a payload: before the fields, theirs, and after them
abbrev pub payload_items : List Item → List Item → List Item → List Item
payload_items front items behind = front ++ (items ++ behind)

-- the room begins with these bytes, and is else as before
abbrev pub Holds : List ℕ → List ℕ → List ℕ → Type 0
Holds bytes before after = after ≡ bytes ++ drop (length bytes) before

-- the frame of what the fields say between these items is at the front of the room, or it is unchanged, and this is why
abbrev pub IsUnwritten : Heads → List Item → List Item → List ℕ → List Pair → ℕ → Unwritten → Type 0
IsUnwritten heads front behind content ps room (unwritten.Wrong i) =
    (items : List Item) × (p : Pair) × (all_said heads content (take i ps) ≡ Some items) ×
    MayBe (payload_items front items behind) × (slice_get ps i ≡ Some p) × (said heads content p ≡ None)
IsUnwritten heads front behind content ps room (unwritten.Long i) =
    (items : List Item) × (more : List Item) × (all_said heads content (take i ps) ≡ Some items) ×
    MayBe (payload_items front items behind) × (all_said heads content (take (i + 1) ps) ≡ Some more) ×
    (2 ^ 31 ≤ length (bytes_of (payload_items front more behind)))
IsUnwritten heads front behind content ps room (unwritten.Room size) =
    (items : List Item) × (all_said heads content ps ≡ Some items) × MayBe (payload_items front items behind) ×
    (size ≡ length (frame (payload_items front items behind))) × (room < size)

abbrev pub Writes : Heads → List Item → List Item → List ℕ → List Field → List ℕ → Result ℕ Unwritten → List ℕ → Type 0
Writes heads front behind content fields before (Ok size) after =
    (items : List Item) × (all_said heads content (pairs fields) ≡ Some items) × MayBe (payload_items front items behind) ×
    (size ≡ length (frame (payload_items front items behind))) × (size ≤ length before) ×
    Holds (frame (payload_items front items behind)) before after
Writes heads front behind content fields before (Err why) after =
    IsUnwritten heads front behind content (pairs fields) (length before) why × (after ≡ before)

-- what is written of these fields, over the payload of these items, is its frame, if there is room for it
abbrev pub Again : List Item → List Field → List ℕ → List Field → List ℕ → Result ℕ Unwritten → List ℕ → Type 0
Again items own content fields before result after =
    content ≡ bytes_of items → fields ≡ own → MayBe items → length (frame items) ≤ length before →
    (result ≡ Ok (length (frame items))) × Holds (frame items) before after

-- so it is of a sent message's own fields, over its payload
abbrev pub WritesAgain : ClientFrame → List ℕ → List Field → List ℕ → Result ℕ Unwritten → List ℕ → Type 0
WritesAgain f content fields before result after =
    asks.IsSent f → Again (asks.frame_items f) (client_fields f) content fields before result after

abbrev pub AnswersAgain : ServerFrame → List ℕ → List Field → List ℕ → Result ℕ Unwritten → List ℕ → Type 0
AnswersAgain s content fields before result after =
    answers.IsSent s → Again (answers.frame_items s) (server_fields s) content fields before result after
