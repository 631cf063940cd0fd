-- What a reply is judged by, in numbers.
use Rattle.std.specs.Prelude.{◌≡◌, ◌≢◌, ℕ, ℤ, pos, negsuc, ◌<◌, ◌^◌, ◌==◌, if◌then◌else◌, List, [], length, map, Option, Some, None}
use Rattle.std.specs.List.{filter_map}
use Rattle.zk_records.specs.{declared.op.Op.Op, declared.op.Op.TheVariants.Multi, declared.op.PartOp.PartOp, Codes.op_number, Codes.part_number}
use Rattle.zk_records.specs.declared.op.PartOp.TheVariants.{Create, Delete, SetData, Check}

-- the part that has the number, if one has
abbrev pub part_with : ℕ → Option PartOp
part_with n = if n == 1 then Some Create else if n == 2 then Some Delete else if n == 5 then Some SetData else if n == 13 then Some Check else None

abbrev pub part_of : ℤ → Option PartOp
part_of (pos n) = part_with n
part_of (negsuc n) = None

-- the parts of these numbers
abbrev pub parts_of : List ℤ → List PartOp
parts_of numbers = filter_map part_of numbers

-- the numbers are those of parts
abbrev pub AreParts : List ℤ → List PartOp → Type 0
AreParts numbers parts = numbers ≡ map part_number parts

-- the numbers are those of an operation and of its parts, which a multi has alone
pub record AreAsked (number : ℤ) (numbers : List ℤ) (op : Op) (parts : List PartOp) : Type 0 where
  pub is : number ≡ op_number op
  pub are : AreParts numbers parts
  pub few : length parts < 2 ^ 32
  pub lawful : op ≢ Multi → parts ≡ []

-- the numbers are those of no operation and its parts
abbrev pub AreNoneAsked : ℤ → List ℤ → Type 0
AreNoneAsked number numbers = (op : Op) (parts : List PartOp) → AreAsked number numbers op parts → ⊥

-- this holds of the operation and the parts whose numbers they are
abbrev pub WhereAsked : ℤ → List ℤ → (Op → List PartOp → Type 0) → Type 0
WhereAsked number numbers Holds = (op : Op) (parts : List PartOp) → AreAsked number numbers op parts → Holds op parts
