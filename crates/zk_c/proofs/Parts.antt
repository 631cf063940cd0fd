-- The numbers of parts.
use Rattle.std.proofs.Common.{◌≡◌, ℕ, ◌+◌, ◌<◌, ℤ, List, [], ◌∷◌, ◌++◌, length, take, map, get_or, refl, sym, ap, ◌∙◌, arith, subst, Some}
use Rattle.std.proofs.lemmas.List.{map-append, get_or-map, length-map, take_more}
use Rattle.zk_records.specs.{Codes.part_number, Codes.IsNoOp, declared.op.PartOp.PartOp, declared.op.Op.Op}
use Rattle.zk_records.specs.declared.op.PartOp.TheVariants.{Create, Delete, SetData, Check}
use Rattle.zk_records.specs.declared.profile.TheConstants.{NEWEST}
use Rattle.zk_records.proofs.Numbers.{newest_has, op_number_apart}
use Rattle.zk_c.specs.Asked.{part_of, parts_of, AreParts, AreAsked, WhereAsked}

pub one_more : (numbers : List ℤ) (i : ℕ) (d : ℤ) (parts : List PartOp) (op : PartOp) → i < length numbers → AreParts (take i numbers) parts → get_or numbers i d ≡ part_number op
    → AreParts (take (i + 1) numbers) (parts ++ op ∷ [])
one_more numbers i d parts op within are is = take_more numbers i d within ∙ (λ k. are k ++ is k ∷ []) ∙ sym (map-append part_number parts (op ∷ []))

pub none_there : (numbers : List ℤ) (i : ℕ) (d : ℤ) (parts : List PartOp) → i < length numbers → AreParts numbers parts → get_or numbers i d ≡ part_number (get_or parts i Check)
none_there numbers i d parts within are = ap (λ (xs : List ℤ). get_or xs i d) are ∙ get_or-map part_number parts i Check d (omega (arith, within, ap length are, length-map parts part_number))

pub known : (op : PartOp) → part_of (part_number op) ≡ Some op
known Create = refl
known Delete = refl
known SetData = refl
known Check = refl

of_parts : (parts : List PartOp) → parts_of (map part_number parts) ≡ parts
of_parts [] = refl
of_parts (op ∷ parts) = rw (known op) (ap (λ (ops : List PartOp). op ∷ ops) (of_parts parts))

-- numbers are those of one list of parts
pub parts_are : (numbers : List ℤ) (parts : List PartOp) → AreParts numbers parts → parts_of numbers ≡ parts
parts_are numbers parts are = ap parts_of are ∙ of_parts parts

-- and of one operation with its parts
pub one_asked : (number : ℤ) (numbers : List ℤ) (op other : Op) (parts others : List PartOp) → AreAsked number numbers op parts → AreAsked number numbers other others → (op ≡ other) × (parts ≡ others)
one_asked number numbers op other parts others a b = (op_number_apart op other (sym a.is ∙ b.is), sym (parts_are numbers parts a.are) ∙ parts_are numbers others b.are)

-- so what holds of the ones that were found holds where they are asked
pub where_asked : {number same : ℤ} {numbers : List ℤ} {op : Op} {parts : List PartOp} (Holds : Op → List PartOp → Type 0) → same ≡ number → AreAsked same numbers op parts → Holds op parts → WhereAsked number numbers Holds
where_asked {number = number} {numbers = numbers} {op = op} {parts = parts} Holds is asked holds = λ other others are.
    let one = one_asked number numbers op other parts others (subst (λ (n : ℤ). AreAsked n numbers op parts) is asked) are in
    subst (λ (p : Op × List PartOp). Holds p.0 p.1) (λ i. (one.0 i, one.1 i)) holds

-- what was asked by a number is of an operation
pub of_one : {A : Type 0} {number same : ℤ} {numbers : List ℤ} {op : Op} {parts : List PartOp} → same ≡ number → AreAsked same numbers op parts → IsNoOp NEWEST number → A
of_one {op = op} is asked none = absurd (none op (newest_has op) (sym is ∙ asked.is))

pub as_many : (numbers : List ℤ) (parts : List PartOp) → AreParts numbers parts → length numbers ≡ length parts
as_many numbers parts are = ap length are ∙ length-map parts part_number

pub no_parts : (parts : List PartOp) → length parts ≡ 0 → parts ≡ []
no_parts [] e = refl
no_parts (op ∷ parts) e = absurd (omega arith)
