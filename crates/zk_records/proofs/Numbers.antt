-- Each operation and each part has a number of its own.
use Rattle.std.specs.Prelude.{◌≡◌, ◌≢◌, ◌↔◌, ℕ, nat_eq, ℤ, pos, List, map, Option, Some, None, IfSome, MatchOption, Bool, true, false, refl}
use Rattle.std.specs.{List.All, Map.lookup, Ordering.int_eq}
use Rattle.std.proofs.Common.{sym, ap, subst, ◌∙◌, arith}
use Rattle.std.proofs.{lemmas.Bool.Decides.nat_tests, lemmas.Map.Views.IfSome-lookup_from_All, lemmas.Bool.Decides.Decides-int_eq, lemmas.Bool.Decides.not_from_Decides}
use Rattle.zk_records.specs.{declared.op.Op.Op, declared.op.PartOp.PartOp, declared.profile.Profile.Profile}
use Rattle.zk_records.specs.declared.op.Op.TheVariants as ops
use Rattle.zk_records.specs.declared.op.PartOp.TheVariants as parts
use Rattle.zk_records.specs.declared.profile.Profile.TheVariants as profiles
use Rattle.zk_records.specs.declared.profile.TheConstants.{NEWEST}
use Rattle.zk_records.specs.Codes.{profile_number, profile_of, op_row, op_number, all_ops, IsSince, HasOp, part_number, all_parts}

abbrev op_rows : List (ℤ × Op)
op_rows = map (λ op. (op_number op, op)) all_ops

op_again : (op : Op) → lookup (int_eq (op_number op)) op_rows ≡ Some op
op_again ops.Create = refl
op_again _ = refl

-- what holds of each one in the list holds of each operation
pub each_op : (P : Op → Type 0) → All P all_ops → (op : Op) → P op
each_op P all op = subst (λ (o : Option Op). IfSome o P) (op_again op) (IfSome-lookup_from_All P (int_eq (op_number op)) op_rows all)

pub op_number_apart : (a b : Op) → op_number a ≡ op_number b → a ≡ b
op_number_apart a b e =
    let same : ◌≡◌ {A = Option Op} (Some a) (Some b) = sym (op_again a) ∙ ap (λ (n : ℤ). lookup (int_eq n) op_rows) e ∙ op_again b in
    cc

-- a profile's number is its own
pub profile_again : (p : Profile) → profile_of (profile_number p) ≡ Some p
profile_again profiles.V34 = refl
profile_again _ = refl

-- what is told of a number is its profile, or that it has none
pub profile_told : (n : ℕ) (o : Option Profile) → MatchOption o ((p : Profile) → n ≢ profile_number p) (λ p. n ≡ profile_number p) → o ≡ profile_of n
profile_told n (Some p) is = sym (ap profile_of is ∙ profile_again p)
profile_told n None other =
    let first : nat_eq n 34 ≡ false = (let e : n ≢ 34 = other profiles.V34 in grind (arith, nat_tests, e)) in
    let second : nat_eq n 35 ≡ false = (let e : n ≢ 35 = other profiles.V35 in grind (arith, nat_tests, e)) in
    let third : nat_eq n 37 ≡ false = (let e : n ≢ 37 = other profiles.V37 in grind (arith, nat_tests, e)) in
    rw (first, second, third) refl

pub profile_apart : (p q : Profile) → profile_number p ≡ profile_number q → p ≡ q
profile_apart p q e =
    let same : ◌≡◌ {A = Option Profile} (Some p) (Some q) = sym (profile_again p) ∙ ap profile_of e ∙ profile_again q in
    cc

-- the newest profile has what each profile had first
newest_since : (first : Profile) → IsSince first NEWEST
newest_since profiles.V34 = tt
newest_since profiles.V35 = omega arith
newest_since profiles.V37 = omega arith

-- the newest profile has each operation
pub newest_has : (op : Op) → HasOp NEWEST op
newest_has op = newest_since (op_row op).0

-- whether a profile is that of 3.5
abbrev is_second : Profile → Bool
is_second profiles.V35 = true
is_second _ = false

-- the number 15 is that of what the profile of 3.5 has first
second_number : (op : Op) → int_eq (op_number op) (pos 15) ≡ is_second (op_row op).0
second_number ops.Create = refl
second_number _ = refl

-- `older_number`, by the first profile that has an operation
older_by : (first : Profile) (n : ℤ) → int_eq n (pos 15) ≡ is_second first → IsSince first profiles.V35 → IsSince first profiles.V34 ↔ (n ≢ pos 15)
older_by profiles.V34 n same of = ((λ has. not_from_Decides (int_eq n (pos 15)) (Decides-int_eq n (pos 15)) same), (λ other. tt))
older_by profiles.V35 n same of = ((λ has. absurd (omega (arith, has))), (λ other. absurd (other ((Decides-int_eq n (pos 15)).0 same))))
older_by profiles.V37 n same of = absurd (omega (arith, of))

-- what is not of 3.4 has the number 15
pub older_number : (op : Op) → HasOp profiles.V35 op → HasOp profiles.V34 op ↔ (op_number op ≢ pos 15)
older_number op of = older_by (op_row op).0 (op_number op) (second_number op) of

abbrev part_rows : List (ℤ × PartOp)
part_rows = map (λ op. (part_number op, op)) all_parts

part_again : (op : PartOp) → lookup (int_eq (part_number op)) part_rows ≡ Some op
part_again parts.Create = refl
part_again _ = refl

pub each_part : (P : PartOp → Type 0) → All P all_parts → (op : PartOp) → P op
each_part P all op = subst (λ (o : Option PartOp). IfSome o P) (part_again op) (IfSome-lookup_from_All P (int_eq (part_number op)) part_rows all)

pub part_number_apart : (a b : PartOp) → part_number a ≡ part_number b → a ≡ b
part_number_apart a b e =
    let same : ◌≡◌ {A = Option PartOp} (Some a) (Some b) = sym (part_again a) ∙ ap (λ (n : ℤ). lookup (int_eq n) part_rows) e ∙ part_again b in
    cc
