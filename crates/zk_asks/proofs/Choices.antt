-- What is so or is not: numbers, operations, headers, and whether a request may have an xid.
use Rattle.std.proofs.Common.{◌≡◌, ◌≤◌, ℕ, arith, ◌⊎◌, inl, inr, List, [], ◌∷◌, Bool, true, false, refl, ap}
use Rattle.std.specs.Prelude.{ℤ, nat_le}
use Rattle.std.proofs.{lemmas.Bool.cases_Bool, lemmas.Bool.Decides.nat_tests}
use Rattle.std.specs.List.{All}
use Rattle.std.proofs.{lemmas.List.Elements.All-nil, lemmas.List.Elements.All-cons, Math.IntN.ℤ_discrete}
use Rattle.zk_records.specs.{declared.op.Op.Op, declared.header.MultiHeader.MultiHeader, declared.profile.Profile.Profile}
use Rattle.zk_records.specs.declared.op.Op.TheVariants as ops
use Rattle.zk_records.specs.declared.profile.Profile.TheVariants as profiles
use Rattle.zk_records.specs.Codes.{op_row, op_number, all_ops, profile_number, IsSince, HasOp, IsNoOp, all_parts}
use Rattle.zk_records.proofs.Numbers.{each_op, each_part, op_number_apart}
use Rattle.zk_asks.specs.{Codes.event_xid, Codes.ping_xid, Codes.auth_xid, Codes.watches_xid, Codes.IsAllowed, Parts.part_header, Parts.end_header, Parts.MayStand}

abbrev pub Decided : Type 0 → Type 0
Decided A = A ⊎ (A → ⊥)

pub int_decided : (a b : ℤ) → Decided (a ≡ b)
int_decided a b = elim (ℤ_discrete a b) [ yes e ↦ inl e | no n ↦ inr n ]

bool_decided : (a b : Bool) → Decided (a ≡ b)
bool_decided true true = inl refl
bool_decided true false = inr (λ e. absurd cc)
bool_decided false true = inr (λ e. absurd cc)
bool_decided false false = inl refl

both_decided : {A B : Type 0} → Decided A → Decided B → Decided (A × B)
both_decided (inl a) (inl b) = inl (a, b)
both_decided (inl a) (inr n) = inr (λ p. n p.1)
both_decided (inr n) b = inr (λ p. n p.0)

not_decided : {A : Type 0} → Decided A → Decided (A → ⊥)
not_decided (inl a) = inr (λ n. n a)
not_decided (inr n) = inl n

if_decided : {A B : Type 0} → Decided A → Decided B → Decided (A → B)
if_decided (inl a) (inl b) = inl (λ _. b)
if_decided (inl a) (inr n) = inr (λ f. n (f a))
if_decided (inr n) b = inl (λ a. absurd (n a))

-- ---- operations

op_decided : (a b : Op) → Decided (a ≡ b)
op_decided a b = elim (int_decided (op_number a) (op_number b)) [ inl e ↦ inl (op_number_apart a b e) | inr n ↦ inr (λ e. n (ap op_number e)) ]

pub allowed_decided : (xid : ℤ) (op : Op) → Decided (IsAllowed xid op)
allowed_decided xid op =
    let all =
    both_decided (not_decided (int_decided xid event_xid))
    (both_decided (both_decided (if_decided (op_decided op ops.Ping) (int_decided xid ping_xid)) (if_decided (int_decided xid ping_xid) (op_decided op ops.Ping)))
    (both_decided (both_decided (if_decided (op_decided op ops.Auth) (int_decided xid auth_xid)) (if_decided (int_decided xid auth_xid) (op_decided op ops.Auth)))
    (if_decided (int_decided xid watches_xid) (op_decided op ops.SetWatches)))) in
    elim all [ inl p ↦ inl (p.0, p.1.0, p.1.1.0, p.1.1.1) | inr n ↦ inr (λ a. n (a.0, (a.1, (a.2, a.3)))) ]

among : {X : Type 0} (P : X → Type 0) → ((x : X) → Decided (P x)) → (xs : List X) → ((x : X) × P x) ⊎ All (λ x. P x → ⊥) xs
among P decide [] = inr (All-nil (λ x. P x → ⊥))
among {X} P decide (x ∷ xs) = elim (decide x) [
  | inl p ↦ inl (x, p)
  | inr n ↦ elim (among P decide xs) [ inl q ↦ inl q | inr none ↦ inr (All-cons (λ x. P x → ⊥) x xs n none) ]
]

at_most_decided : (a b : ℕ) → Decided (a ≤ b)
at_most_decided a b = elim (cases_Bool (nat_le a b)) [ inl is ↦ inl (grind (arith, nat_tests)) | inr not ↦ inr (λ e. grind (arith, nat_tests)) ]

since_decided : (first profile : Profile) → Decided (IsSince first profile)
since_decided profiles.V34 profile = inl tt
since_decided first profile = at_most_decided (profile_number first) (profile_number profile)

-- the operation of a number
pub number_decided : (profile : Profile) (number : ℤ) → ((op : Op) × HasOp profile op × (number ≡ op_number op)) ⊎ IsNoOp profile number
number_decided profile number =
    let found = among (λ op. HasOp profile op × (number ≡ op_number op)) (λ op. both_decided (since_decided (op_row op).0 profile) (int_decided number (op_number op))) all_ops in
    elim found [
      | inl f ↦ inl (f.0, f.1.0, f.1.1)
      | inr none ↦ inr (λ op has is. each_op (λ op. HasOp profile op × (number ≡ op_number op) → ⊥) none op (has, is))
    ]

-- ---- headers of parts

pub header_decided : (h g : MultiHeader) → Decided (h ≡ g)
header_decided h g =
    elim (both_decided (int_decided h.kind g.kind) (both_decided (bool_decided h.done g.done) (int_decided h.err g.err))) [
      | inl e ↦ inl (λ i. record { kind = e.0 i; done = e.1.0 i; err = e.1.1 i })
      | inr n ↦ inr (λ e. n (ap (λ (z : MultiHeader). z.kind) e, (ap (λ (z : MultiHeader). z.done) e, ap (λ (z : MultiHeader). z.err) e)))
    ]

-- which header may stand in a multi
pub header_may : (h : MultiHeader) → Decided (MayStand h)
header_may h =
    elim (among (λ op. h ≡ part_header op) (λ op. header_decided h (part_header op)) all_parts) [
      | inl f ↦ inl (inl f)
      | inr none ↦ elim (header_decided h end_header) [
        | inl e ↦ inl (inr e)
        | inr n ↦ inr (λ m. elim m [ inl f ↦ each_part (λ op. h ≡ part_header op → ⊥) none f.0 f.1 | inr e ↦ n e ])
      ]
    ]
