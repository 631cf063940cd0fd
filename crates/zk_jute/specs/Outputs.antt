-- What an output does with the bytes that it is given.
use Rattle.std.specs.Prelude.{◌≡◌, ℕ, ◌+◌, ◌<◌, ◌≤◌, List, [], ◌++◌, length, take}
use Rattle.std.proofs.Common.{refl, sym, ap, ◌∙◌, append_assoc, arith}
use Rattle.std.proofs.lemmas.List.{append-nil, length-append, take_at, take-take}
use Rattle.zk_jute.specs.Item.{Keeps}

-- the bytes are appended
abbrev pub Appends : List ℕ → List ℕ → List ℕ → Type 0
Appends before bytes after = after ≡ before ++ bytes

-- of a room for `before` bytes these are used, and `after` are left
abbrev pub Uses : ℕ → List ℕ → ℕ → Type 0
Uses before bytes after = before ≡ length bytes + after

-- there is no room for the bytes
abbrev pub Lacks : ℕ → List ℕ → Type 0
Lacks room bytes = room < length bytes

pub appends_nothing : (a : List ℕ) → Appends a [] a
appends_nothing a = sym (append-nil a)

pub appends_both : (a b c x y : List ℕ) → Appends a x b → Appends b y c → Appends a (x ++ y) c
appends_both a b c x y p q = q ∙ ap (λ (z : List ℕ). z ++ y) p ∙ append_assoc a x y

pub keeps_front : (a b c x : List ℕ) → Appends a x b → Keeps b c → Keeps a c
keeps_front a b c x e keeps =
    let front : take (length a) b ≡ a = ap (take (length a)) e ∙ take_at a x (length a) refl in
    let shorter : length a ≤ length b = omega (arith, ap length e, length-append a x) in
    sym (take-take (length a) (length b) c shorter) ∙ ap (take (length a)) keeps ∙ front

pub uses_nothing : (a : ℕ) → Uses a [] a
uses_nothing a = omega arith

pub uses_both : (a b c : ℕ) (x y : List ℕ) → Uses a x b → Uses b y c → Uses a (x ++ y) c
uses_both a b c x y p q = omega (arith, length-append x y)

pub lacks_first : (a : ℕ) (x y : List ℕ) → Lacks a x → Lacks a (x ++ y)
lacks_first a x y p = omega (arith, length-append x y)

pub lacks_later : (a b : ℕ) (x y : List ℕ) → Uses a x b → Lacks b y → Lacks a (x ++ y)
lacks_later a b x y p q = omega (arith, length-append x y)
