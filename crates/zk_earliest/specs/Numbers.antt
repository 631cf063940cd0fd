-- Which numbers a length or a count can be, and how many bytes of a number are possible.
use Rattle.std.specs.Prelude.{◌≡◌, ℕ, ◌+◌, ◌-◌, ◌*◌, ◌/◌, ◌≤◌, ◌⊎◌, List, drop, true, Option, Some, None, Result, Ok, Err}
use Rattle.std.specs.Int.{w32, from_be_bytes}
use Rattle.zk_earliest.specs.declared.possible_lengths.Numbers.{Numbers}

abbrev pub IsOne : Numbers → ℕ → Type 0
IsOne s n = ((s.null ≡ true) × (n ≡ 4294967295)) ⊎ ((s.from ≤ n) × (n ≤ s.to)) ⊎ (n ≡ s.also)

-- the numbers agree but for what is below `unit`
abbrev pub IsNear : ℕ → ℕ → ℕ → Type 0
IsNear unit number n = (number / unit * unit ≤ n) × (n ≤ number / unit * unit + (unit - 1))

-- one of the numbers agrees but for what is below `unit`, and none but for what is below `next`
abbrev pub IsBest : (ℕ → Type 0) → ℕ → ℕ → ℕ → Type 0
IsBest May number unit next = ((n : ℕ) × May n × IsNear unit number n) × ((n : ℕ) → May n → IsNear next number n → ⊥)

-- how many first bytes of a number are possible, where the whole isn't
pub data IsFront (May : ℕ → Type 0) (number : ℕ) : Option ℕ → Type 0 where
  whole : May number → IsFront May number None
  three : IsBest May number 256 1 → IsFront May number (Some 3)
  two : IsBest May number 65536 256 → IsFront May number (Some 2)
  one : IsBest May number 16777216 65536 → IsFront May number (Some 1)
  no_byte : (n : ℕ) → May n → ((n : ℕ) → May n → IsNear 16777216 number n → ⊥) → IsFront May number (Some 0)

-- the number at a place, if it is possible; else the first of its four bytes that none of them has
abbrev pub IsNumberAt : Numbers → List ℕ → ℕ → Result ℕ ℕ → Type 0
IsNumberAt numbers src place (Ok n) = (n ≡ from_be_bytes w32 (drop place src)) × IsOne numbers n
IsNumberAt numbers src place (Err stuck) = (k : ℕ) × (stuck ≡ place + k) × IsFront (IsOne numbers) (from_be_bytes w32 (drop place src)) (Some k)
