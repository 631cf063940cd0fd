-- How a call of a handle ends, whatever it holds.
use Rattle.std.specs.Prelude.{◌≡◌, ℕ, ◌⊎◌, List, Option, Some, None, IsSome, IsSomeAnd}
use Rattle.zk_talk.specs.declared.message.Side.{Side}
use Rattle.zk_c.specs.{Numbers.side_of, Handle.AreNoLimits}

-- it ends with a status if the handle holds nothing, and else does this
pub record OnHeld {A : Type 0} (held : Option A) (Ends : ℕ → Type 0) (Does : A → Type 0) : Type 0 where
  pub empty : held ≡ None → Ends 65
  pub does : (x : A) → held ≡ Some x → Does x

-- it ends with a status if the number is no side's or the handle holds nothing, and else does this
pub record OnSide {A : Type 0} (side : ℕ) (held : Option A) (Ends : ℕ → Type 0) (Does : Side → A → Type 0) : Type 0 where
  pub range : side_of side ≡ None → Ends 67
  pub empty : held ≡ None → IsSome (side_of side) → Ends 65
  pub does : (s : Side) (x : A) → side_of side ≡ Some s → held ≡ Some x → Does s x

-- so it writes of a side; nothing is written where it ends with a status
abbrev pub WritesOn : {A E X : Type 0} → (ℕ → X) → (A → Side → List E → List E → X → Type 0) → ℕ → Option A → List E → List E → X → Type 0
WritesOn ended Writes side held before after answer =
    OnSide side held (λ n. (answer ≡ ended n) × (after ≡ before)) (λ s x. Writes x s before after answer)

-- so it takes bytes of a side; the value stays where it ends with a status
abbrev pub TakesOn : {A X : Type 0} → (ℕ → X) → (A → Side → List ℕ → X → Option A → Type 0) → ℕ → List ℕ → Option A → Option A → X → Type 0
TakesOn ended Takes side bytes before after answer =
    OnSide side before (λ n. (answer ≡ ended n) × (after ≡ before)) (λ s x. Takes x s bytes answer after)

-- so it changes what the handle holds, of no side
abbrev pub Changes : {A X : Type 0} → (ℕ → X) → (A → X → Option A → Type 0) → Option A → Option A → X → Type 0
Changes ended Does before after answer = OnHeld before (λ n. (answer ≡ ended n) × (after ≡ before)) (λ x. Does x answer after)

-- so it begins it anew
abbrev pub Renews : {A : Type 0} → (A → A → Type 0) → Option A → Option A → ℕ → Type 0
Renews IsRenewed = Changes (λ n. n) (λ x status after. (status ≡ 0) × IsSomeAnd after (IsRenewed x))

-- how making a value ends, of limits of these numbers
pub record IsMaking {A : Type 0} (client server waiting profile : ℕ) (before : Option A) (status : ℕ) : Type 0 where
  -- a handle that has a value has one still
  pub in_use : IsSome before → status ≡ 66
  -- limits out of their ranges are refused as that, and those in them only if memory is refused
  pub limits : before ≡ None → AreNoLimits client server waiting profile → status ≡ 67
  pub range : status ≡ 67 → AreNoLimits client server waiting profile
  pub others : before ≡ None → (status ≡ 0) ⊎ (status ≡ 5) ⊎ (status ≡ 67)
