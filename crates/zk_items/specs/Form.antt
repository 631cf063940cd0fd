-- Forms: which values of a type are spelled, how, and how a spelling is read from the left.
use Rattle.std.specs.Prelude.{◌≡◌, ◌≢◌, ℕ, List, [], ◌∷◌, ◌++◌, Option, Some, None, Result, Ok, Err, Bool, true, false, ◌==◌, ◌&&◌, ◌||◌, nat_le, if◌then◌else◌}
use Rattle.std.specs.Io.{StartsWith}
use Rattle.zk_items.specs.{declared.fault.LineFault.LineFault, declared.fault.LineReason.TheVariants.NoMemory}

-- a letter, a digit, `-` or `/`: what may go on a number, a name or a blob
abbrev pub in_item : ℕ → Bool
in_item b = (nat_le 48 b && nat_le b 57) || (nat_le 65 b && nat_le b 90) || (nat_le 97 b && nat_le b 122) || b == 45 || b == 47

-- an item may end before these bytes
abbrev pub stops : List ℕ → Bool
stops [] = true
stops (b ∷ rest) = if in_item b then false else true

infixl 10 ◌>>=◌
abbrev pub ◌>>=◌ : {A B : Type 0} → Option A → (A → Option B) → Option B
None >>= f = None
(Some x) >>= f = f x

-- what is left after a fixed word
unfoldable pub word_at : List ℕ → List ℕ → Option (List ℕ)
word_at [] bytes = Some bytes
word_at (c ∷ w) [] = None
word_at (c ∷ w) (d ∷ bytes) = if c == d then word_at w bytes else None

-- a value and what is left after it
abbrev pub Read : Type 0 → Type 0
Read X = Option (X × List ℕ)

abbrev pub read_map : {X Y : Type 0} → (X → Y) → Read X → Read Y
read_map f read = read >>= λ q. Some (f q.0, q.1)

pub record Form (X : Type 0) : Type 1 where
  -- the values that have a spelling
  pub fits : X → Type 0
  pub spell : X → List ℕ
  -- the value that is spelled in front, whatever an item may be followed by
  pub at : List ℕ → Read X

-- ---- what a reader returns

-- an error other than of memory is returned only where nothing is read
abbrev pub Fails : {A : Type 0} → LineFault → Option A → Type 0
Fails e read = e.reason ≢ NoMemory → read ≡ None

-- the result, and what is left after it
abbrev pub Gives : {X : Type 0} → Result X LineFault → List ℕ → Read X → Type 0
Gives (Ok x) rest read = read ≡ Some (x, rest)
Gives (Err e) rest read = Fails e read

-- the result as it is seen
abbrev pub GivesSeen : {X Y : Type 0} → (X → Y) → Result X LineFault → List ℕ → Read Y → Type 0
GivesSeen view (Ok x) rest read = read ≡ Some (view x, rest)
GivesSeen view (Err e) rest read = Fails e read

-- a word was passed
abbrev pub Passes : Result (Unit {0}) LineFault → List ℕ → Option (List ℕ) → Type 0
Passes (Ok x) rest read = read ≡ Some rest
Passes (Err e) rest read = Fails e read

-- the result, of a whole line
abbrev pub Answers : {X : Type 0} → Result X LineFault → Option X → Type 0
Answers (Ok x) read = read ≡ Some x
Answers (Err e) read = Fails e read

-- ---- what a writer leaves

-- whatever the bytes began with, they begin with
abbrev pub Keeps : List ℕ → List ℕ → Type 0
Keeps old new = (front : List ℕ) → StartsWith old front → StartsWith new front

-- ---- forms of forms

-- a word in front
abbrev pub led : {X : Type 0} → List ℕ → Form X → Form X
led w f = record {
  fits = f.fits;
  spell = λ x. w ++ f.spell x;
  at = λ bytes. word_at w bytes >>= f.at;
}

-- a word after it
abbrev pub closed : {X : Type 0} → Form X → List ℕ → Form X
closed f w = record {
  fits = f.fits;
  spell = λ x. f.spell x ++ w;
  at = λ bytes. f.at bytes >>= λ q. word_at w q.1 >>= λ rest. Some (q.0, rest);
}

-- a value of one form after a value of another
infixr 20 ◌and◌
abbrev pub ◌and◌ : {X Y : Type 0} → Form X → Form Y → Form (X × Y)
f and g = record {
  fits = λ p. f.fits p.0 × g.fits p.1;
  spell = λ p. f.spell p.0 ++ g.spell p.1;
  at = λ bytes. f.at bytes >>= λ p. g.at p.1 >>= λ q. Some ((p.0, q.0), q.1);
}

-- a record by its fields
abbrev pub fields : {X Y : Type 0} → Form Y → (X → Y) → (Y → X) → Form X
fields f out made = record {
  fits = λ x. f.fits (out x);
  spell = λ x. f.spell (out x);
  at = λ bytes. f.at bytes >>= λ q. Some (made q.0, q.1);
}
