-- What has bytes fits: numbers, texts, blobs, lists, access lists and stats.
use Rattle.std.proofs.Common.{◌≡◌, ◌^◌, List, [], ◌∷◌, ◌++◌, true, lt-ltb, FitsSigned, w32, w64}
use Rattle.std.specs.Prelude.{ℤ, pos, negsuc}
use Rattle.std.specs.List.{flat_map, AllByRecursion}
use Rattle.zk_jute.specs.{Held.Text, Held.Blob, Held.Vector, Item.Item, Item.HasBytes, Item.HaveBytes, Wired.Wired}
use Rattle.zk_jute.specs.declared.value.Nullable.TheVariants as nullable
use Rattle.zk_jute.specs.Wired as wired
use Rattle.zk_records.specs.Records as records
use Rattle.zk_items.specs.Form.{Form}
use Rattle.zk_items.specs.Form as form
use Rattle.zk_items.specs.Leaf as leaf
use Rattle.zk_items.proofs.Small.{text_small}
use Rattle.zk_lines.specs.Series.{list_of}
use Rattle.zk_lines.specs.Records as lines

-- ---- lists

pub both : {X : Type 0} (P : X → Type 0) (xs ys : List X) → AllByRecursion P (xs ++ ys) → AllByRecursion P xs × AllByRecursion P ys
both P [] ys h = (tt, h)
both P (x ∷ xs) ys h = let r = both P xs ys h.1 in ((h.0, r.0), r.1)

-- the items of either have bytes
pub parted : (xs ys : List Item) → HaveBytes (xs ++ ys) → HaveBytes xs × HaveBytes ys
parted xs ys h = both HasBytes xs ys h

-- where the items of each have bytes, each fits
pub each_held : {X : Type 0} (items : X → List Item) (fits : X → Type 0) → ((x : X) → HaveBytes (items x) → fits x) → (xs : List X) → HaveBytes (flat_map items xs) → AllByRecursion fits xs
each_held items fits held [] h = tt
each_held items fits held (x ∷ xs) h = let r = parted (items x) (flat_map items xs) h in (held x r.0, each_held items fits held xs r.1)

-- ---- items

-- a value whose items have bytes fits the form
pub record Held {X : Type 0} (w : Wired X) (f : Form X) : Type 0 where
  pub held : (x : X) → HaveBytes (w.items x) → f.fits x

infixr 20 ◌with◌
pub ◌with◌ : {X Y : Type 0} {v : Wired X} {w : Wired Y} {f : Form X} {g : Form Y} → Held v f → Held w g → Held (wired.◌and◌ v w) (form.◌and◌ f g)
◌with◌ {v} {w} left right = record { held = λ p h. let r = parted (v.items p.0) (w.items p.1) h in (left.held p.0 r.0, right.held p.1 r.1) }

pub int_fits : (n : ℤ) → FitsSigned w32 n → leaf.in_range 31 n ≡ true
int_fits (pos n) h = lt-ltb n (2 ^ 31) h.sfits
int_fits (negsuc n) h = lt-ltb n (2 ^ 31) h.sfits

pub long_fits : (n : ℤ) → FitsSigned w64 n → leaf.in_range 63 n ≡ true
long_fits (pos n) h = lt-ltb n (2 ^ 63) h.sfits
long_fits (negsuc n) h = lt-ltb n (2 ^ 63) h.sfits

pub int_held : Held wired.int leaf.int
int_held = record { held = λ n h. int_fits n h.0 }

pub long_held : Held wired.long leaf.long
long_held = record { held = λ n h. long_fits n h.0 }

pub bit_held : Held wired.boolean leaf.bit
bit_held = record { held = λ b h. tt }

pub text_held : Held wired.ustring leaf.text
text_held = record { held = fits } where
  fits : (t : Text) → HaveBytes (wired.ustring.items t) → leaf.text_fits t
  fits nullable.Null h = tt
  fits (nullable.Full t) h = (h.0.0, text_small t h.0.0)

pub blob_held : Held wired.buffer leaf.blob
blob_held = record { held = fits } where
  fits : (b : Blob) → HaveBytes (wired.buffer.items b) → leaf.blob_fits b
  fits nullable.Null h = tt
  fits (nullable.Full b) h = h.0.0

pub list_held : {X : Type 0} (w : Wired X) (f : Form X) → Held w f → Held (wired.vector w) (list_of f)
list_held {X} w f is = record { held = fits } where
  fits : (v : Vector X) → HaveBytes ((wired.vector w).items v) → (list_of f).fits v
  fits nullable.Null h = tt
  fits (nullable.Full xs) h = each_held w.items f.fits is.held xs h.1

pub names_held : Held (wired.vector wired.ustring) (list_of leaf.text)
names_held = list_held wired.ustring leaf.text text_held

-- ---- records

pub acl_held : Held records.acl lines.acl
acl_held = record { held = λ a h. (int_held with text_held with text_held).held (a.perms, (a.who.scheme, a.who.ident)) h }

pub acls_held : Held (wired.vector records.acl) (list_of lines.acl)
acls_held = list_held records.acl lines.acl acl_held
