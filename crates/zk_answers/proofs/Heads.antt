-- Headers: bytes begin with one at most, and then have no fault of a header.
use Rattle.std.proofs.Common.{◌≡◌, ℕ, ◌⊎◌, inl, inr, List, ◌++◌, refl, sym, subst, ◌∙◌}
use Rattle.zk_jute.specs.{declared.fault.Reason.Reason, Item.Item, Item.bytes_of, Item.HaveBytes, Layout.IsValueOf}
use Rattle.zk_jute.proofs.{Layouts.bytes_only, Layouts.bytes_both, Layouts.have_parts, Decided.one_fault}
use Rattle.std.specs.Prelude.{ℤ}
use Rattle.zk_jute.proofs.Sequels.{Same, Sequel, excluded, sequel_same, sequel_not}
use Rattle.zk_records.specs.{declared.header.ReplyHeader.ReplyHeader, Records.reply_header}
use Rattle.zk_answers.specs.Faults.{IsHead, IsHeadFault}

pub head_is : (header : ReplyHeader) → HaveBytes (reply_header.items header) → IsValueOf reply_header.layout (reply_header.items header)
head_is header have = (reply_header.unfolds header, have)

pub head_unique : (bytes : List ℕ) (header other : ReplyHeader) (rest more : List ℕ) → IsHead bytes header rest → IsHead bytes other more → (header ≡ other) × (rest ≡ more)
head_unique bytes header other rest more h k =
    let same = bytes_only reply_header.layout (reply_header.items header) (reply_header.items other) rest more (head_is header h.0) (head_is other k.0) (sym h.1 ∙ k.1) in
    (reply_header.tells_apart header other same.0, same.1)

pub head_excludes : (bytes : List ℕ) (header : ReplyHeader) (rest : List ℕ) (p : ℕ) (r : Reason) → IsHead bytes header rest → IsHeadFault bytes p r → ⊥
head_excludes bytes header rest p r h f = excluded reply_header.layout (reply_header.items header) bytes rest p r (head_is header h.0) h.1 f

-- a header and what its items are followed by
pub stands_head : (header : ReplyHeader) (rest : List Item) → HaveBytes (reply_header.items header ++ rest) → IsHead (bytes_of (reply_header.items header ++ rest)) header (bytes_of rest)
stands_head header rest have = ((have_parts (reply_header.items header) rest have).0, bytes_both (reply_header.items header) rest)

-- ---- a fault of a header, or one of what is behind it

module _ (Judged : ReplyHeader → List ℕ → ℕ → Reason → Type 0) where
  abbrev AfterHead : List Item → List ℕ → ℕ → Reason → Type 0
  AfterHead items rest p r = (header : ReplyHeader) × (items ≡ reply_header.items header) × Judged header rest p r

  abbrev pub Headed : List ℕ → ℕ → Reason → Type 0
  Headed bytes p r = IsHeadFault bytes p r ⊎ ((header : ReplyHeader) × (rest : List ℕ) × IsHead bytes header rest × Judged header rest p r)

  sequel : (bytes : List ℕ) (p : ℕ) (r : Reason) → Headed bytes p r → Sequel reply_header.layout AfterHead bytes p r
  sequel bytes p r f = elim f [ inl a ↦ inl a | inr a ↦ inr (reply_header.items a.0, a.1, head_is a.0 a.2.0, a.2.1, (a.0, refl, a.3)) ]

  pub headed_unique : ((header : ReplyHeader) (rest : List ℕ) (p q : ℕ) (r s : Reason) → Judged header rest p r → Judged header rest q s → Same p r q s)
      → (bytes : List ℕ) (p q : ℕ) (r s : Reason) → Headed bytes p r → Headed bytes q s → Same p r q s
  headed_unique judged bytes p q r s f g =
      sequel_same reply_header.layout AfterHead bytes
      (λ items rest p q r s v e a b.
      let same = reply_header.tells_apart b.0 a.0 (sym b.1 ∙ a.1) in
      judged a.0 rest p q r s a.2 (subst (λ (h : ReplyHeader). Judged h rest q s) same b.2))
      p q r s (sequel bytes p r f) (sequel bytes q s g)

  pub headed_excludes : (header : ReplyHeader) (rest : List Item) (p : ℕ) (r : Reason) → HaveBytes (reply_header.items header ++ rest) → (Judged header (bytes_of rest) p r → ⊥)
      → Headed (bytes_of (reply_header.items header ++ rest)) p r → ⊥
  headed_excludes header rest p r have not f =
      let head = stands_head header rest have in
      sequel_not reply_header.layout AfterHead (bytes_of (reply_header.items header ++ rest)) (reply_header.items header) (bytes_of rest) (head_is header head.0) head.1 p r
      (λ a. not (subst (λ (h : ReplyHeader). Judged h (bytes_of rest) p r) (sym (reply_header.tells_apart header a.0 a.1)) a.2))
      (sequel (bytes_of (reply_header.items header ++ rest)) p r f)

-- ---- the xid of the header that the bytes begin with, if they do

pub xid_of : (src : List ℕ) (P : ℤ → Type 0) → (head : (header : ReplyHeader) × (rest : List ℕ) × IsHead src header rest) → P head.0.xid → (header : ReplyHeader) (rest : List ℕ) → IsHead src header rest → P header.xid
xid_of src P head is header rest h = subst (λ (x : ReplyHeader). P x.xid) (head_unique src head.0 header head.1 rest head.2 h).0 is

-- bytes have one fault of a header at most
pub head_fault_unique : (bytes : List ℕ) (p q : ℕ) (r s : Reason) → IsHeadFault bytes p r → IsHeadFault bytes q s → Same p r q s
head_fault_unique bytes p q r s f g = one_fault reply_header.layout bytes p q r s f g
