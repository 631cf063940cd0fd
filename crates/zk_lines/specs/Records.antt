-- Two records that are items: an entry of an access list, and a Stat.
use Rattle.std.specs.Prelude.{ℕ, ℤ, List, ◌++◌}
use Rattle.std.specs.Fmt.{signed_decimal}
use Rattle.zk_records.specs.{Held.Acl, declared.acl.IdOf.IdOf, declared.acl.AclOf.AclOf, declared.stat.Stat.Stat}
use Rattle.zk_records.specs.Made as made
use Rattle.zk_items.specs.Form.{Form, closed, fields, ◌and◌}
use Rattle.zk_items.specs.Leaf.{int, long, text}
use Rattle.zk_lines.specs.Words.{word_of, field}
use Rattle.zk_lines.specs.declared.word.Word.TheVariants.{Close, Colon, Comma, Open}

-- perms, scheme and ident
abbrev pub acl_of : {X : Type 0} → Form X → Form (AclOf (IdOf X))
acl_of t = fields (int and field Colon t and field Colon t)
    (λ a. (a.perms, (a.who.scheme, a.who.ident)))
    (λ x. made.acl (x.0, made.id x.1))

abbrev pub acl : Form Acl
acl = acl_of text

-- such an entry, where its texts are spelled so
abbrev pub entry : {X : Type 0} → (X → List ℕ) → ℤ → X → X → List ℕ
entry spell perms scheme ident = signed_decimal perms ++ ((word_of Colon ++ spell scheme) ++ (word_of Colon ++ spell ident))

-- two values with a comma between
abbrev pub row : {X Y : Type 0} → Form X → Form Y → Form (X × Y)
row f g = f and field Comma g

-- the eleven numbers in order
abbrev pub numbers : Form (ℤ × (ℤ × (ℤ × (ℤ × (ℤ × (ℤ × (ℤ × (ℤ × (ℤ × (ℤ × ℤ))))))))))
numbers = row long (row long (row long (row long (row int (row int (row int (row long (row int (row int long)))))))))

abbrev pub numbers_of : Stat → ℤ × (ℤ × (ℤ × (ℤ × (ℤ × (ℤ × (ℤ × (ℤ × (ℤ × (ℤ × ℤ)))))))))
numbers_of s = (s.czxid, (s.mzxid, (s.ctime, (s.mtime, (s.version, (s.cversion, (s.aversion, (s.ephemeral_owner, (s.data_length, (s.num_children, s.pzxid))))))))))

abbrev pub stat : Form Stat
stat = fields (closed (field Open numbers) (word_of Close)) numbers_of made.stat
