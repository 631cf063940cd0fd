-- The fixed words of a line: those before a field, and the signs.
use Rattle.std.specs.Prelude.{List, ℕ, codes}
use Rattle.zk_items.specs.Form.{Form, Read, led, word_at, ◌>>=◌}
use Rattle.zk_lines.specs.declared.word.Word.{Word}
use Rattle.zk_lines.specs.declared.word.Word.TheVariants as words

-- the bytes of a word
unfoldable pub word_of : Word → List ℕ
word_of words.Acl = codes " acl="
word_of words.Auth = codes " auth="
word_of words.Blank = codes " "
word_of words.Blob = codes " blob="
word_of words.ChildWatches = codes " childWatches="
word_of words.Close = codes ")"
word_of words.Code = codes " code="
word_of words.Colon = codes ":"
word_of words.Comma = codes ","
word_of words.Config = codes " config="
word_of words.Count = codes " count="
word_of words.DataWatches = codes " dataWatches="
word_of words.Err = codes " err="
word_of words.ExistWatches = codes " existWatches="
word_of words.Flags = codes " flags="
word_of words.Joining = codes " joining="
word_of words.Kind = codes " kind="
word_of words.Leaving = codes " leaving="
word_of words.Members = codes " members="
word_of words.Mode = codes " mode="
word_of words.Names = codes " names="
word_of words.Open = codes "("
word_of words.Parts = codes " {"
word_of words.Passwd = codes " passwd="
word_of words.Path = codes " path="
word_of words.ReadOnly = codes " ro="
word_of words.Scheme = codes " scheme="
word_of words.Session = codes " session="
word_of words.Stat = codes " stat="
word_of words.State = codes " state="
word_of words.Timeout = codes " timeout="
word_of words.Ttl = codes " ttl="
word_of words.Version = codes " version="
word_of words.Watch = codes " watch="
word_of words.Zxid = codes " zxid="

-- what is read where the word comes first: what `at` reads after it
abbrev pub field_at : {X : Type 0} → Word → (List ℕ → Read X) → List ℕ → Read X
field_at word at bytes = word_at (word_of word) bytes >>= at

-- a field: its word, and then its value
abbrev pub field : {X : Type 0} → Word → Form X → Form X
field word f = led (word_of word) f
