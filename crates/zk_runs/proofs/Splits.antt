-- Bytes are lines in one way.
use Rattle.std.proofs.Common.{◌≡◌, ◌≢◌, ℕ, List, [], ◌∷◌, ◌++◌, Option, false, ◌==◌, cond, refl, sym, ap, ◌∙◌, append_assoc, append-nil, arith, subst}
use Rattle.std.proofs.lemmas.Bool.Decides.{nat_tests}
use Rattle.std.specs.{List.AllByRecursion, Io.KnownBytes.IsAtEnd}
use Rattle.zk_runs.specs.Building.{IsLine, AreLines, all_fed, last_unfed, StandFirst, fed_in, all_of, fed}

-- a byte more in front of the first line
abbrev push : ℕ → List (List ℕ) → List (List ℕ)
push b [] = (b ∷ []) ∷ []
push b (line ∷ lines) = (b ∷ line) ∷ lines

-- the lines of some bytes
abbrev split : List ℕ → List (List ℕ)
split [] = []
split (b ∷ bytes) = cond (b == 10) ([] ∷ split bytes) (push b (split bytes))

no_feed : (b : ℕ) → b ≢ 10 → (b == 10) ≡ false
no_feed b n = grind (arith, nat_tests)

split_more : (b : ℕ) (bytes : List ℕ) → b ≢ 10 → split (b ∷ bytes) ≡ push b (split bytes)
split_more b bytes n = ap (λ c. cond c ([] ∷ split bytes) (push b (split bytes))) (no_feed b n)

split_fed : (line rest : List ℕ) → IsLine line → split (line ++ 10 ∷ rest) ≡ line ∷ split rest
split_fed [] rest h = refl
split_fed (b ∷ line) rest h = split_more b (line ++ 10 ∷ rest) h.0 ∙ ap (push b) (split_fed line rest h.1)

split_last : (line : List ℕ) → IsLine line → line ≢ [] → split line ≡ line ∷ []
split_last [] h n = absurd (n refl)
split_last (b ∷ []) h n = split_more b [] h.0
split_last (b ∷ c ∷ line) h n = split_more b (c ∷ line) h.0 ∙ ap (push b) (split_last (c ∷ line) h.1 (λ e. cc))

split_lines : (lines : List (List ℕ)) (rest : List ℕ) → AllByRecursion IsLine lines → split (fed lines ++ rest) ≡ lines ++ split rest
split_lines [] rest h = refl
split_lines (line ∷ lines) rest h =
    ap split (append_assoc (line ++ 10 ∷ []) (fed lines) rest ∙ append_assoc line (10 ∷ []) (fed lines ++ rest))
    ∙ split_fed line (fed lines ++ rest) h.0
    ∙ ap (λ z. line ∷ z) (split_lines lines rest h.1)

are_split : (x : List ℕ) (lines : List (List ℕ)) → AreLines x lines → split x ≡ lines
are_split x lines (all_fed each e) = ap split (e ∙ sym (append-nil (fed lines))) ∙ split_lines lines [] each ∙ append-nil lines
are_split x lines (last_unfed before last each is some e f) =
    ap split f ∙ split_lines before last each ∙ ap (λ z. before ++ z) (split_last last is some) ∙ sym e

pub lines_once : (x : List ℕ) (lines others : List (List ℕ)) → AreLines x lines → AreLines x others → lines ≡ others
lines_once x lines others p q = sym (are_split x lines p) ∙ are_split x others q

-- lines that stand first in some bytes stand first among the lines of all bytes
pub first_lines : (bytes rest : List ℕ) (unread : Option (List ℕ)) (lines all : List (List ℕ)) → (IsAtEnd unread → rest ≡ []) →
    StandFirst bytes unread lines → AreLines (bytes ++ rest) all → (more : List (List ℕ)) × (all ≡ lines ++ more)
first_lines bytes rest unread lines all ends (fed_in later each e) are = (
  split (later ++ rest),
  sym (are_split (bytes ++ rest) all are) ∙ ap split (ap (λ z. z ++ rest) e ∙ append_assoc (fed lines) later rest) ∙ split_lines lines (later ++ rest) each,
)
first_lines bytes rest unread lines all ends (all_of end of) are = (
  [],
  lines_once bytes all lines (subst (λ z. AreLines z all) (ap (λ z. bytes ++ z) (ends end) ∙ append-nil bytes) are) of ∙ sym (append-nil lines),
)
