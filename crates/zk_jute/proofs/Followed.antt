-- From the windows of a text to the whole of it.
use Rattle.std.proofs.Common.{◌≡◌, ℕ, suc, ◌+◌, ◌-◌, ◌<◌, ◌≤◌, List, [], ◌∷◌, ◌++◌, length, get_or, take, drop, replicate, refl, sym, ap, subst, ◌∙◌, inl, inr, arith, length-append, get_or-drop, get_or-take}
use Rattle.std.specs.{List.range_with_len, Str.IsUtf8}
use Rattle.std.proofs.{lemmas.Bool.cases_lt, lemmas.List.get_or-append_right, lemmas.Simd.pick_l-range_with_len, lemmas.Simd.get_or-chunk, lemmas.Simd.length-replicate}
use lib.Lanes.{chunk, pick_l}
use Rattle.simdutf8.specs.Steps.{IsClosed, Step, StepsThen}
use Rattle.simdutf8.proofs.{Chars.StepsThen-IsUtf8, Lanes.zeros, StepsLemmas.IsUtf8-append_ascii, StepsLemmas.IsAscii-replicate}
use Rattle.zk_jute.specs.Follow.{FollowsAt}

-- sixteen places of a block behind zeros
pub shifted : (block : List ℕ) (n k i : ℕ) → length block ≡ 16 → n + 16 ≤ 32 → i < 16 → 13 + k ≡ n + i
    → get_or (pick_l 0 (replicate 16 0 ++ block) (range_with_len n 16)) i 0 ≡ get_or (0 ∷ 0 ∷ 0 ∷ block) k 0
shifted block n k i long within h same =
    let both : List ℕ = replicate 16 0 ++ block in
    ap (λ l. get_or l i 0) (pick_l-range_with_len 0 both n 16 (omega (arith, length-append (replicate 16 0) block)))
    ∙ get_or-chunk n 16 both i 0 h ∙ ap (λ j. get_or both j 0) (sym same) ∙ sym (get_or-drop 13 both k 0)

-- what a block says of the text that begins with it
pub first_block : (bytes : List ℕ) (i : ℕ) → i < 16 → FollowsAt (0 ∷ 0 ∷ 0 ∷ take 16 bytes) i → FollowsAt (0 ∷ 0 ∷ 0 ∷ bytes) i
first_block bytes i h s =
    let text : List ℕ = 0 ∷ 0 ∷ 0 ∷ bytes in
    let at : (k : ℕ) → k < 19 → get_or (0 ∷ 0 ∷ 0 ∷ take 16 bytes) k 0 ≡ get_or text k 0 = λ k less. get_or-take 19 text k 0 less in
    rw (at i (omega arith), at (suc i) (omega arith), at (suc (suc i)) (omega arith), at (suc (suc (suc i))) (omega arith)) at s

-- what four loads say of a window
pub window : (bytes : List ℕ) (i : ℕ) → i < 16
    → Step (get_or (chunk 0 16 bytes) i 0) (get_or (chunk 1 16 bytes) i 0) (get_or (chunk 2 16 bytes) i 0) (get_or (chunk 3 16 bytes) i 0) → FollowsAt bytes i
window bytes i h s =
    let at : (j k : ℕ) → j + i ≡ k → get_or (chunk j 16 bytes) i 0 ≡ get_or bytes k 0 = λ j k e. get_or-chunk j 16 bytes i 0 h ∙ ap (λ x. get_or bytes x 0) e in
    rw (at 0 i (omega arith), at 1 (suc i) (omega arith), at 2 (suc (suc i)) (omega arith), at 3 (suc (suc (suc i))) (omega arith)) at s

-- what a window says of the text around it
pub in_text : (bytes : List ℕ) (place i : ℕ) → place + 3 ≤ i → FollowsAt (drop place bytes) (i - (place + 3)) → FollowsAt (0 ∷ 0 ∷ 0 ∷ bytes) i
in_text bytes place i far s =
    let k : ℕ = i - (place + 3) in
    let e : suc (suc (suc (place + k))) ≡ i = omega arith in
    let at : (a b : ℕ) → place + a ≡ b → get_or (drop place bytes) a 0 ≡ get_or bytes b 0 = λ a b e. get_or-drop place bytes a 0 ∙ ap (λ x. get_or bytes x 0) e in
    let moved : FollowsAt (0 ∷ 0 ∷ 0 ∷ bytes) (suc (suc (suc (place + k)))) =
    rw (at k (place + k) refl, at (suc k) (suc (place + k)) (omega arith), at (suc (suc k)) (suc (suc (place + k))) (omega arith), at (suc (suc (suc k))) (suc (suc (suc (place + k)))) (omega arith)) at s in
    subst (FollowsAt (0 ∷ 0 ∷ 0 ∷ bytes)) e moved

-- sixteen more places of the text
pub further : (bytes : List ℕ) (reached place i : ℕ) → place ≤ reached → ((i : ℕ) → i < reached + 3 → FollowsAt (0 ∷ 0 ∷ 0 ∷ bytes) i) → ((i : ℕ) → i < 16 → FollowsAt (drop place bytes) i)
    → i < place + 19 → FollowsAt (0 ∷ 0 ∷ 0 ∷ bytes) i
further bytes reached place i le before more h =
    elim (cases_lt i (reached + 3)) [
      | inl less ↦ before i less
      | inr far ↦ in_text bytes place i (omega arith) (more (i - (place + 3)) (omega arith))
    ]

steps_then : (P : ℕ → ℕ → ℕ → Type 0) (x y z : ℕ) (bytes : List ℕ) → ((i : ℕ) → i < length bytes → FollowsAt (x ∷ y ∷ z ∷ bytes) i)
    → P (get_or (x ∷ y ∷ z ∷ bytes) (length bytes) 0) (get_or (x ∷ y ∷ z ∷ bytes) (suc (length bytes)) 0) (get_or (x ∷ y ∷ z ∷ bytes) (suc (suc (length bytes))) 0)
    → StepsThen P x y z bytes
steps_then P x y z [] follows last = last
steps_then P x y z (b ∷ bytes) follows last = (follows 0 (omega arith), steps_then P y z b bytes (λ i h. follows (suc i) (omega arith)) last)

-- bytes of which each may follow those before it are a text, if no character is left open
pub is_text : (bytes : List ℕ) → 3 ≤ length bytes → ((i : ℕ) → i < length bytes → FollowsAt (0 ∷ 0 ∷ 0 ∷ bytes) i)
    → IsClosed (get_or bytes (length bytes - 3) 0) (get_or bytes (length bytes - 2) 0) (get_or bytes (length bytes - 1) 0) → IsUtf8 bytes
is_text bytes some follows closed =
    let at : (j k : ℕ) → suc (suc (suc k)) ≡ j → get_or bytes k 0 ≡ get_or (0 ∷ 0 ∷ 0 ∷ bytes) j 0 = λ j k e. ap (λ x. get_or (0 ∷ 0 ∷ 0 ∷ bytes) x 0) e in
    let n : ℕ = length bytes in
    let last : IsClosed (get_or (0 ∷ 0 ∷ 0 ∷ bytes) n 0) (get_or (0 ∷ 0 ∷ 0 ∷ bytes) (suc n) 0) (get_or (0 ∷ 0 ∷ 0 ∷ bytes) (suc (suc n)) 0) =
    rw (at n (n - 3) (omega arith), at (suc n) (n - 2) (omega arith), at (suc (suc n)) (n - 1) (omega arith)) at closed in
    (StepsThen-IsUtf8 bytes).0 (steps_then IsClosed 0 0 0 bytes follows last)

-- bytes of which each may follow those before it, zeros among them in the end, are a text
pub is_padded_text : (bytes : List ℕ) (k : ℕ) → 3 ≤ k → ((i : ℕ) → i < length bytes + k → FollowsAt (0 ∷ 0 ∷ 0 ∷ (bytes ++ replicate k 0)) i) → IsUtf8 bytes
is_padded_text bytes k some follows =
    let all : List ℕ = bytes ++ replicate k 0 in
    let long : length all ≡ length bytes + k = length-append bytes (replicate k 0) ∙ ap (λ n. length bytes + n) (length-replicate {A = ℕ} k 0) in
    let low : (j : ℕ) → length bytes ≤ j → get_or all j 0 ≡ 0 = λ j far. get_or-append_right bytes (replicate k 0) (length bytes) j 0 refl far ∙ zeros k (j - length bytes) in
    let closed : IsClosed (get_or all (length all - 3) 0) (get_or all (length all - 2) 0) (get_or all (length all - 1) 0) =
    rw (low (length all - 3) (omega arith), low (length all - 2) (omega arith), low (length all - 1) (omega arith)) (omega arith) in
    (IsUtf8-append_ascii bytes (replicate k 0) (IsAscii-replicate k 0 (omega arith))).0 (is_text all (omega arith) (λ i h. follows i (omega arith)) closed)

-- what two windows of a list say of 32 of its places
pub two_windows : (list : List ℕ) → ((i : ℕ) → i < 16 → FollowsAt list i) → ((i : ℕ) → i < 16 → FollowsAt (take 19 (drop 16 list)) i) → (i : ℕ) → i < 32 → FollowsAt list i
two_windows list first second i h =
    elim (cases_lt i 16) [
      | inl less ↦ first i less
      | inr far ↦
          let k : ℕ = i - 16 in
          let at : (a b : ℕ) → a < 19 → 16 + a ≡ b → get_or (take 19 (drop 16 list)) a 0 ≡ get_or list b 0 =
          λ a b less e. get_or-take 19 (drop 16 list) a 0 less ∙ get_or-drop 16 list a 0 ∙ ap (λ x. get_or list x 0) e in
          rw (
            at k i (omega arith) (omega arith),
            at (suc k) (suc i) (omega arith) (omega arith),
            at (suc (suc k)) (suc (suc i)) (omega arith) (omega arith),
            at (suc (suc (suc k))) (suc (suc (suc i))) (omega arith) (omega arith),
          ) at (second k (omega arith))
    ]
