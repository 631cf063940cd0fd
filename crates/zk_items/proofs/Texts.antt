-- Texts are read as they are spelled.
use Rattle.std.specs.Prelude.{◌≡◌, ℕ, zero, suc, ◌+◌, ◌-◌, ◌*◌, ◌/◌, ◌%◌, ◌<◌, ◌≤◌, List, [], ◌∷◌, ◌++◌, length, take, drop, Option, Some, None, Bool, true, false, ◌==◌, IsUtf8, refl}
use Rattle.std.specs.{List.flat_map, List.prefix_len, List.AllByRecursion, Str.is_utf8}
use Rattle.std.proofs.Common.{ap, ap₂, sym, ◌∙◌, append_assoc, cond, arith, subst, eqb-true}
use Rattle.std.proofs.{lemmas.List.append-nil, lemmas.List.take-append-drop, lemmas.Str.IsUtf8-from_is_utf8, lemmas.Str.is_utf8-from_IsUtf8}
use Rattle.zk_jute.specs.Held.{Text}
use Rattle.zk_jute.specs.declared.value.Nullable.TheVariants as nullable
use Rattle.zk_items.specs.Form.{Read, ◌>>=◌, stops}
use Rattle.zk_items.specs.{Many.many_at, Many.then_more, Many.with_first, Many.with_front, Laws.Lawful}
use Rattle.zk_items.specs.Leaf.{is_plain, hex_digit, hex_value, symbol_spell, text_spell, text_fits, symbol_at, text_at, text, checked, escape_at}
use Rattle.zk_items.proofs.{Forms.bind_some, Forms.some_is, Forms.if_some, Forms.if_not, Many.many_again, Many.many_sound, Many.no_front, Many.step_some, Runs.all_front}

hex_back : (n : ℕ) → n < 16 → hex_value (hex_digit n) ≡ Some n
hex_back n small = grind arith

symbol_again : (b : ℕ) (rest : List ℕ) → b < 256 → symbol_at (symbol_spell b ++ rest) ≡ Some (Some b, rest)
unfolding symbol_at
symbol_again b rest small = pick (is_plain b) refl where
  pick : (t : Bool) → is_plain b ≡ t → symbol_at (cond t (b ∷ []) (92 ∷ hex_digit (b / 16) ∷ hex_digit (b % 16) ∷ []) ++ rest) ≡ Some (Some b, rest)
  pick true e = grind (arith, e)
  pick false e =
      let h = hex_back (b / 16) (omega arith) in
      let l = hex_back (b % 16) (omega arith) in
      let v : 16 * (b / 16) + b % 16 ≡ b = omega arith in
      rw (h, l, v, e) refl

value_digit : (c v : ℕ) → hex_value c ≡ Some v → (c ≡ hex_digit v) × (v < 16)
value_digit c v e = (grind (arith, e), grind (arith, e))

record IsEscape (bytes : List ℕ) (o : Option ℕ) (rest : List ℕ) : Type 0 where
  pub byte : ℕ
  pub is : o ≡ Some byte
  pub spelled : bytes ≡ hex_digit (byte / 16) ∷ hex_digit (byte % 16) ∷ rest
  pub odd : is_plain byte ≡ false
  pub small : byte < 256

escape_is : (bytes : List ℕ) (o : Option ℕ) (rest : List ℕ) → escape_at bytes ≡ Some (o, rest) → IsEscape bytes o rest
escape_is [] o rest e = absurd cc
escape_is (h ∷ []) o rest e = absurd cc
escape_is (h ∷ l ∷ r) o rest e =
    let a = bind_some (hex_value h) (λ a. hex_value l >>= λ b. cond (is_plain (16 * a + b)) None (Some (Some (16 * a + b), r))) (o, rest) e in
    let b = bind_some (hex_value l) (λ b. cond (is_plain (16 * a.0 + b)) None (Some (Some (16 * a.0 + b), r))) (o, rest) a.2 in
    let n = 16 * a.0 + b.0 in
    let k = if_not (is_plain n) (Some (Some n, r)) (o, rest) b.2 in
    let pair = some_is (Some n, r) (o, rest) k.1 in
    let high = value_digit h a.0 a.1 in
    let low = value_digit l b.0 b.1 in
    let small_a : a.0 < 16 = high.1 in
    let small_b : b.0 < 16 = low.1 in
    let quotient : n / 16 ≡ a.0 = omega arith in
    let remainder : n % 16 ≡ b.0 = omega arith in
    record {
      byte = n;
      is = sym pair.0;
      spelled = ap (λ (c : ℕ). c ∷ l ∷ r) (high.0 ∙ ap hex_digit (sym quotient)) ∙ ap (λ (c : ℕ). hex_digit (n / 16) ∷ c ∷ r) (low.0 ∙ ap hex_digit (sym remainder)) ∙ ap (λ (r : List ℕ). hex_digit (n / 16) ∷ hex_digit (n % 16) ∷ r) pair.1;
      odd = k.0;
      small = omega arith;
    }

-- the sign at the end, or a byte
abbrev IsSymbol : List ℕ → Option ℕ → List ℕ → Type 0
IsSymbol bytes None rest = bytes ≡ 34 ∷ rest
IsSymbol bytes (Some b) rest = (bytes ≡ symbol_spell b ++ rest) × (b < 256)

symbol_is : (bytes : List ℕ) (o : Option ℕ) (rest : List ℕ) → symbol_at bytes ≡ Some (o, rest) → IsSymbol bytes o rest
unfolding symbol_at
symbol_is [] o rest e = absurd cc
symbol_is (c ∷ bytes) o rest e = first (c == 34) refl e where
  third : (t : Bool) → is_plain c ≡ t → cond {A = Read (Option ℕ)} t (Some (Some c, bytes)) None ≡ Some (o, rest) → IsSymbol (c ∷ bytes) o rest
  third true plain e =
      let h = some_is (Some c, bytes) (o, rest) e in
      let small : c < 256 = grind (arith, plain) in
      subst (λ (o : Option ℕ). IsSymbol (c ∷ bytes) o rest) h.0
      (ap (λ (r : List ℕ). c ∷ r) h.1 ∙ sym (ap (λ (t : Bool). cond t (c ∷ []) (92 ∷ hex_digit (c / 16) ∷ hex_digit (c % 16) ∷ []) ++ rest) plain), small)
  third false is e = absurd cc

  second : (t : Bool) → (c == 92) ≡ t → cond {A = Read (Option ℕ)} t (escape_at bytes) (cond {A = Read (Option ℕ)} (is_plain c) (Some (Some c, bytes)) None) ≡ Some (o, rest) → IsSymbol (c ∷ bytes) o rest
  second true is e =
      let h = escape_is bytes o rest e in
      let b = h.byte in
      subst (λ (o : Option ℕ). IsSymbol (c ∷ bytes) o rest) (sym h.is)
      (ap (λ (c : ℕ). c ∷ bytes) (eqb-true c 92 is) ∙ ap (λ (r : List ℕ). 92 ∷ r) h.spelled ∙ sym (ap (λ (t : Bool). cond t (b ∷ []) (92 ∷ hex_digit (b / 16) ∷ hex_digit (b % 16) ∷ []) ++ rest) h.odd), h.small)
  second false is e = third (is_plain c) refl e

  first : (t : Bool) → (c == 34) ≡ t → cond {A = Read (Option ℕ)} t (Some (None, bytes)) (cond (c == 92) (escape_at bytes) (cond {A = Read (Option ℕ)} (is_plain c) (Some (Some c, bytes)) None)) ≡ Some (o, rest) → IsSymbol (c ∷ bytes) o rest
  first true is e =
      let h = some_is (None, bytes) (o, rest) e in
      subst (λ (o : Option ℕ). IsSymbol (c ∷ bytes) o rest) h.0 (ap (λ (c : ℕ). c ∷ bytes) (eqb-true c 34 is) ∙ ap (λ (r : List ℕ). 34 ∷ r) h.1)
  first false is e = second (c == 92) refl e

end_again : (rest : List ℕ) → symbol_at (34 ∷ rest) ≡ Some (None, rest)
unfolding symbol_at
end_again rest = refl

longer : (t rest : List ℕ) → length t < length (flat_map symbol_spell t ++ (34 ∷ rest))
longer [] rest = omega arith
longer (b ∷ t) rest = pick (is_plain b) (longer t rest) where
  pick : (p : Bool) → length t < length (flat_map symbol_spell t ++ (34 ∷ rest)) → suc (length t) < length ((cond p (b ∷ []) (92 ∷ hex_digit (b / 16) ∷ hex_digit (b % 16) ∷ []) ++ flat_map symbol_spell t) ++ (34 ∷ rest))
  pick true h = omega arith
  pick false h = omega arith

many_symbols : (t rest : List ℕ) → AllByRecursion (λ b. b < 256) t → many_at symbol_at (length (flat_map symbol_spell t ++ (34 ∷ rest))) (flat_map symbol_spell t ++ (34 ∷ rest)) ≡ Some (t, rest)
many_symbols t rest fit = many_again symbol_at symbol_spell (λ b. b < 256) 34 (λ _. true) (λ x r f _. symbol_again x r f) (λ _ _ _. refl) (λ r. end_again r) (λ _. refl) _ t rest fit (longer t rest)

pub text_again : (x : Text) (rest : List ℕ) → text_fits x → stops rest ≡ true → text_at (text_spell x ++ rest) ≡ Some (x, rest)
unfolding text_at
text_again nullable.Null rest fit stop = refl
text_again (nullable.Full t) rest fit stop =
    let regroup : (flat_map symbol_spell t ++ (34 ∷ [])) ++ rest ≡ flat_map symbol_spell t ++ (34 ∷ rest) = append_assoc (flat_map symbol_spell t) (34 ∷ []) rest in
    ap (λ (b : List ℕ). many_at symbol_at (length b) b >>= checked) regroup
    ∙ ap (λ (r : Read (List ℕ)). r >>= checked) (many_symbols t rest fit.1)
    ∙ ap (λ (b : Bool). cond b (Some (nullable.Full t, rest)) None) (is_utf8-from_IsUtf8 t fit.0)

pub text_sound : (bytes : List ℕ) (x : Text) (rest : List ℕ) → text_at bytes ≡ Some (x, rest) → (bytes ≡ text_spell x ++ rest) × text_fits x
unfolding text_at
text_sound [] x rest e = absurd cc
text_sound (c ∷ bytes) x rest e = first (c == 126) refl e where
  second : (t : Bool) → (c == 34) ≡ t → cond t (many_at symbol_at (length bytes) bytes >>= checked) None ≡ Some (x, rest) → (c ∷ bytes ≡ text_spell x ++ rest) × text_fits x
  second false is e = absurd cc
  second true is e =
      let a = bind_some (many_at symbol_at (length bytes) bytes) checked (x, rest) e in
      let s = many_sound symbol_at symbol_spell (λ b. b < 256) 34 (λ bytes b. symbol_is bytes (Some b)) (λ bytes. symbol_is bytes None) (length bytes) bytes a.0.0 a.0.1 a.1 in
      let k = if_some (is_utf8 a.0.0) (Some (nullable.Full a.0.0, a.0.1)) (x, rest) a.2 in
      let pair = some_is (nullable.Full a.0.0, a.0.1) (x, rest) k.1 in
      let same : c ≡ 34 = eqb-true c 34 is in
      subst (λ (x : Text). (c ∷ bytes ≡ text_spell x ++ rest) × text_fits x) pair.0 (
        ap (λ (c : ℕ). c ∷ bytes) same
            ∙ ap (λ (b : List ℕ). 34 ∷ b) (s.0 ∙ ap (λ (r : List ℕ). flat_map symbol_spell a.0.0 ++ (34 ∷ r)) pair.1 ∙ sym (append_assoc (flat_map symbol_spell a.0.0) (34 ∷ []) rest)),
        (IsUtf8-from_is_utf8 a.0.0 k.0, s.1),
      )

  first : (t : Bool) → (c == 126) ≡ t → cond t (Some (nullable.Null, bytes)) (cond (c == 34) (many_at symbol_at (length bytes) bytes >>= checked) None) ≡ Some (x, rest) → (c ∷ bytes ≡ text_spell x ++ rest) × text_fits x
  first false is e = second (c == 34) refl e
  first true is e =
      let pair = some_is (nullable.Null, bytes) (x, rest) e in
      let same : c ≡ 126 = eqb-true c 126 is in
      subst (λ (x : Text). (c ∷ bytes ≡ text_spell x ++ rest) × text_fits x) pair.0 (ap (λ (c : ℕ). c ∷ bytes) same ∙ ap (λ (b : List ℕ). 126 ∷ b) pair.1, tt)

pub text_is : Lawful text
text_is = record { again = text_again; sound = text_sound }

-- ---- what the readers cite

pub utf8_true : (bs : List ℕ) → IsUtf8 bs → is_utf8 bs ≡ true
utf8_true bs h = is_utf8-from_IsUtf8 bs h

pub utf8_false : (bs : List ℕ) → (IsUtf8 bs → ⊥) → is_utf8 bs ≡ false
utf8_false bs h = pick (is_utf8 bs) refl where
  pick : (t : Bool) → is_utf8 bs ≡ t → t ≡ false
  pick true e = absurd (h (IsUtf8-from_is_utf8 bs e))
  pick false e = refl

-- ---- the loop that reads what stands within a text, a run of plain bytes at a time

pub symbol_shorter : (d rest : List ℕ) (b : ℕ) → symbol_at d ≡ Some (Some b, rest) → length rest < length d
symbol_shorter d rest b e = pick (is_plain b) (symbol_is d (Some b) rest e).0 where
  pick : (t : Bool) → d ≡ cond t (b ∷ []) (92 ∷ hex_digit (b / 16) ∷ hex_digit (b % 16) ∷ []) ++ rest → length rest < length d
  pick true is = let n = ap length is in omega arith
  pick false is = let n = ap length is in omega arith

-- as many symbols as there are bytes are enough
enough : (n m : ℕ) (d : List ℕ) → length d ≤ n → length d ≤ m → many_at symbol_at n d ≡ many_at symbol_at m d
unfolding symbol_at
enough zero zero d a b = refl
enough zero (suc m) [] a b = refl
enough zero (suc m) (c ∷ d) a b = absurd (omega arith)
enough (suc n) zero [] a b = refl
enough (suc n) zero (c ∷ d) a b = absurd (omega arith)
enough (suc n) (suc m) d a b = pick (symbol_at d) refl (λ rest x y. enough n m rest x y) where
  pick : (r : Read (Option ℕ)) → symbol_at d ≡ r → ((rest : List ℕ) → length rest ≤ n → length rest ≤ m → many_at symbol_at n rest ≡ many_at symbol_at m rest) → (r >>= then_more (many_at symbol_at n)) ≡ (r >>= then_more (many_at symbol_at m))
  pick None e others = refl
  pick (Some (None, rest)) e others = refl
  pick (Some (Some x, rest)) e others =
      let less = symbol_shorter d rest x e in
      ap (with_first x) (others rest (omega arith) (omega arith))

plain_symbol : (b : ℕ) (d : List ℕ) → is_plain b ≡ true → symbol_at (b ∷ d) ≡ Some (Some b, d)
unfolding symbol_at
plain_symbol b d is = grind (arith, is)

front_of_front : (a b : List ℕ) (read : Read (List ℕ)) → with_front (a ++ b) read ≡ with_front a (with_front b read)
front_of_front a b None = refl
front_of_front a b (Some q) = ap (λ (xs : List ℕ). Some (xs, q.1)) (append_assoc a b q.0)

front_cons : (b : ℕ) (xs : List ℕ) (read : Read (List ℕ)) → with_front (b ∷ xs) read ≡ with_first b (with_front xs read)
front_cons b xs None = refl
front_cons b xs (Some q) = refl

plain_run : (d : List ℕ) → with_front (take (prefix_len is_plain d) d) (many_at symbol_at (length (drop (prefix_len is_plain d) d)) (drop (prefix_len is_plain d) d)) ≡ many_at symbol_at (length d) d
plain_run [] = refl
plain_run (b ∷ d) = pick (is_plain b) refl (plain_run d) where
  pick : (t : Bool) → is_plain b ≡ t
      → with_front (take (prefix_len is_plain d) d) (many_at symbol_at (length (drop (prefix_len is_plain d) d)) (drop (prefix_len is_plain d) d)) ≡ many_at symbol_at (length d) d
      → with_front (take (cond t (1 + prefix_len is_plain d) 0) (b ∷ d)) (many_at symbol_at (length (drop (cond t (1 + prefix_len is_plain d) 0) (b ∷ d))) (drop (cond t (1 + prefix_len is_plain d) 0) (b ∷ d))) ≡ many_at symbol_at (suc (length d)) (b ∷ d)
  pick true is others =
      let one : 1 + prefix_len is_plain d ≡ suc (prefix_len is_plain d) = omega arith in
      ap (λ (n : ℕ). with_front (take n (b ∷ d)) (many_at symbol_at (length (drop n (b ∷ d))) (drop n (b ∷ d)))) one
      ∙ front_cons b (take (prefix_len is_plain d) d) _ ∙ ap (with_first b) others
      ∙ sym (ap (λ (r : Read (Option ℕ)). r >>= then_more (many_at symbol_at (length d))) (plain_symbol b d is))
  pick false is others = no_front (many_at symbol_at (suc (length d)) (b ∷ d))

pub past_plain : (front seen run d ahead : List ℕ) → seen ≡ front ++ run → run ≡ take (prefix_len is_plain d) d → ahead ≡ drop (prefix_len is_plain d) d
    → with_front seen (many_at symbol_at (length ahead) ahead) ≡ with_front front (many_at symbol_at (length d) d)
past_plain front seen run d ahead s r a =
    ap₂ (λ (xs b : List ℕ). with_front xs (many_at symbol_at (length b) b)) (s ∙ ap (λ (r : List ℕ). front ++ r) r) a
    ∙ front_of_front front (take (prefix_len is_plain d) d) _ ∙ ap (with_front front) (plain_run d)

pub past_symbol : (front d rest : List ℕ) (b : ℕ) → symbol_at d ≡ Some (Some b, rest) → with_front (front ++ (b ∷ [])) (many_at symbol_at (length rest) rest) ≡ with_front front (many_at symbol_at (length d) d)
past_symbol front d rest b e =
    let less = symbol_shorter d rest b e in
    let one : length d ≡ suc (length d - 1) = omega arith in
    ap (with_front (front ++ (b ∷ []))) (enough (length rest) (length d - 1) rest (omega arith) (omega arith)) ∙ sym (step_some symbol_at front (length d) (length d - 1) d rest b one e)

-- a run of symbols by their spellings
run_read : (run front rest : List ℕ) → AllByRecursion (λ b. b < 256) run
    → with_front (front ++ run) (many_at symbol_at (length rest) rest) ≡ with_front front (many_at symbol_at (length (flat_map symbol_spell run ++ rest)) (flat_map symbol_spell run ++ rest))
run_read [] front rest small = ap (λ (l : List ℕ). with_front l (many_at symbol_at (length rest) rest)) (append-nil front)
run_read (b ∷ run) front rest small =
    let behind = flat_map symbol_spell run ++ rest in
    ap (λ (l : List ℕ). with_front l (many_at symbol_at (length rest) rest)) (sym (append_assoc front (b ∷ []) run)) ∙ run_read run (front ++ (b ∷ [])) rest small.1
    ∙ past_symbol front (symbol_spell b ++ behind) behind b (symbol_again b behind small.0)
    ∙ ap (λ (d : List ℕ). with_front front (many_at symbol_at (length d) d)) (sym (append_assoc (symbol_spell b) (flat_map symbol_spell run) rest))

pub past_run : (front seen d ahead v : List ℕ) (n : ℕ) → AllByRecursion (λ b. b < 256) v → seen ≡ front ++ take n v → take (3 * n) d ≡ flat_map symbol_spell (take n v) → ahead ≡ drop (3 * n) d
    → with_front seen (many_at symbol_at (length ahead) ahead) ≡ with_front front (many_at symbol_at (length d) d)
past_run front seen d ahead v n small s e a =
    ap₂ (λ (l a : List ℕ). with_front l (many_at symbol_at (length a) a)) s a ∙ run_read (take n v) front (drop (3 * n) d) (all_front (λ b. b < 256) n v small)
    ∙ ap (λ (d : List ℕ). with_front front (many_at symbol_at (length d) d)) (ap (λ (l : List ℕ). l ++ drop (3 * n) d) (sym e) ∙ take-append-drop (3 * n) d)
