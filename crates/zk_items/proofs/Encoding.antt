-- Texts and blobs are read into their bytes.
use Rattle.std.specs.Prelude.{◌≡◌, ℕ, zero, suc, ◌+◌, ◌-◌, ◌/◌, ◌<◌, ◌^◌, List, [], ◌∷◌, ◌++◌, length, take, drop, Some, None, Result, Ok, Err, MatchResult, ◌*◌, Bool, true, IsUtf8, pos, negsuc, refl}
use Rattle.std.specs.{List.prefix_len, List.AllByRecursion, List.AllPass, Str.IsAscii}
use Rattle.std.proofs.Common.{ap, sym, subst, ◌∙◌, cond, arith, append_assoc, length-append, length-drop, take_all}
use Rattle.std.proofs.{lemmas.List.append-nil, lemmas.List.take_at, lemmas.List.drop_at, lemmas.List.Elements.All-from_recursion, lemmas.Str.is_utf8-from_IsUtf8, lemmas.Str.IsUtf8-from_ascii}
use Rattle.hex.specs.{Hex.encode_lower, Hex.lower_digits, Hex.decode_of, Hex.decode_sized, Hex.is_hex_digit, declared.error.FromHexError.FromHexError}
use Rattle.hex.proofs.HexLemmas.{decode_of-encode_lower, decode_of-digits, decode_sized-twice, length-encode_with}
use Rattle.zk_jute.specs.{Item.int_bytes, Values.text_items, Values.blob_items}
use Rattle.zk_jute.specs.declared.value.Nullable.TheVariants as nullable
use Rattle.zk_items.specs.Form.{Read, ◌>>=◌}
use Rattle.zk_items.specs.{Many.many_at, Many.with_front, Encoded.Encoded}
use Rattle.zk_items.specs.Leaf.{in_hex, is_plain, symbol_at, checked, chars_at, text_at, blob_at, decoded}
use Rattle.zk_items.proofs.{Forms.bind_some, Forms.some_is, Blobs.as_bytes, Blobs.lower_again, Joined.Hex, Joined.hex_bytes, Runs.run_passes, Texts.utf8_false, Texts.past_plain}

-- ---- four bytes of room, and what stands behind them

before_room : (old room xs : List ℕ) → take (length old) ((old ++ room) ++ xs) ≡ old
before_room old room xs = ap (take (length old)) (append_assoc old room xs) ∙ take_at old (room ++ xs) (length old) refl

pub behind_room : (old room xs : List ℕ) → length room ≡ 4 → drop (length old + 4) ((old ++ room) ++ xs) ≡ xs
behind_room old room xs four = drop_at (old ++ room) xs (length old + 4) (omega (arith, length-append old room))

-- the room is written over
pub room_filled : (old room xs size new mid : List ℕ) → length room ≡ 4 → mid ≡ (old ++ room) ++ xs → new ≡ take (length old) mid ++ (size ++ drop (length old + 4) mid) → new ≡ old ++ (size ++ xs)
room_filled old room xs size new mid four is filled =
    filled ∙ ap (λ (m : List ℕ). take (length old) m ++ (size ++ drop (length old + 4) m)) is
    ∙ ap (λ (l : List ℕ). l ++ (size ++ drop (length old + 4) ((old ++ room) ++ xs))) (before_room old room xs)
    ∙ ap (λ (l : List ℕ). old ++ (size ++ l)) (behind_room old room xs four)

-- ---- texts

plain_ascii : (bytes : List ℕ) → AllByRecursion (λ b. is_plain b ≡ true) bytes → IsAscii bytes
plain_ascii [] h i = omega arith
plain_ascii (b ∷ bytes) h zero = let plain : is_plain b ≡ true = h.0 in grind (arith, plain)
plain_ascii (b ∷ bytes) h (suc i) = plain_ascii bytes h.1 i

pub null_text : (line rest old new : List ℕ) → line ≡ 126 ∷ rest → new ≡ old ++ int_bytes (negsuc 0) → Encoded text_at text_items line rest old new
unfolding text_at
null_text line rest old new front e = subst (λ (l : List ℕ). Encoded text_at text_items l rest old new) (sym front)
    (record { value = nullable.Null; read = refl; have = (tt, tt); appended = e ∙ ap (λ (l : List ℕ). old ++ l) (sym (append-nil (int_bytes (negsuc 0)))) })

pub full_text : (line rest behind old new : List ℕ) → line ≡ 34 ∷ rest → Encoded chars_at text_items rest behind old new → Encoded text_at text_items line behind old new
unfolding text_at
full_text line rest behind old new front c = subst (λ (l : List ℕ). Encoded text_at text_items l behind old new) (sym front) (record { value = c.value; read = c.read; have = c.have; appended = c.appended })

-- a plain run, and the sign after it
pub plain_whole : (old new run line ahead rest : List ℕ) → new ≡ old ++ run → run ≡ take (prefix_len is_plain line) line → ahead ≡ drop (prefix_len is_plain line) line → ahead ≡ 34 ∷ rest
    → with_front old (many_at symbol_at (length line) line) ≡ Some (new, rest)
unfolding symbol_at
plain_whole old new run line ahead rest seen front back sign =
    sym (past_plain old new run line ahead seen front back) ∙ ap (λ (l : List ℕ). with_front new (many_at symbol_at (length l) l)) sign ∙ ap (λ (l : List ℕ). Some (l, rest)) (append-nil new)

pub plain_run_text : (old new run line : List ℕ) → new ≡ old ++ run → run ≡ take (prefix_len is_plain line) line → IsUtf8 (drop (length old) new)
plain_run_text old new run line seen front =
    let plain = subst (AllByRecursion (λ b. is_plain b ≡ true)) (sym front) (run_passes is_plain line) in
    subst IsUtf8 (sym (ap (drop (length old)) seen ∙ drop_at old run (length old) refl)) (IsUtf8-from_ascii run (plain_ascii run plain))

-- what was read up to the sign, and its number of bytes
pub chars_encoded : (line rest old room mid new : List ℕ) (start count : ℕ) → start ≡ length old → length room ≡ 4 → with_front (old ++ room) (many_at symbol_at (length line) line) ≡ Some (mid, rest)
    → IsUtf8 (drop (length (old ++ room)) mid) → count ≡ length mid - (start + 4) → count < 2 ^ 31 → new ≡ take start mid ++ (int_bytes (pos count) ++ drop (start + 4) mid)
    → Encoded chars_at text_items line rest old new
chars_encoded line rest old room mid new start count begins four read text number small filled =
    let a = bind_some (many_at symbol_at (length line) line) (λ q. Some ((old ++ room) ++ q.0, q.1)) (mid, rest) read in
    let xs = a.0.0 in
    let pair = some_is ((old ++ room) ++ xs, a.0.1) (mid, rest) a.2 in
    let whole : mid ≡ (old ++ room) ++ xs = sym pair.0 in
    let inside : drop (length (old ++ room)) mid ≡ xs = ap (drop (length (old ++ room))) whole ∙ drop_at (old ++ room) xs (length (old ++ room)) refl in
    let utf8 : IsUtf8 xs = subst IsUtf8 inside text in
    let long : length mid ≡ (length old + 4) + length xs = ap length whole ∙ length-append (old ++ room) xs ∙ omega (arith, length-append old room) in
    let same : count ≡ length xs = omega arith in
    let short : length xs < 2 ^ 31 = omega arith in
    record {
      value = nullable.Full xs;
      read = ap (λ (r : Read (List ℕ)). r >>= checked) a.1 ∙ ap (λ (t : Bool). cond t (Some (nullable.Full xs, a.0.1)) None) (is_utf8-from_IsUtf8 xs utf8) ∙ ap (λ (r : List ℕ). Some (nullable.Full xs, r)) pair.1;
      have = ((utf8, short), tt);
      appended = room_filled old room xs (int_bytes (pos count)) new mid four whole (rw begins at filled) ∙ ap (λ (n : ℕ). old ++ (int_bytes (pos n) ++ xs)) same ∙ ap (λ (l : List ℕ). old ++ l) (sym (append-nil (int_bytes (pos (length xs)) ++ xs)));
    }

-- what was read up to the sign is no text
pub not_text : (line rest old mid : List ℕ) → with_front old (many_at symbol_at (length line) line) ≡ Some (mid, rest) → (IsUtf8 (drop (length old) mid) → ⊥) → chars_at line ≡ None
not_text line rest old mid read other =
    let a = bind_some (many_at symbol_at (length line) line) (λ q. Some (old ++ q.0, q.1)) (mid, rest) read in
    let xs = a.0.0 in
    let pair = some_is (old ++ xs, a.0.1) (mid, rest) a.2 in
    let inside : drop (length old) mid ≡ xs = ap (drop (length old)) (sym pair.0) ∙ drop_at old xs (length old) refl in
    ap (λ (r : Read (List ℕ)). r >>= checked) a.1 ∙ ap (λ (t : Bool). cond t (Some (nullable.Full xs, a.0.1)) None) (utf8_false xs (λ u. other (subst IsUtf8 (sym inside) u)))

pub all_after : (xs : List ℕ) (start n : ℕ) → start ≡ n → take (length xs - start) (drop start xs) ≡ drop n xs
all_after xs start n e = ap (λ (k : ℕ). take (length xs - k) (drop k xs)) e ∙ take_all (length xs - n) (drop n xs) (omega (arith, length-drop n xs))

-- ---- blobs

pub null_blob : (line rest old new : List ℕ) → line ≡ 126 ∷ rest → new ≡ old ++ int_bytes (negsuc 0) → Encoded blob_at blob_items line rest old new
unfolding blob_at
null_blob line rest old new front e = subst (λ (l : List ℕ). Encoded blob_at blob_items l rest old new) (sym front)
    (record { value = nullable.Null; read = refl; have = (tt, tt); appended = e ∙ ap (λ (l : List ℕ). old ++ l) (sym (append-nil (int_bytes (negsuc 0)))) })

pub full_blob : (line ahead run rest old mid new bytes : List ℕ) (count : ℕ) → line ≡ 35 ∷ ahead → run ≡ take (prefix_len in_hex ahead) ahead → rest ≡ drop (prefix_len in_hex ahead) ahead → encode_lower bytes ≡ run
    → count ≡ length run / 2 → count < 2 ^ 31 → mid ≡ old ++ int_bytes (pos count) → new ≡ mid ++ bytes → Encoded blob_at blob_items line rest old new
unfolding blob_at
full_blob line ahead run rest old mid new bytes count begins front back encoded number small sized appended =
    let hex : Hex run = subst Hex (sym front) (run_passes in_hex ahead) in
    let all : AllByRecursion (λ b. b < 256) bytes = hex_bytes bytes (subst Hex (sym encoded) hex) in
    let same : count ≡ length bytes = omega (arith, length-encode_with lower_digits bytes, ap length encoded) in
    let short : length bytes < 2 ^ 31 = omega arith in
    subst (λ (l : List ℕ). Encoded blob_at blob_items l rest old new) (sym begins) (record {
      value = nullable.Full bytes;
      read = ap (λ (r : List ℕ). decoded (decode_of r) (drop (prefix_len in_hex ahead) ahead)) (sym front ∙ sym encoded)
          ∙ ap (λ (r : Result (List ℕ) FromHexError). decoded r (drop (prefix_len in_hex ahead) ahead)) (decode_of-encode_lower bytes (as_bytes bytes all)) ∙ ap (λ (r : List ℕ). Some (nullable.Full bytes, r)) (sym back);
      have = ((all, short), tt);
      appended = appended ∙ ap (λ (l : List ℕ). l ++ bytes) (sized ∙ ap (λ (n : ℕ). old ++ int_bytes (pos n)) same) ∙ append_assoc old (int_bytes (pos (length bytes))) bytes
          ∙ ap (λ (l : List ℕ). old ++ l) (sym (append-nil (int_bytes (pos (length bytes)) ++ bytes)));
    })

-- few digits, read pair by pair
hex_pass : (digits : List ℕ) → Hex digits → AllPass is_hex_digit digits
hex_pass digits hex = All-from_recursion (λ c. is_hex_digit c ≡ true) digits (each digits hex)
  where
    digit : (c : ℕ) → in_hex c ≡ true → is_hex_digit c ≡ true
    digit c h = grind (arith, h)

    each : (ds : List ℕ) → Hex ds → AllByRecursion (λ c. is_hex_digit c ≡ true) ds
    each [] h = tt
    each (d ∷ ds) h = (digit d h.0, each ds h.1)

pub few_read : (digits new : List ℕ) (n : ℕ) (r : Result (Unit {0}) FromHexError) → Hex digits → 2 * n ≡ length digits
    → MatchResult (decode_sized digits n) (λ bytes. (r ≡ Ok tt) × (new ≡ bytes)) (λ e. r ≡ Err e) → (r ≡ Ok tt) × (encode_lower new ≡ digits)
few_read digits new n r hex twice read =
    let decodes = decode_of-digits digits (omega (arith, twice)) (hex_pass digits hex) in
    let read_all = subst (λ (d : Result (List ℕ) FromHexError). MatchResult d (λ bytes. (r ≡ Ok tt) × (new ≡ bytes)) (λ e. r ≡ Err e)) (decode_sized-twice digits n (sym twice) ∙ decodes.1) read in
    (read_all.0, ap encode_lower read_all.1 ∙ sym (lower_again digits decodes.0 hex decodes.1).0)
