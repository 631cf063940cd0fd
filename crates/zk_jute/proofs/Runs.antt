-- Numbers, lengths, and runs of bytes behind a length: what is read stands there, what stands there is read, and what is refused is none.
use Rattle.std.proofs.Common.{◌≡◌, ℕ, zero, suc, ◌+◌, ◌-◌, ◌^◌, ◌<◌, ◌≤◌, ◌⊎◌, inl, inr, false, ltb, List, ◌++◌, length, take, drop, Option, Some, None, Ok, Err, refl, sym, ap, subst, ◌∙◌, append_assoc, arith}
use Rattle.std.specs.Prelude.{ℤ, pos, negsuc, ◌<ℤ◌}
use Rattle.std.specs.{Int.w32, Int.w64, Int.RustNames.FitsSigned}
use Rattle.std.proofs.{lemmas.Bool.ltb-false, lemmas.Bool.ltb-true, lemmas.Bool.le-ltb, lemmas.Int.ints}
use Rattle.std.proofs.lemmas.List.{take_at, take-append-drop, length-append, length-take, length-drop, drop-drop}
use Rattle.zk_jute.specs.declared.fault.Reason.{Reason}
use Rattle.zk_jute.specs.declared.fault.Reason.TheVariants.{Short, BadLength}
use Rattle.zk_jute.specs.Item.{Kind, Long, Ustring, Buffer, Count, ABuffer, ACount, HasBytes, int_bytes, long_bytes, run_bytes, item_bytes}
use Rattle.zk_jute.specs.Faults.{width_of, first_int, IsBad, too_short, bad_length, no_content}
use Rattle.zk_jute.specs.Reading.{Fault, Read, int_at, long_at, size_of, size_at, content_of, run_at}
use Rattle.zk_jute.proofs.Steps.{IsBytes, all_bytes, IsBytes-drop, IsBytes-take, BytesAt, BytesAt-then, BytesAt-from, guard_ok, guard_err, bind_ok, bind_err}
use Rattle.zk_jute.proofs.Numbers.{read32, read64, back32, back64, fits32, fits64, again32, again64, len32}

-- ---- numbers

-- what was read, and where it ended
pub record IsRead (text src : List ℕ) (place end : ℕ) (fits : Type 0) : Type 0 where
  pub stands : BytesAt text src place end
  pub has_bytes : fits

taken : (src : List ℕ) (place n : ℕ) → place ≤ length src → n ≤ length src - place → BytesAt (take n (drop place src)) src place (place + n)
taken src place n le long =
    let len : length (take n (drop place src)) ≡ n = omega (arith, length-take n (drop place src), length-drop place src) in
    record {
      parts = sym (take-append-drop n (drop place src)) ∙ ap (λ (x : List ℕ). take n (drop place src) ++ x) (drop-drop n place src);
      at = omega arith;
      within = omega arith;
    }

pub int_found : (src : List ℕ) (place : ℕ) (x : ℤ × ℕ) → IsBytes src → place ≤ length src → int_at src place ≡ Ok x → IsRead (int_bytes x.0) src place x.1 (FitsSigned w32 x.0) × (x.0 ≡ first_int (drop place src))
int_found src place x fits le e =
    let four = take 4 (drop place src) in
    let g = guard_ok (ltb (length src - place) 4) _ (read32 four, place + 4) x e in
    let long : 4 ≤ length src - place = ltb-false _ _ g.0 in
    let bytes = IsBytes-take 4 (drop place src) (IsBytes-drop place src fits) in
    let len : length four ≡ 4 = omega (arith, length-take 4 (drop place src), length-drop place src) in
    let n-is : read32 four ≡ x.0 = ap (λ (p : ℤ × ℕ). p.0) g.1 in
    let end-is : place + 4 ≡ x.1 = ap (λ (p : ℤ × ℕ). p.1) g.1 in
    let text : int_bytes x.0 ≡ four = rw (← n-is) (back32 four len bytes) in
    (record { stands = rw (text, ← end-is) (taken src place 4 le long); has_bytes = rw (← n-is) (fits32 four bytes) }, sym n-is)

pub int_again : (n : ℤ) (src rest : List ℕ) (place : ℕ) → FitsSigned w32 n → drop place src ≡ int_bytes n ++ rest → int_at src place ≡ Ok (n, place + 4)
int_again n src rest place fits e =
    let long : length src - place ≡ 4 + length rest = sym (length-drop place src) ∙ ap length e ∙ length-append (int_bytes n) rest in
    let test : ltb (length src - place) 4 ≡ false = le-ltb _ _ (omega arith) in
    let front : take 4 (drop place src) ≡ int_bytes n = ap (take 4) e ∙ take_at (int_bytes n) rest 4 refl in
    rw (test, front, again32 n fits) refl

pub long_found : (src : List ℕ) (place : ℕ) (x : ℤ × ℕ) → IsBytes src → place ≤ length src → long_at src place ≡ Ok x → IsRead (long_bytes x.0) src place x.1 (FitsSigned w64 x.0)
long_found src place x fits le e =
    let front = take 8 (drop place src) in
    let g = guard_ok (ltb (length src - place) 8) _ (read64 front, place + 8) x e in
    let long : 8 ≤ length src - place = ltb-false _ _ g.0 in
    let bytes = IsBytes-take 8 (drop place src) (IsBytes-drop place src fits) in
    let len : length front ≡ 8 = omega (arith, length-take 8 (drop place src), length-drop place src) in
    let n-is : read64 front ≡ x.0 = ap (λ (p : ℤ × ℕ). p.0) g.1 in
    let end-is : place + 8 ≡ x.1 = ap (λ (p : ℤ × ℕ). p.1) g.1 in
    let text : long_bytes x.0 ≡ front = rw (← n-is) (back64 front len bytes) in
    record { stands = rw (text, ← end-is) (taken src place 8 le long); has_bytes = rw (← n-is) (fits64 front bytes) }

pub long_again : (n : ℤ) (src rest : List ℕ) (place : ℕ) → FitsSigned w64 n → drop place src ≡ long_bytes n ++ rest → long_at src place ≡ Ok (n, place + 8)
long_again n src rest place fits e =
    let long : length src - place ≡ 8 + length rest = sym (length-drop place src) ∙ ap length e ∙ length-append (long_bytes n) rest in
    let test : ltb (length src - place) 8 ≡ false = le-ltb _ _ (omega arith) in
    let front : take 8 (drop place src) ≡ long_bytes n = ap (take 8) e ∙ take_at (long_bytes n) rest 8 refl in
    rw (test, front, again64 n fits) refl

pub first_from : (z : ℤ) (bytes rest : List ℕ) → FitsSigned w32 z → bytes ≡ int_bytes z ++ rest → first_int bytes ≡ z
first_from z bytes rest fits e =
    let front : take 4 bytes ≡ int_bytes z = ap (take 4) e ∙ take_at (int_bytes z) rest 4 refl in
    ap read32 front ∙ again32 z fits

-- why no item of a kind stands at a place
pub record IsBadAt (k : Kind) (src : List ℕ) (place : ℕ) (f : Fault) : Type 0 where
  pub behind : ℕ
  pub at : f.place ≡ place + behind
  pub bad : IsBad k (drop place src) f.reason behind

abbrev pub fault_of : ℕ → Reason → Fault
fault_of place reason = record { place = place; reason = reason }

pub short_at : (k : Kind) (src : List ℕ) (place : ℕ) (f : Fault) → length src - place < width_of k → fault_of place Short ≡ f → IsBadAt k src place f
short_at k src place f lt e = subst (IsBadAt k src place) e (record { behind = 0; at = omega arith; bad = too_short k (drop place src) (omega (arith, length-drop place src)) })

pub int_bad : (k : Kind) (src : List ℕ) (place : ℕ) (f : Fault) → width_of k ≡ 4 → int_at src place ≡ Err f → IsBadAt k src place f
int_bad k src place f wide e =
    let g = guard_err (ltb (length src - place) 4) (fault_of place Short) f (first_int (drop place src), place + 4) e in
    let lt : length src - place < 4 = ltb-true _ _ g.0 in
    short_at k src place f (omega arith) g.1

pub long_bad : (src : List ℕ) (place : ℕ) (f : Fault) → long_at src place ≡ Err f → IsBadAt Long src place f
long_bad src place f e =
    let g = guard_err (ltb (length src - place) 8) (fault_of place Short) f (read64 (take 8 (drop place src)), place + 8) e in
    let lt : length src - place < 8 = ltb-true _ _ g.0 in
    short_at Long src place f lt g.1

-- ---- lengths and counts

abbrev pub size_bytes : Option ℕ → List ℕ
size_bytes o = item_bytes (ACount o)

abbrev pub HasSize : Option ℕ → Type 0
HasSize o = HasBytes (ACount o)

abbrev pub is_read : {A : Type 0} → A → ℕ → Read A
is_read x end = Ok (x, end)

size_from : (src : List ℕ) (place : ℕ) (z : ℤ) (after : ℕ) (y : Option ℕ × ℕ) → IsRead (int_bytes z) src place after (FitsSigned w32 z) → size_of place (z, after) ≡ Ok y → IsRead (size_bytes y.0) src place y.1 (HasSize y.0)
size_from src place (pos n) after y r e =
    let fits = r.has_bytes in
    let small : n < 2 ^ 31 = omega (arith, ints) in
    let same : ◌≡◌ {A = Option ℕ × ℕ} (Some n, after) y = cc in
    subst (λ (y : Option ℕ × ℕ). IsRead (size_bytes y.0) src place y.1 (HasSize y.0)) same (record { stands = r.stands; has_bytes = small })
size_from src place (negsuc zero) after y r e =
    let same : ◌≡◌ {A = Option ℕ × ℕ} (None, after) y = cc in
    subst (λ (y : Option ℕ × ℕ). IsRead (size_bytes y.0) src place y.1 (HasSize y.0)) same (record { stands = r.stands; has_bytes = tt })
size_from src place (negsuc (suc n)) after y r e = absurd cc

pub size_found : (src : List ℕ) (place : ℕ) (y : Option ℕ × ℕ) → IsBytes src → place ≤ length src → size_at src place ≡ Ok y → IsRead (size_bytes y.0) src place y.1 (HasSize y.0)
size_found src place y fits le e =
    let b = bind_ok (int_at src place) (size_of place) y e in
    size_from src place b.0.0 b.0.1 y (int_found src place b.0 fits le b.1).0 b.2

pub small_fits : (n : ℕ) → n < 2 ^ 31 → FitsSigned w32 (pos n)
small_fits n lt = omega (arith, ints)

null_fits : FitsSigned w32 (negsuc 0)
null_fits = omega (arith, ints)

pub size_again : (o : Option ℕ) (src rest : List ℕ) (place : ℕ) → HasSize o → drop place src ≡ size_bytes o ++ rest → size_at src place ≡ Ok (o, place + 4)
size_again None src rest place fits e = rw (int_again (negsuc 0) src rest place null_fits e) refl
size_again (Some n) src rest place fits e = rw (int_again (pos n) src rest place (small_fits n fits) e) refl

abbrev pub IsSized : Kind → Type 0
IsSized k = (k ≡ Ustring) ⊎ (k ≡ Buffer) ⊎ (k ≡ Count)

refused_size : (k : Kind) (src : List ℕ) (place : ℕ) (z : ℤ) (after : ℕ) (f : Fault) → IsSized k → first_int (drop place src) ≡ z → 4 ≤ length (drop place src) → size_of place (z, after) ≡ Err f → IsBadAt k src place f
refused_size k src place (pos n) after f sized first long e = absurd cc
refused_size k src place (negsuc zero) after f sized first long e = absurd cc
refused_size k src place (negsuc (suc n)) after f sized first long e =
    let same : fault_of place BadLength ≡ f = cc in
    let low : first_int (drop place src) <ℤ negsuc 0 = rw first (omega (arith, ints)) in
    subst (IsBadAt k src place) same (record { behind = 0; at = omega arith; bad = bad_length k (drop place src) sized long low })

has_four : (src : List ℕ) (place : ℕ) (text : List ℕ) (end : ℕ) → length text ≡ 4 → BytesAt text src place end → 4 ≤ length (drop place src)
has_four src place text end four s = omega (arith, ap length s.parts, length-append text (drop end src))

pub size_bad : (k : Kind) (src : List ℕ) (place : ℕ) (f : Fault) → IsSized k → width_of k ≡ 4 → IsBytes src → place ≤ length src → size_at src place ≡ Err f → IsBadAt k src place f
size_bad k src place f sized wide fits le e =
    elim (bind_err (int_at src place) (size_of place) f e) [
      | inl bad ↦ int_bad k src place f wide bad
      | inr b ↦
          let r = int_found src place b.0 fits le b.1 in
          refused_size k src place b.0.0 b.0.1 f sized (sym r.1) (has_four src place (int_bytes b.0.0) b.0.1 (len32 b.0.0) r.0.stands) b.2
    ]

-- ---- a length and that many bytes

run_from : (src : List ℕ) (place : ℕ) (o : Option ℕ) (after : ℕ) (y : Option (List ℕ) × ℕ) → IsBytes src → IsRead (size_bytes o) src place after (HasSize o) → content_of src place (o, after) ≡ Ok y → IsRead (run_bytes y.0) src place y.1 (HasBytes (ABuffer y.0))
run_from src place None after y fits r e =
    let same : ◌≡◌ {A = Option (List ℕ) × ℕ} (None, after) y = cc in
    subst (λ (y : Option (List ℕ) × ℕ). IsRead (run_bytes y.0) src place y.1 (HasBytes (ABuffer y.0))) same (record { stands = r.stands; has_bytes = tt })
run_from src place (Some n) after y fits r e =
    let text = take n (drop after src) in
    let g = guard_ok (ltb (length src - after) n) (fault_of place Short) (Some text, after + n) y e in
    let long : n ≤ length src - after = ltb-false _ _ g.0 in
    let len : length text ≡ n = omega (arith, length-take n (drop after src), length-drop after src) in
    let both = BytesAt-then r.stands (taken src after n r.stands.within long) in
    let whole : BytesAt (run_bytes (Some text)) src place (after + n) = subst (λ (k : ℕ). BytesAt (int_bytes (pos k) ++ text) src place (after + n)) (sym len) both in
    let small : n < 2 ^ 31 = r.has_bytes in
    let bytes = IsBytes-take n (drop after src) (IsBytes-drop after src fits) in
    subst (λ (y : Option (List ℕ) × ℕ). IsRead (run_bytes y.0) src place y.1 (HasBytes (ABuffer y.0))) g.1 (record { stands = whole; has_bytes = (all_bytes text bytes, omega arith) })

pub run_found : (src : List ℕ) (place : ℕ) (y : Option (List ℕ) × ℕ) → IsBytes src → place ≤ length src → run_at src place ≡ Ok y → IsRead (run_bytes y.0) src place y.1 (HasBytes (ABuffer y.0))
run_found src place y fits le e =
    let b = bind_ok (size_at src place) (content_of src place) y e in
    run_from src place b.0.0 b.0.1 y fits (size_found src place b.0 fits le b.1) b.2

abbrev pub IsSmall : Option (List ℕ) → Type 0
IsSmall None = Unit {0}
IsSmall (Some text) = length text < 2 ^ 31

pub run_again : (o : Option (List ℕ)) (src rest : List ℕ) (place : ℕ) → place ≤ length src → IsSmall o → drop place src ≡ run_bytes o ++ rest → run_at src place ≡ Ok (o, place + length (run_bytes o))
run_again None src rest place le small e = rw (size_again None src rest place tt e) refl
run_again (Some text) src rest place le small e =
    let split : drop place src ≡ int_bytes (pos (length text)) ++ (text ++ rest) = e ∙ append_assoc (int_bytes (pos (length text))) text rest in
    let s = BytesAt-from (int_bytes (pos (length text))) (text ++ rest) src place le split in
    let after : drop (place + 4) src ≡ text ++ rest = s.1 in
    let long : length src - (place + 4) ≡ length text + length rest = sym (length-drop (place + 4) src) ∙ ap length after ∙ length-append text rest in
    let test : ltb (length src - (place + 4)) (length text) ≡ false = le-ltb _ _ (omega arith) in
    let front : take (length text) (drop (place + 4) src) ≡ text = ap (take (length text)) after ∙ take_at text rest (length text) refl in
    let end : place + 4 + length text ≡ place + length (run_bytes (Some text)) = omega (arith, length-append (int_bytes (pos (length text))) text) in
    rw (size_again (Some (length text)) src (text ++ rest) place small split, test, front) (ap (λ (n : ℕ). is_read (Some text) n) end)

lacks_content : (k : Kind) (src : List ℕ) (place : ℕ) (o : Option ℕ) (after : ℕ) (f : Fault) → (k ≡ Ustring) ⊎ (k ≡ Buffer) → IsRead (size_bytes o) src place after (HasSize o) → content_of src place (o, after) ≡ Err f → IsBadAt k src place f
lacks_content k src place None after f kind r e = absurd cc
lacks_content k src place (Some n) after f kind r e =
    let g = guard_err (ltb (length src - after) n) (fault_of place Short) f (Some (take n (drop after src)), after + n) e in
    let lt : length src - after < n = ltb-true _ _ g.0 in
    let at = r.stands.at in
    let four = has_four src place (int_bytes (pos n)) after refl r.stands in
    let first : first_int (drop place src) ≡ pos n = first_from (pos n) (drop place src) (drop after src) (small_fits n r.has_bytes) r.stands.parts in
    let short : length (drop 4 (drop place src)) < n = omega (arith, length-drop 4 (drop place src), length-drop place src) in
    subst (IsBadAt k src place) g.1 (record { behind = 0; at = omega arith; bad = no_content k (drop place src) kind four (n, first, short) })

pub run_bad : (k : Kind) (src : List ℕ) (place : ℕ) (f : Fault) → (k ≡ Ustring) ⊎ (k ≡ Buffer) → IsSized k → width_of k ≡ 4 → IsBytes src → place ≤ length src → run_at src place ≡ Err f → IsBadAt k src place f
run_bad k src place f kind sized wide fits le e =
    elim (bind_err (size_at src place) (content_of src place) f e) [
      | inl bad ↦ size_bad k src place f sized wide fits le bad
      | inr b ↦ lacks_content k src place b.0.0 b.0.1 f kind (size_found src place b.0 fits le b.1) b.2
    ]
