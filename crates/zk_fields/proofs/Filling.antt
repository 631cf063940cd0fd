-- Bytes that come one behind the other into a room.
use Rattle.std.proofs.Common.{◌≡◌, ℕ, ◌+◌, ◌-◌, ◌<◌, ◌≤◌, List, [], ◌++◌, length, take, drop, sym, ap, subst, ◌∙◌, append_assoc, arith}
use Rattle.std.proofs.lemmas.List.{append-nil, length-append, length-drop, take_at, drop_at, take-append-drop, drop-drop}
use Rattle.std.proofs.lemmas.Slice.{take-put_mid, drop-put_mid}
use borrow.Rule.Slice.PartMut.{put_mid}
use Rattle.zk_fields.specs.Values.{IsFilled, Fills}

pub fills_nothing : (at : ℕ) (room : List ℕ) → Fills [] at room at room
unfolding Fills
fills_nothing at room before done is fits = rw (append-nil done) is

pub fills_both : (a b c : ℕ) (r s t x y : List ℕ) → Fills x a r b s → Fills y b s c t → Fills (x ++ y) a r c t
unfolding Fills
fills_both a b c r s t x y p q before done is fits =
    let one = p before done is (omega (arith, fits, length-append x y)) in
    let two = q before (done ++ x) one (omega (arith, fits, length-append x y, length-append done x)) in
    subst (λ (z : List ℕ). IsFilled before z c t) (append_assoc done x y) two

-- they are written to their place
pub fills_here : (bytes copied room : List ℕ) (at end : ℕ) → copied ≡ bytes → end ≡ at + length bytes → end ≤ length room → Fills bytes at room end (put_mid at (end - at) room copied)
unfolding Fills
fills_here bytes copied room at end same ends within before done is fits =
    let d = is.1 in
    let a = is.0 in
    let le : at ≤ length room = omega (arith, ends, within) in
    let long : length copied ≡ end - at = omega (arith, ends, ap length same) in
    let new = put_mid at (end - at) room copied in
    let front : take end new ≡ take at room ++ copied = take-put_mid at (end - at) room copied end (omega (arith, ends, ap length same)) le in
    let back : drop end new ≡ drop end room = drop-put_mid at (end - at) room copied end (omega (arith, ends)) le long in
    let first : take at room ≡ done = ap (take at) d ∙ take_at done (drop (length done) before) at (sym a) in
    let last : drop end room ≡ drop (length (done ++ bytes)) before =
    ap (λ (z : ℕ). drop z room) ends ∙ sym (drop-drop (length bytes) at room) ∙ ap (λ (z : List ℕ). drop (length bytes) (drop at z)) d ∙ ap (drop (length bytes)) (drop_at done (drop (length done) before) at (sym a))
    ∙ drop-drop (length bytes) (length done) before ∙ ap (λ (n : ℕ). drop n before) (sym (length-append done bytes)) in
    (omega (arith, ends, a, length-append done bytes), sym (take-append-drop end new) ∙ (λ k. front k ++ back k) ∙ (λ k. (first k ++ same k) ++ last k))

-- there is no room for them
pub fills_not : (bytes room : List ℕ) (at end : ℕ) → length room < at + length bytes → Fills bytes at room end room
unfolding Fills
fills_not bytes room at end past before done is fits =
    let rest : length (done ++ drop (length done) before) ≡ length done + length (drop (length done) before) = length-append done (drop (length done) before) in
    let least : length before ≤ length done + length (drop (length done) before) = omega (arith, length-drop (length done) before) in
    absurd (omega (arith, past, fits, is.0, ap length is.1, rest, least))
