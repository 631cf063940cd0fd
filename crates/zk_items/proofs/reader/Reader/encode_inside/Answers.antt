use Rattle.std.proofs.Common.{◌≡◌, ◌∷◌, [], ◌++◌, ◌-◌, ◌+◌, List, ℕ, length, drop, refl, ap, sym, ◌∙◌, subst, arith, Some}
use Rattle.std.specs.Prelude.{IsUtf8}
use Rattle.zk_items.specs.{Many.many_at, Many.with_front, Leaf.symbol_at}
use Rattle.zk_items.proofs.Encoding.{chars_encoded}
use Rattle.zk_items.proofs.reader.Reader.encode_inside.Goals as goal

pub returns-clause-encoded : goal.returns-clause-encoded
returns-clause-encoded c =
    let line = c.args.self.now in
    let old = c.args.out.now.items in
    let room : List ℕ = 0 ∷ 0 ∷ 0 ∷ 0 ∷ [] in
    let mid = c.encode_chars.new.out.items in
    let start = c.len-start.result in
    let begins : start ≡ length old = omega (arith, c.len-start.ensures, c.args.out.now.ok.0) in
    let number : c.len.result - (start + 4) ≡ length mid - (start + 4) = omega (arith, c.len.ensures, c.encode_chars.new.out.ok.0) in
    let read : with_front (old ++ room) (many_at symbol_at (length line) line) ≡ Some (mid, c.encode_chars.new.self) =
    ap (λ (l : List ℕ). with_front l (many_at symbol_at (length line) line)) (sym c.in_ok-append.ensures.appended) ∙ c.in_ok-encode_chars.ensures.read in
    let text : IsUtf8 (drop (length (old ++ room)) mid) = subst (λ (l : List ℕ). IsUtf8 (drop (length l) mid)) c.in_ok-append.ensures.appended c.in_ok-encode_chars.ensures.text in
    chars_encoded line c.encode_chars.new.self old room mid c.set_count.new.out.items start _ begins refl read text number c.in_ok-set_count.ensures.small c.in_ok-set_count.ensures.set
