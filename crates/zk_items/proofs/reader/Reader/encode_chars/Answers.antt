use Rattle.std.proofs.Common.{◌≡◌, ◌-◌, List, ℕ, length, take, drop, sym, ◌∙◌, subst, true, arith}
use Rattle.std.specs.Prelude.{IsUtf8}
use Rattle.zk_items.proofs.Encoding.{not_text, all_after}
use Rattle.zk_items.proofs.reader.Reader.encode_chars.Goals as goal

pub returns-else-is_text-clause-refused : goal.returns-else-is_text-clause-refused
returns-else-is_text-clause-refused c = λ _.
    let old = c.args.out.now.items in
    let mid = c.inside.new.bytes.items in
    let start = c.len-start.result in
    let begins : start ≡ length old = omega (arith, c.len-start.ensures, c.args.out.now.ok.0) in
    not_text c.args.self.now c.inside.new.self old mid (sym (c.in_ok-encode_plain.ensures.more c.if-branch.false) ∙ c.in_ok-inside.ensures.read)
    (λ u. let t : c.is_text.result ≡ true = c.is_text.ensures.1 (subst (λ (l : List ℕ). IsUtf8 (take (length l - start) (drop start l))) (sym c.deref.ensures.value) (subst IsUtf8 (sym (all_after mid start (length old) begins)) u)) in let f = c.if-is_text.false in cc)
