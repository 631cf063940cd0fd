use Rattle.std.proofs.Common.{◌≡◌, ◌+◌, ◌++◌, ◌∷◌, [], ℕ, length, take, drop, refl, subst, arith}
use Rattle.std.specs.Prelude.{pos}
use Rattle.zk_jute.specs.Item.{AnInt, bytes_of, int_bytes}
use Rattle.zk_lines.proofs.Counted.{counted}
use Rattle.zk_lines.proofs.list.encode_counted.Goals as goal

pub returns-clause-encoded : goal.returns-clause-encoded
returns-clause-encoded g c =
    let old = c.args.out.now.items in
    let last = c.encode_series.new.out.items in
    let new = c.set_count.new.out.items in
    let n = c.in_ok-count.count in
    let begins : c.len-start.result ≡ length old = omega (arith, c.len-start.ensures, c.args.out.now.ok.0) in
    counted g.T.Put.form.at g.T.Spell.items c.args.line.now c.encode_series.new.line old (bytes_of (AnInt (pos 0) ∷ [])) c.append.new.out.items last new n refl c.in_ok-append.ensures.appended.1 c.in_ok-count.ensures.encoded c.in_ok-set_count.ensures.small
    (subst (λ (s : ℕ). new ≡ take s last ++ (int_bytes (pos n) ++ drop (s + 4) last)) begins c.in_ok-set_count.ensures.set)
