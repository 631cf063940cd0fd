use Rattle.std.proofs.Common.{inl, inr, refl, arith}
use Rattle.zk_earliest.specs.Numbers.{whole, three, two, one, no_byte}
use Rattle.zk_earliest.proofs.Meets.{exact}
use Rattle.zk_earliest.proofs.possible_lengths.front.Goals as goal

pub returns-then-meets : goal.returns-then-meets
returns-then-meets c = whole (exact c.args.numbers c.args.number (c.if-meets.ensures.0 refl))

pub returns-then-meets-2 : goal.returns-then-meets-2
returns-then-meets-2 c =
    let m = c.if-meets-2.ensures.0 refl in
    three ((m.0, m.1, (m.2, m.3)), λ n may near. let e = c.if-meets.ensures.1 (n, may, let l = near.0 in omega arith, let h = near.1 in omega arith) in absurd cc)

pub returns-then-meets-3 : goal.returns-then-meets-3
returns-then-meets-3 c =
    let m = c.if-meets-3.ensures.0 refl in
    two ((m.0, m.1, (m.2, m.3)), λ n may near. let e = c.if-meets-2.ensures.1 (n, may, near.0, near.1) in absurd cc)

pub returns-then-meets-4 : goal.returns-then-meets-4
returns-then-meets-4 c =
    let m = c.if-meets-4.ensures.0 refl in
    one ((m.0, m.1, (m.2, m.3)), λ n may near. let e = c.if-meets-3.ensures.1 (n, may, near.0, near.1) in absurd cc)

pub returns : goal.returns
returns c = no_byte c.args.numbers.from (inr (inl (omega arith, c.requires.some))) (λ n may near. let e = c.if-meets-4.ensures.1 (n, may, near.0, near.1) in absurd cc)
