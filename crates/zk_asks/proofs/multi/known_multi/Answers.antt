use Rattle.std.proofs.Common.{◌≡◌, ◌+◌, ◌≤◌, ℕ, Bool, List, length, true, false, refl, sym, subst, ◌∙◌, arith}
use Rattle.zk_jute.specs.{Item.Item, Item.HaveBytes, Told.StandsAt, Standing.OneStands}
use Rattle.zk_jute.proofs.Stretches.{none_passed, one_passed}
use Rattle.zk_asks.specs.Parts.{end_header, ended}
use Rattle.zk_asks.proofs.Ended.{behind, mark_left, next_is, end_is, all_told, all_passed}
use Rattle.zk_asks.proofs.multi.known_multi.Given as given
use Rattle.zk_asks.proofs.multi.known_multi.Goals as goal

pub loop-place-init : goal.loop-place-init
loop-place-init g c = record { within = c.requires.within; left = c.requires.stand; few = omega arith; passed = none_passed g.M.Member.items c.args.payload.now c.args.place c.requires.within }

pub known_at-requires : goal.known_at-requires
known_at-requires g c κs = let i = c.loop-place.invariant in ((refl, tt), (i.within, mark_left g.M.Member.items c.args.payload.now c.loop-place.at i.within c.requires.headed i.left))

pub known-requires : goal.known-requires
known-requires g c = let i = c.loop-place.invariant in all_told g.M.Member.items c.args.payload.now c.requires.headed (g.M.Member.value c.args.payload.now) c.requires.told c.args.place c.loop-place.at c.loop-place.count c.requires.within i.passed

pub returns-then-is_end : goal.returns-then-is_end
returns-then-is_end g c = λ ms end have stands.
    let items = g.M.Member.items in
    let src = c.args.payload.now in
    let i = c.loop-place.invariant in
    let e = end_is items src c.loop-place.at i.within c.requires.headed c.known_at.result c.known_at.ensures (c.is_end.ensures.0 c.if-is_end.true) i.left in
    c.known.ensures ∙ all_passed items src c.requires.headed (g.M.Member.value src) c.requires.told c.args.place c.loop-place.at c.loop-place.count e.0 c.requires.within i.passed e.1 ms end (have, stands)

not_there : (b : Bool) → (P : Type 0) → (P → b ≡ true) → b ≡ false → P → ⊥
not_there b P is e p = let q : ◌≡◌ {A = Bool} true false = sym (is p) ∙ e in absurd cc

pub pass-next-requires : goal.pass-next-requires
pass-next-requires g c =
    let i = c.loop-place.invariant in
    let n = next_is g.M.Member.items c.args.payload.now c.loop-place.at i.within c.requires.headed c.known_at.result c.known_at.ensures (not_there c.is_end.result (c.known_at.result.0 ≡ end_header) c.is_end.ensures.1 c.if-is_end.false) i.left in
    record { place = i.within; known = (n.0, behind g.M.Member.items c.args.payload.now c.loop-place.at i.within n.0, n.1.0, n.1.1) }

-- the value that was passed, and where it ends
abbrev Passed : {X : Type 0} → (X → List Item) → List ℕ → ℕ → ℕ → Type 0
Passed {X} items src at next = (x : X) × HaveBytes (items x) × StandsAt (items x) src at next × OneStands (ended items) src next × (next ≤ length src) × (at + 9 ≤ next)

passed : (g : given.Over) (c : goal.After-drop-pass g) → Passed g.M.Member.items c.args.payload.now c.loop-place.at c.pass-next.result.1
passed g c =
    let items = g.M.Member.items in
    let src = c.args.payload.now in
    let at = c.loop-place.at in
    let i = c.loop-place.invariant in
    let n = next_is items src at i.within c.requires.headed c.known_at.result c.known_at.ensures (not_there c.is_end.result (c.known_at.result.0 ≡ end_header) c.is_end.ensures.1 c.if-is_end.false) i.left in
    let end = behind items src at i.within n.0 in
    subst (Passed items src at) (sym (c.pass-next.ensures.only n.0 end n.1.0 n.1.1)) (n.0, n.1.0, n.1.1, n.1.2, n.1.3, n.1.4)

pub loop-place-smaller : goal.loop-place-smaller
loop-place-smaller g c = let q = passed g c in omega (arith, q.4, q.5)

pub loop-place-preserved : goal.loop-place-preserved
loop-place-preserved g c =
    let i = c.loop-place.invariant in
    let q = passed g c in
    record {
      within = q.4;
      left = q.3;
      few = omega (arith, i.few, q.5);
      passed = one_passed g.M.Member.items c.args.payload.now c.args.place c.loop-place.at c.pass-next.result.1 c.loop-place.count i.passed q.0 q.1 q.2;
    }
