use Rattle.std.proofs.Common.{Vec, ◌≡◌, ◌≢◌, ℕ, ◌<◌, ◌+◌, List, ◌++◌, [], Bool, true, Option, sym, ap, ◌∙◌, subst, arith, length, take, eqb, eqb-true, get_or}
use Rattle.std.specs.{List.All, Io.KnownBytes.append_known}
use Rattle.std.proofs.lemmas.List.{nil_from_length}
use Rattle.zk_talk.specs.declared.limits.Limits.{Limits}
use Rattle.zk_listings.specs.declared.listing.RunFault.TheVariants.{Memory}
use Rattle.zk_listings.proofs.Exits.{if-err}
use Rattle.zk_runs.specs.{declared.builder.Builder.Builder, declared.builder.Halt.Halt, declared.builder.Halt.TheVariants.Fails, declared.builder.Scribe.Scribe, Accepting.HasTaken, Accepting.HaltsIn}
use Rattle.zk_runs.specs.Stepping.{HasBytes, HaltsOn, TakesLine}
use Rattle.zk_runs.proofs.Taken.{stops-more, taken-front, halts-block, taken-block, halts-same}
use Rattle.zk_runs.proofs.builder.Builder.advance.Goals as goal

-- a line that ends in the block
module _ (old : Builder) (new : Scribe) (block grown due due_now : List ℕ) (used : ℕ) (is : grown ≡ old.begun.items ++ take used block) (plain : All (λ b. b ≢ 10) (take used block))
    (within : used < length block) (found : used < length block → get_or block used 0 ≡ 10) where
  closed : TakesLine old.scribe new grown due due_now → (limits : Limits) (x : List ℕ) (before written : Option (List ℕ)) → HasBytes limits x before (append_known written due) old →
      HasTaken limits (x ++ take (used + 1) block) before (append_known written due_now) [] new.lines new.ended new.speaker
  closed goes limits x before written t =
      let front = taken-front limits x before _ _ _ _ _ t block used grown is plain in
      taken-block limits x before _ _ _ _ _ t block used grown is plain within (found within) _ _ _ _ (goes limits front.lines before written front.took)

  halted : (halt : Halt) → HaltsOn old.scribe grown halt → due_now ≡ due → new.lines ≡ old.scribe.lines → (limits : Limits) (x : List ℕ) (before written : Option (List ℕ)) →
      HasBytes limits x before (append_known written due) old → HaltsIn limits (x ++ block) before halt new.lines (append_known written due_now)
  halted halt halts same kept limits x before written t =
      let front = taken-front limits x before _ _ _ _ _ t block used grown is plain in
      halts-same limits _ before written _ _ halt _ _ same kept
      (halts-block limits x before _ _ _ _ _ t block used grown is plain within (found within) halt (halts limits front.lines before _ front.took))

none-begun : {Z : Type 0} (begun : Vec ℕ Z) (empty : Bool) → empty ≡ eqb begun.len 0 → empty ≡ true → begun.items ≡ []
none-begun begun empty is e = nil_from_length begun.items (omega (arith, begun.ok, eqb-true begun.len 0 (sym is ∙ e)))

pub returns-in_err-extend_from_slice-clause-halts : goal.returns-in_err-extend_from_slice-clause-halts
returns-in_err-extend_from_slice-clause-halts c =
    if-err _ (Fails Memory) _ c.from_residual.ensures.1 (λ limits x before written t. stops-more limits x before _ _ _ _ _ t c.args.block.now)

pub returns-then-used-block-clause-goes_on : goal.returns-then-used-block-clause-goes_on
returns-then-used-block-clause-goes_on c = λ limits x before written t.
    taken-front limits x before _ _ _ _ _ t c.args.block.now c.len_before_feed-used.result _ c.in_ok-extend_from_slice.ensures.items c.len_before_feed-used.ensures.before

-- a line that is begun in an earlier block

pub returns-in_err-extend_from_slice-2-clause-halts : goal.returns-in_err-extend_from_slice-2-clause-halts
returns-in_err-extend_from_slice-2-clause-halts c =
    if-err _ (Fails Memory) _ c.from_residual-in_err-extend_from_slice-2.ensures.1 (λ limits x before written t. stops-more limits x before _ _ _ _ _ t c.args.block.now)

pub returns-in_err-close-clause-halts : goal.returns-in_err-close-clause-halts
returns-in_err-close-clause-halts c =
    let used = c.len_before_feed-used.result in
    let within : used < length c.args.block.now = omega (arith, c.if-used-block.false, c.len_before_feed-used.ensures.within) in
    if-err _ c.in_err-close.field-0.0 _ c.from_residual-in_err-close.ensures.1
    (halted c.args.self.now c.close.new.self c.args.block.now _ _ _ used (c.deref.ensures.value ∙ c.in_ok-extend_from_slice-2.ensures.items) c.len_before_feed-used.ensures.before within
    c.len_before_feed-used.ensures.found c.in_err-close.field-0.0 c.in_err-close.ensures.halts c.in_err-close.ensures.same c.in_err-close.ensures.kept)

pub returns-then-not-is_empty-clause-goes_on : goal.returns-then-not-is_empty-clause-goes_on
returns-then-not-is_empty-clause-goes_on c =
    let used = c.len_before_feed-used.result in
    let within : used < length c.args.block.now = omega (arith, c.if-used-block.false, c.len_before_feed-used.ensures.within) in
    λ limits x before written t.
    rw c.clear.ensures.items (closed c.args.self.now c.close.new.self c.args.block.now _ c.args.due.now.items c.close.new.due.items used (c.deref.ensures.value ∙ c.in_ok-extend_from_slice-2.ensures.items)
    c.len_before_feed-used.ensures.before within c.len_before_feed-used.ensures.found c.in_ok-close.ensures.goes_on limits x before written t)

-- a line that lies whole in the block

pub returns-in_err-close-2-clause-halts : goal.returns-in_err-close-2-clause-halts
returns-in_err-close-2-clause-halts c =
    let used = c.len_before_feed-used.result in
    let none = none-begun c.args.self.now.begun _ c.is_empty.ensures c.if-not-is_empty.false in
    let within : used < length c.args.block.now = omega (arith, c.if-used-block.false, c.len_before_feed-used.ensures.within) in
    if-err _ c.in_err-close-2.field-0.0 _ c.from_residual-in_err-close-2.ensures.1
    (halted c.args.self.now c.close-2.new.self c.args.block.now (take used c.args.block.now) _ _ used (sym (ap (λ b. b ++ take used c.args.block.now) none)) c.len_before_feed-used.ensures.before within
    c.len_before_feed-used.ensures.found c.in_err-close-2.field-0.0 c.in_err-close-2.ensures.halts c.in_err-close-2.ensures.same c.in_err-close-2.ensures.kept)

pub returns-clause-goes_on : goal.returns-clause-goes_on
returns-clause-goes_on c =
    let used = c.len_before_feed-used.result in
    let none = none-begun c.args.self.now.begun _ c.is_empty.ensures c.if-not-is_empty.false in
    let within : used < length c.args.block.now = omega (arith, c.if-used-block.false, c.len_before_feed-used.ensures.within) in
    let new = c.close-2.new.self in
    λ limits x before written t.
    subst (λ b. HasTaken limits (x ++ take (used + 1) c.args.block.now) before (append_known written c.close-2.new.due.items) b new.lines new.ended new.speaker) (sym none)
    (closed c.args.self.now new c.args.block.now (take used c.args.block.now) c.args.due.now.items c.close-2.new.due.items used (sym (ap (λ b. b ++ take used c.args.block.now) none))
    c.len_before_feed-used.ensures.before within c.len_before_feed-used.ensures.found c.in_ok-close-2.ensures.goes_on limits x before written t)
